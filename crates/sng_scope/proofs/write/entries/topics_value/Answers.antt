use Rattle.std.proofs.Common.{◌≡◌, ℕ, true, List, All, sym, ap, subst, ◌∙◌}
use Rattle.std.proofs.lemmas.List.Elements.{All-nil, All-cons}
use Rattle.std.specs.Fmt.{decimal}
use Rattle.std.specs.Str.{IsUtf8}
use Rattle.std.specs.Map.{values_of}
use Rattle.serde_json.specs.Data.{string, put}
use Rattle.serde_json.specs.View.{view, members_view}
use Rattle.sng_text.specs.Texts.{is_name}
use Rattle.sng_scope.proofs.WriteLemmas.{name-utf8, written_more}
use Rattle.sng_scope.proofs.write.entries.topics_value.Goals as goal

abbrev IsName : List ℕ → Type 0
IsName name = is_name name ≡ true

abbrev Entries : Type 0
Entries = List (ℕ × List ℕ)

pub string_of-requires : goal.string_of-requires
string_of-requires c =
    subst IsUtf8 (sym c.text.ensures.value) (name-utf8 c.in-Some.topic.now c.text.ensures.name)

pub loop-id-preserved : goal.loop-id-preserved
loop-id-preserved c =
    let l = c.loop-id.invariant in
    let steps = c.in-Some.ensures.steps in
    let id = c.in-Some.id.now in
    let topic = c.in-Some.topic.now in
    record {
      written =
          written_more decimal string (members_view c.loop-id.members.entries)
          (members_view c.put.new.map.entries) c.loop-id.id-iterator c.next.new.self (id, topic) _ steps
          (c.in_ok-put.ensures.ok
          ∙ ap (λ k. put k (view c.in_ok-value.value) (members_view c.loop-id.members.entries))
          (c.as_str.ensures.value ∙ c.in_ok-name.ensures)
          ∙ ap (λ d. put (decimal id) d (members_view c.loop-id.members.entries))
          (c.in_ok-value.ensures ∙ ap string c.text.ensures.value))
          l.written;
      values = λ rest. l.values (subst (λ (es : Entries). All IsName (values_of es)) (sym steps)
          (All-cons IsName topic (values_of c.next.new.self) c.text.ensures.name rest));
    }

pub returns-clause-within : goal.returns-clause-within
returns-clause-within c = λ most few.
    let none = c.in-None.ensures.steps.0 in
    record {
      few = few;
      keys = c.len-count.ensures.ids;
      values = c.loop-id.invariant.values
          (subst (λ (es : Entries). All IsName (values_of es)) (sym none) (All-nil IsName));
    }
