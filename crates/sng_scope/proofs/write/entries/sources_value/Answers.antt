use Rattle.std.proofs.Common.{ℕ, List, All, sym, ap, subst, ◌∙◌}
use Rattle.std.proofs.lemmas.List.Elements.{All-nil, All-cons}
use Rattle.std.specs.Map.{keys_of, values_of}
use Rattle.serde_json.specs.Data.{put}
use Rattle.serde_json.specs.View.{view, members_view}
use Rattle.sng_text.specs.Ipv4.{IsAddress}
use Rattle.sng_scope.specs.Bounds.{IsGrant}
use Rattle.sng_grants.specs.declared.grant.Grant.{Grant}
use Rattle.sng_scope.specs.Written.{dotted, grant_data}
use Rattle.sng_scope.proofs.WriteLemmas.{written_more}
use Rattle.sng_scope.proofs.write.entries.sources_value.Goals as goal

abbrev Entries : Type 0
Entries = List (List ℕ × Grant)

pub loop-source-preserved : goal.loop-source-preserved
loop-source-preserved c =
    let l = c.loop-source.invariant in
    let steps = c.in-Some.ensures.steps in
    let source = c.in-Some.source.now in
    let grant = c.in-Some.grant.now in
    record {
      written =
          written_more dotted grant_data (members_view c.loop-source.members.entries)
          (members_view c.put.new.map.entries) c.loop-source.source-iterator c.next.new.self (source, grant) _
          steps
          (c.in_ok-put.ensures.ok
          ∙ ap (λ k. put k (view c.in_ok-value.value) (members_view c.loop-source.members.entries))
          (c.as_str.ensures.value ∙ c.in_ok-name.ensures.text)
          ∙ ap (λ d. put (dotted source) d (members_view c.loop-source.members.entries))
          c.in_ok-value.ensures.json)
          l.written;
      keys = λ rest. l.keys (subst (λ (es : Entries). All IsAddress (keys_of es)) (sym steps)
          (All-cons IsAddress source (keys_of c.next.new.self) c.in_ok-name.ensures.within rest));
      values = λ rest. l.values (subst (λ (es : Entries). All IsGrant (values_of es)) (sym steps)
          (All-cons IsGrant grant (values_of c.next.new.self) c.in_ok-value.ensures.within rest));
    }

pub returns-clause-within : goal.returns-clause-within
returns-clause-within c = λ most few.
    let l = c.loop-source.invariant in
    let none = c.in-None.ensures.steps.0 in
    record {
      few = few;
      keys = l.keys (subst (λ (es : Entries). All IsAddress (keys_of es)) (sym none) (All-nil IsAddress));
      values = l.values (subst (λ (es : Entries). All IsGrant (values_of es)) (sym none) (All-nil IsGrant));
    }
