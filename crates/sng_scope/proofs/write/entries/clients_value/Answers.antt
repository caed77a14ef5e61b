use Rattle.std.proofs.Common.{◌≡◌, ℕ, true, List, All, sym, ap, subst, ◌∙◌}
use Rattle.std.proofs.lemmas.List.Elements.{All-nil, All-cons}
use Rattle.std.specs.Str.{IsUtf8}
use Rattle.std.specs.Map.{keys_of, values_of}
use Rattle.serde_json.specs.Data.{put}
use Rattle.serde_json.specs.View.{view, members_view}
use Rattle.sng_text.specs.ClientIds.{is_client_id}
use Rattle.sng_scope.specs.Bounds.{IsGrant}
use Rattle.sng_grants.specs.declared.grant.Grant.{Grant}
use Rattle.sng_scope.specs.Written.{grant_data}
use Rattle.sng_scope.proofs.WriteLemmas.{client-utf8, written_more}
use Rattle.sng_scope.proofs.write.entries.clients_value.Goals as goal

abbrev IsClient : List ℕ → Type 0
IsClient client = is_client_id client ≡ true

abbrev Entries : Type 0
Entries = List (List ℕ × Grant)

pub text_of-requires : goal.text_of-requires
text_of-requires c =
    subst IsUtf8 (sym c.text.ensures.value) (client-utf8 c.in-Some.client.now c.text.ensures.client_id)

pub loop-client-preserved : goal.loop-client-preserved
loop-client-preserved c =
    let l = c.loop-client.invariant in
    let steps = c.in-Some.ensures.steps in
    let client = c.in-Some.client.now in
    let grant = c.in-Some.grant.now in
    record {
      written =
          written_more (λ (k : List ℕ). k) grant_data (members_view c.loop-client.members.entries)
          (members_view c.put.new.map.entries) c.loop-client.client-iterator c.next.new.self (client, grant) _
          steps
          (c.in_ok-put.ensures.ok
          ∙ ap (λ k. put k (view c.in_ok-value.value) (members_view c.loop-client.members.entries))
          (c.text_of.ensures ∙ c.text.ensures.value)
          ∙ ap (λ d. put client d (members_view c.loop-client.members.entries)) c.in_ok-value.ensures.json)
          l.written;
      keys = λ rest. l.keys (subst (λ (es : Entries). All IsClient (keys_of es)) (sym steps)
          (All-cons IsClient client (keys_of c.next.new.self) c.text.ensures.client_id rest));
      values = λ rest. l.values (subst (λ (es : Entries). All IsGrant (values_of es)) (sym steps)
          (All-cons IsGrant grant (values_of c.next.new.self) c.in_ok-value.ensures.within rest));
    }

pub returns-clause-within : goal.returns-clause-within
returns-clause-within c = λ most few.
    let l = c.loop-client.invariant in
    let none = c.in-None.ensures.steps.0 in
    record {
      few = few;
      keys = l.keys (subst (λ (es : Entries). All IsClient (keys_of es)) (sym none) (All-nil IsClient));
      values = l.values (subst (λ (es : Entries). All IsGrant (values_of es)) (sym none) (All-nil IsGrant));
    }
