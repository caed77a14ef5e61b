use Rattle.std.proofs.Common.{◌≡◌, true, All}
use Rattle.std.specs.Map.{keys_of, values_of}
use Rattle.serde_json.specs.Data.{no_members}
use Rattle.serde_json.specs.View.{members_view}
use Rattle.sng_text.specs.ClientIds.{is_client_id}
use Rattle.sng_scope.specs.Bounds.{IsGrant}
use Rattle.sng_scope.specs.Written.{grant_data, with_members}
use Rattle.sng_scope.proofs.write.entries.clients_value.Given as goal

abbrev pub invariant-loop-client : goal.invariant-loop-client
invariant-loop-client l = record {
  written : with_members (λ client. client) grant_data (members_view l.members.entries) l.client-iterator
      ≡ with_members (λ client. client) grant_data no_members l.clients;
  keys : All (λ client. is_client_id client ≡ true) (keys_of l.client-iterator)
      → All (λ client. is_client_id client ≡ true) (keys_of l.clients);
  values : All IsGrant (values_of l.client-iterator) → All IsGrant (values_of l.clients);
}
