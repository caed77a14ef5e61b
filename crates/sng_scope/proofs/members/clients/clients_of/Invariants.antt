use Rattle.std.proofs.Common.{◌≡◌, ◌+◌, ◌≤◌, [], length}
use Rattle.serde_json.specs.View.{members_view}
use Rattle.sng_scope.specs.Policies.{clients_onto}
use Rattle.sng_scope.proofs.members.clients.clients_of.Given as goal

abbrev pub invariant-loop-name : goal.invariant-loop-name
invariant-loop-name l =
    (clients_onto l.ends l.clients (members_view l.name-iterator) ≡ clients_onto l.ends [] (members_view l.members.entries))
    × (length l.clients + length l.name-iterator ≤ length l.members.entries)
