use Rattle.std.proofs.Common.{◌≡◌}
use Rattle.serde_json.specs.View.{members_view}
use Rattle.sng_places.specs.Places.{clients_check}
use Rattle.sng_places.proofs.entries.check_clients.Given as goal

abbrev pub invariant-loop-name : goal.invariant-loop-name
invariant-loop-name l =
    clients_check l.ends (members_view l.name-iterator) ≡ clients_check l.ends (members_view l.members.entries)
