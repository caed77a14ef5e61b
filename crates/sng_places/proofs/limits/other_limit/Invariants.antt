use Rattle.std.proofs.Common.{◌≡◌}
use Rattle.serde_json.specs.View.{members_view}
use Rattle.sng_places.specs.LimitPlaces.{other_limit}
use Rattle.sng_places.proofs.limits.other_limit.Given as goal

abbrev pub invariant-loop-name : goal.invariant-loop-name
invariant-loop-name l =
    other_limit (members_view l.name-iterator) ≡ other_limit (members_view l.members.entries)
