use Rattle.std.proofs.Common.{◌≡◌}
use Rattle.serde_json.specs.View.{members_view}
use Rattle.sng_places.specs.Places.{unknown_of}
use Rattle.sng_places.proofs.policy.unknown_of.Given as goal

abbrev pub invariant-loop-name : goal.invariant-loop-name
invariant-loop-name l =
    unknown_of l.limited (members_view l.name-iterator) ≡ unknown_of l.limited (members_view l.members.entries)
