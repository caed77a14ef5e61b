use Rattle.std.proofs.Common.{◌≡◌}
use Rattle.serde_json.specs.View.{members_view}
use Rattle.sng_places.specs.Places.{other_of}
use Rattle.sng_places.proofs.grant.other_of.Given as goal

abbrev pub invariant-loop-name : goal.invariant-loop-name
invariant-loop-name l = other_of (members_view l.name-iterator) ≡ other_of (members_view l.members.entries)
