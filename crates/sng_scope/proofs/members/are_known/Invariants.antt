use Rattle.std.proofs.Common.{◌≡◌}
use Rattle.serde_json.specs.View.{members_view}
use Rattle.sng_scope.specs.Policies.{are_known}
use Rattle.sng_scope.proofs.members.are_known.Given as goal

abbrev pub invariant-loop-name : goal.invariant-loop-name
invariant-loop-name l =
    are_known l.limited (members_view l.name-iterator) ≡ are_known l.limited (members_view l.members.entries)
