use Rattle.std.proofs.Common.{◌≡◌}
use Rattle.serde_json.specs.View.{members_view}
use Rattle.sng_scope.specs.PolicyLimits.{are_limits}
use Rattle.sng_scope.proofs.limits_form.are_limits.Given as goal

abbrev pub invariant-loop-name : goal.invariant-loop-name
invariant-loop-name l = are_limits (members_view l.name-iterator) ≡ are_limits (members_view l.members.entries)
