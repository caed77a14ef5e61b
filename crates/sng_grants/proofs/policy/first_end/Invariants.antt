use Rattle.std.proofs.Common.{◌≡◌}
use Rattle.sng_grants.specs.Sources.{sooner, first_end}
use Rattle.sng_grants.proofs.policy.first_end.Given as goal

abbrev pub invariant-loop-grant : goal.invariant-loop-grant
invariant-loop-grant g l = sooner l.first (first_end l.grant-iterator) ≡ first_end l.fn.listed
