use Rattle.std.proofs.Common.{◌≡◌, drop}
use Rattle.sng_policy.specs.Grants.{is_granted}
use Rattle.sng_policy.proofs.permission.is_granted.Given as goal

abbrev pub invariant-loop-pair : goal.invariant-loop-pair
invariant-loop-pair l =
    is_granted l.permission (drop l.pair-index l.pairs) l.name ≡ is_granted l.permission l.pairs l.name
