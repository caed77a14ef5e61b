use Rattle.std.proofs.Common.{◌≡◌, drop}
use Rattle.sng_policy.specs.Grants.{has_filter}
use Rattle.sng_policy.proofs.subscriptions.has_filter.Given as goal

abbrev pub invariant-loop-pair : goal.invariant-loop-pair
invariant-loop-pair l = has_filter (drop l.pair-index l.pairs) l.filter ≡ has_filter l.pairs l.filter
