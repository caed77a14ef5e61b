use Rattle.std.proofs.Common.{arith}
use Rattle.sng_grants.proofs.OrderLemmas.{sorted-none}
use Rattle.sng_grants.proofs.listed.Listed.new.Goals as goal

pub invariant_of-result : goal.invariant_of-result
invariant_of-result g c = (omega arith, sorted-none g.K.Ord.cmp)
