use Rattle.std.proofs.Common.{◌≡◌, ℕ}
use Rattle.std.specs.BTreeMap.{get}
use Rattle.std.specs.Ordering.{nat_cmp}
use Rattle.sng_standing.proofs.Joins.{gathered}
use Rattle.sng_standing.proofs.found.gather.Given as goal

abbrev pub invariant-loop-client : goal.invariant-loop-client
invariant-loop-client l = (n : ℕ) → gathered (get nat_cmp l.found n) l.client-iterator n
    ≡ gathered (get nat_cmp l.fn.found n) l.fn.holders.entries n
