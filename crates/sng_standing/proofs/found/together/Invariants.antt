use Rattle.std.proofs.Common.{◌≡◌, ℕ, drop}
use Rattle.std.specs.BTreeMap.{get}
use Rattle.std.specs.Ordering.{nat_cmp}
use Rattle.sng_standing.specs.Found.{best_of}
use Rattle.sng_standing.specs.Greatest.{joined}
use Rattle.sng_standing.proofs.found.together.Given as goal

abbrev pub invariant-loop-holders : goal.invariant-loop-holders
invariant-loop-holders l = (n : ℕ)
    → joined (get nat_cmp l.all n) (best_of (drop l.holders-index l.found) n) ≡ best_of l.found n
