use Rattle.std.proofs.Common.{ℕ, List, ◌≡◌, ◌≤◌, ◌<◌, false}
use Rattle.sng_cover.specs.Covering.{is_open}
use Rattle.sng_cover.specs.Gathered.{ReachedBy, IsProfile}
use Rattle.sng_cover.proofs.depths.gap_depth.Given as goal

abbrev pub invariant-loop-depth : goal.invariant-loop-depth
invariant-loop-depth l =
    (granted : List (List ℕ)) → ReachedBy l.reached l.asked granted → IsProfile l.profile granted → (less : ℕ)
    → 1 ≤ less → less < l.depth → is_open l.asked granted less ≡ false
