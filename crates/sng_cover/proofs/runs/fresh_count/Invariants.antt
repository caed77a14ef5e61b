use Rattle.std.proofs.Common.{ℕ, ◌≡◌, ◌≤◌, ◌<◌, true}
use Rattle.sng_cover.specs.Marks.{is_marked}
use Rattle.sng_cover.proofs.runs.fresh_count.Given as goal

abbrev pub invariant-loop-count : goal.invariant-loop-count
invariant-loop-count l = (less : ℕ) → 1 ≤ less → less < l.count → is_marked l.runs less ≡ true
