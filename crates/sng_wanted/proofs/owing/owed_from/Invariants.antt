use Rattle.std.proofs.Common.{◌≡◌, ◌≤◌, ◌<◌, ℕ, false}
use Rattle.sng_wanted.specs.Shown.{owed_at}
use Rattle.sng_wanted.proofs.owing.owed_from.Given as goal

abbrev pub invariant-loop-place : goal.invariant-loop-place
invariant-loop-place l = (p : ℕ) → l.from ≤ p → p < l.place → owed_at l.filters.entries p ≡ false
