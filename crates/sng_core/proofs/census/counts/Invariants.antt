use Rattle.std.proofs.Common.{◌≡◌, drop}
use Rattle.sng_core.specs.Census.{counted_from, counts_of}
use Rattle.sng_core.proofs.census.counts.Given as goal

abbrev pub invariant-loop-place : goal.invariant-loop-place
invariant-loop-place l = counted_from l.counts (drop l.place l.sessions) ≡ counts_of l.sessions
