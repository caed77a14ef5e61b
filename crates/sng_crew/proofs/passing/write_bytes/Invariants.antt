use Rattle.std.proofs.Common.{◌-◌, ◌≤◌, length, take}
use Rattle.std.specs.Prelude.{true}
use Rattle.sng_crew.specs.Turning.{Writes}
use Rattle.sng_crew.proofs.passing.write_bytes.Given as goal

abbrev pub invariant-loop-at : goal.invariant-loop-at
invariant-loop-at g l = record {
  within : l.at ≤ length l.bytes;
  writes : Writes g.U.Upstream.tells g.U.Upstream.did l.fn.up l.up (take l.at l.bytes) true;
}

abbrev pub decreases-loop-at : goal.decreases-loop-at
decreases-loop-at g l = length l.bytes - l.at
