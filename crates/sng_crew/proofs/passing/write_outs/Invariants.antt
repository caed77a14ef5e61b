use Rattle.std.proofs.Common.{take}
use Rattle.std.specs.Prelude.{true}
use Rattle.sng_crew.specs.Wires.{wires_in}
use Rattle.sng_crew.specs.Turning.{Writes}
use Rattle.sng_crew.proofs.passing.write_outs.Given as goal

abbrev pub invariant-loop-out : goal.invariant-loop-out
invariant-loop-out g l = Writes g.U.Upstream.tells g.U.Upstream.did l.fn.up l.up
    (wires_in (take l.out-index l.outs)) true
