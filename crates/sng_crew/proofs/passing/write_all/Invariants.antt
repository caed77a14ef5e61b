use Rattle.std.proofs.Common.{take}
use Rattle.std.specs.Prelude.{true}
use Rattle.sng_crew.specs.Wires.{wires_of}
use Rattle.sng_crew.specs.Turning.{Writes}
use Rattle.sng_crew.proofs.passing.write_all.Given as goal

abbrev pub invariant-loop-receipt : goal.invariant-loop-receipt
invariant-loop-receipt g l = Writes g.U.Upstream.tells g.U.Upstream.did l.fn.up l.up
    (wires_of (take l.receipt-index l.receipts)) true
