use Rattle.std.proofs.Common.{take}
use Rattle.sng_desk.specs.Acts.{Moves, sends_of}
use Rattle.sng_crew.proofs.passing.send_all.Given as goal

abbrev pub invariant-loop-receipt : goal.invariant-loop-receipt
invariant-loop-receipt g l = Moves g.D.Datagrams.tells g.D.Datagrams.passed l.fn.sink l.sink
    (sends_of (take l.receipt-index l.receipts))
