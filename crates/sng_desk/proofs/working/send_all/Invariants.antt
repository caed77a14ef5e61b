use Rattle.std.proofs.Common.{◌≡◌, take, []}
use Rattle.sng_desk.specs.Acts.{Moves, sends_of}
use Rattle.sng_desk.proofs.working.send_all.Given as goal

abbrev pub invariant-loop-receipt : goal.invariant-loop-receipt
invariant-loop-receipt g l = record {
  given : Moves g.S.Source.tells g.S.Source.gave l.fn.source l.source [];
  passed : Moves g.S.Source.told g.S.Source.passed l.fn.source l.source
      (sends_of (take l.receipt-index l.receipts));
  failures : g.S.Source.failures l.source ≡ g.S.Source.failures l.fn.source;
  line : g.S.Source.line l.source ≡ g.S.Source.line l.fn.source;
}
