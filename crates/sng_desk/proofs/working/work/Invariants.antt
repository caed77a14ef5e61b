use Rattle.sng_desk.specs.Pieces.{Grown, piece_of}
use Rattle.sng_desk.specs.Working.{Going}
use Rattle.sng_desk.proofs.working.work.Given as goal

abbrev pub invariant-loop : goal.invariant-loop
invariant-loop g l = record {
  can : (goal.iterator-loop g).can_next l.iterator';
  finite : (goal.iterator-loop g).is_finite l.iterator';
  going : Going g.S.Source.tells g.S.Source.gave g.S.Source.failures g.S.Source.told g.S.Source.passed
      g.F.Filing.tells g.F.Filing.took l.fn.source l.fn.source l.fn.share l.fn.filing l.worker.source
      l.worker.source l.worker.hand.share l.worker.filer.filing
      (piece_of l.worker.filer.place l.worker.hand.log.trail);
  line : Grown (g.S.Source.line l.fn.source) (g.S.Source.line l.worker.source);
}
