use Rattle.sng_desk.specs.Pieces.{piece_of}
use Rattle.sng_crew.specs.Turning.{Below, Going}
use Rattle.sng_crew.proofs.upstream.upstream_worker.Given as goal

abbrev pub invariant-loop : goal.invariant-loop
invariant-loop g l = record {
  can : (goal.iterator-loop g).can_next l.iterator';
  finite : (goal.iterator-loop g).is_finite l.iterator';
  below : Below l.fn.post.terms.tries l.worker.stage;
  going : Going g.U.Upstream.tells g.U.Upstream.did g.D.Datagrams.tells g.D.Datagrams.passed g.F.Filing.tells
      g.F.Filing.took l.fn.post.terms l.fn.post.source l.fn.post.sender l.fn.post.share l.fn.post.filing l.worker.stage
      l.worker.stream l.worker.up l.worker.sink l.worker.hand.share l.worker.filer.filing
      (piece_of l.worker.filer.place l.worker.hand.log.trail);
}
