use Rattle.sng_serve.proofs.VisitLemmas.{one_more}
use Rattle.sng_serve.proofs.reception.Reception.accept_all.Goals as goal

pub loop-preserved : goal.loop-preserved
loop-preserved c = one_more _ _ _ _ c.loop.invariant c.in_default.ensures.come
