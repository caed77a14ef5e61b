use Rattle.sng_desk.proofs.working.SourceWorker.ended.Goals as goal

pub returns-clause-off : goal.returns-clause-off
returns-clause-off g c = rw c.into_piece.ensures c.hand_off.ensures.off

pub returns-clause-left : goal.returns-clause-left
returns-clause-left g c = rw c.into_piece.ensures c.hand_off.ensures.left
