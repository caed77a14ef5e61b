-- One message more is passed.
use Rattle.std.proofs.Common.{add-one}
use Rattle.sng_queue.proofs.Passing.{passed}
use Rattle.sng_queue.proofs.queue.Queue.iter_from.Goals as goal

pub loop-passed-preserved : goal.loop-passed-preserved
loop-passed-preserved c =
    rw (add-one c.loop-passed._passed) (passed c.args.self.now.waiting c.loop-passed.messages c.loop-passed._passed c.next.result _ c.next.ensures.steps c.loop-passed.invariant)
