use Rattle.std.proofs.Common.{◌≡◌, drop}
use Rattle.sng_queue.proofs.queue.Queue.iter_from.Given as goal

abbrev pub invariant-loop-passed : goal.invariant-loop-passed
invariant-loop-passed l = l.messages ≡ drop l._passed l.self.waiting
