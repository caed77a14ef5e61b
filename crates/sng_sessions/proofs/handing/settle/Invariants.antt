use Rattle.std.proofs.Common.{◌≡◌, ◌-◌}
use Rattle.sng_sessions.specs.Handed.{settled_times}
use Rattle.sng_sessions.proofs.handing.settle.Given as goal

abbrev pub invariant-loop-turn : goal.invariant-loop-turn
invariant-loop-turn l = settled_times (l.fn.count - l.turn) l.queue ≡ settled_times l.fn.count l.fn.queue
