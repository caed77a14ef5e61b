use Rattle.std.proofs.Common.{◌≡◌, ◌||◌, length}
use Rattle.sng_signals.specs.Reaches.{after, one_reaches}
use Rattle.sng_signals.proofs.reach.Reach.takes.Given as goal

abbrev pub invariant-loop-rest : goal.invariant-loop-rest
invariant-loop-rest l = record {
  after : after l.self l.rest ≡ after l.fn.self l.piece;
  reaches : (l.reaches || one_reaches l.self l.rest) ≡ one_reaches l.fn.self l.piece;
}

abbrev pub decreases-loop-rest : goal.decreases-loop-rest
decreases-loop-rest l = length l.rest
