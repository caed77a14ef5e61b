use Rattle.std.proofs.Common.{◌≡◌}
use Rattle.sng_turns.specs.Delivering.{keep_all}
use Rattle.sng_turns.proofs.deliver.keep_all.Given as goal

abbrev pub invariant-loop-one : goal.invariant-loop-one
invariant-loop-one l = l.sessions ≡ keep_all l.clock l.yielded l.initial.sessions
