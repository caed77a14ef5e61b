use Rattle.std.proofs.Common.{◌≡◌, drop}
use Rattle.sng_broker.specs.Steps.{replay_all}
use Rattle.sng_broker.proofs.replaying.replay_all.Given as goal

abbrev pub invariant-loop-standing : goal.invariant-loop-standing
invariant-loop-standing l =
    replay_all l.kept l.sending (drop l.standing-index l.granted)
    ≡ replay_all l.kept l.initial.sending l.granted
