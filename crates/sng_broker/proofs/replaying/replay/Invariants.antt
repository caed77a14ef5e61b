use Rattle.std.proofs.Common.{◌≡◌, drop}
use Rattle.sng_broker.specs.Steps.{replay}
use Rattle.sng_broker.proofs.replaying.replay.Given as goal

abbrev pub invariant-loop-message : goal.invariant-loop-message
invariant-loop-message l =
    replay l.standing l.sending (drop l.message-index l.kept) ≡ replay l.standing l.initial.sending l.kept
