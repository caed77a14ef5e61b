use Rattle.std.proofs.Common.{◌≡◌, ◌++◌}
use Rattle.sng_turns.specs.HandingOver.{gone_outs}
use Rattle.sng_turns.proofs.hand_over.all_gone.Given as goal

abbrev pub invariant-loop-message : goal.invariant-loop-message
invariant-loop-message l =
    l.outs ++ gone_outs l.id l.message-iterator ≡ l.initial.outs ++ gone_outs l.id l.queue.waiting
