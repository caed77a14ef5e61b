use Rattle.std.proofs.Common.{◌≡◌, ◌≤◌, ◌+◌, ◌++◌, drop, length}
use Rattle.sng_queue.specs.declared.limits.TheConstants.{MAX_QUEUED}
use Rattle.sng_turns.specs.HandingOver.{hand_outs, hand_plan, id_or_none}
use Rattle.sng_turns.proofs.hand_over.hand_over.Given as goal

abbrev pub invariant-loop-message : goal.invariant-loop-message
invariant-loop-message l = record {
  within : l.place + length l.messages ≤ l.first + MAX_QUEUED;
  outs : l.outs ++ hand_outs l.policy l.to.id.now l.to.address l.to.ids.now (id_or_none l.to.confirming)
      l.to.number l.messages
      ≡ l.initial.outs ++ hand_outs l.policy l.to.id.now l.to.address l.to.ids.now
      (id_or_none l.to.confirming) l.to.number (drop l.first l.queue.waiting);
  plan : hand_plan l.policy l.to.id.now l.to.ids.now (id_or_none l.to.confirming) l.place l.messages
      ≡ hand_plan l.policy l.to.id.now l.to.ids.now (id_or_none l.to.confirming) l.first
      (drop l.first l.queue.waiting);
}

abbrev pub decreases-loop-message : goal.decreases-loop-message
decreases-loop-message l = length l.messages
