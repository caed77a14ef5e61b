use Rattle.std.proofs.Common.{◌≡◌, ◌++◌}
use Rattle.sng_queue.proofs.copying.copy_messages.Given as goal

abbrev pub invariant-loop-message : goal.invariant-loop-message
invariant-loop-message l = record {
  can_next : (goal.iterator-loop-message).can_next l.message-iterator;
  is_finite : (goal.iterator-loop-message).is_finite l.message-iterator;
  copied : l.copies.items ++ l.message-iterator ≡ l.messages;
}
