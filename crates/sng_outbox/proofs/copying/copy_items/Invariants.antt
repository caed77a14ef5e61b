use Rattle.std.proofs.Common.{◌≡◌, ◌++◌}
use Rattle.std.specs.VecDeque.Iter.{deque_iter_rest}
use Rattle.sng_outbox.proofs.copying.copy_items.Given as goal

abbrev pub invariant-loop-item : goal.invariant-loop-item
invariant-loop-item l = record {
  can_next : (goal.iterator-loop-item).can_next l.item-iterator;
  is_finite : (goal.iterator-loop-item).is_finite l.item-iterator;
  copied : l.copies.items ++ deque_iter_rest l.item-iterator ≡ l.items.items;
}
