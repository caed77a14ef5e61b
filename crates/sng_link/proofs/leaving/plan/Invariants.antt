use Rattle.std.proofs.Common.{◌≡◌, ◌++◌, ℕ, List}
use Rattle.std.specs.VecDeque.Iter.{deque_iter_rest}
use Rattle.sng_book.specs.declared.out.Out.{Out}
use Rattle.sng_link.specs.Flights.{link_of}
use Rattle.sng_link.specs.Taking.{Planned}
use Rattle.sng_link.proofs.leaving.plan.Given as goal

abbrev pub invariant-loop-item : goal.invariant-loop-item
invariant-loop-item l = record {
  can_next : (goal.iterator-loop-item).can_next l.item-iterator;
  is_finite : (goal.iterator-loop-item).is_finite l.item-iterator;
  room : l.wanted.room ≡ l.fn.wanted.room;
  so_far : (pinged : ℕ) → (more : List Out) × (l.outs ≡ l.fn.outs ++ more)
      × Planned l.policy l.fn.ids.marks (link_of l.outbox.sending l.fn.ids l.fn.wanted.wanted pinged)
      l.outbox.sending.waiting (deque_iter_rest l.item-iterator) more l.log.items l.ids l.wanted.wanted;
}
