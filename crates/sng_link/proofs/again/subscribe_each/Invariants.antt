use Rattle.std.proofs.Common.{◌≡◌, ◌++◌, Bool, List, map}
use Rattle.sng_outbox.specs.declared.item.Item.TheVariants.{Subscribe}
use Rattle.sng_book.specs.declared.out.Out.{Out}
use Rattle.sng_history.specs.Links.{Link, Wanted}
use Rattle.sng_link.specs.Taking.{Stands, Subscribed}
use Rattle.sng_link.proofs.again.subscribe_each.Given as goal

abbrev pub invariant-loop-filter : goal.invariant-loop-filter
invariant-loop-filter l = record {
  room : l.wanted.room ≡ l.fn.wanted.room;
  so_far : (from : List Bool) (first : List Wanted) (link : Link)
      → Stands from first (map Subscribe l.fn.filters.items) l.fn.log.items l.fn.ids l.fn.wanted.wanted link
      → (more : List Out) × (l.outs ≡ l.fn.outs ++ more)
      × Subscribed l.policy from first link (map Subscribe l.fn.filters.items)
      (map Subscribe l.filter-iterator.rest.items) more l.log.items l.ids l.wanted.wanted;
}
