use Rattle.std.proofs.Common.{◌≡◌, ◌++◌, Bool, List, length, map}
use Rattle.sng_outbox.specs.declared.item.Item.TheVariants.{Subscribe}
use Rattle.sng_book.specs.declared.out.Out.{Out}
use Rattle.sng_history.specs.Links.{Link, Wanted, open_ids, outgoing}
use Rattle.sng_link.specs.Taking.{Stands, Subscribed}
use Rattle.sng_link.proofs.Owing.{owed_in}
use Rattle.sng_link.proofs.taking.leave_owed.Given as goal

abbrev pub invariant-loop-turn : goal.invariant-loop-turn
invariant-loop-turn l = record {
  opens : length (open_ids l.wanted.wanted) ≡ l._turn;
  room : l.wanted.room ≡ l.fn.wanted.room;
  so_far : (from : List Bool) (first : List Wanted) (link : Link)
      → Stands from first (outgoing link) l.fn.log.items l.fn.ids l.fn.wanted.wanted link
      → (more : List Out) × (l.outs ≡ l.fn.outs ++ more)
      × Subscribed l.policy from first link (outgoing link)
      (map Subscribe (owed_in l.wanted.wanted) ++ link.waiting) more l.log.items l.ids l.wanted.wanted;
}
