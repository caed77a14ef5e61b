use Rattle.std.proofs.Common.{◌≡◌, ◌+◌, ℕ}
use Rattle.sng_link.specs.Rooms.{HasPlaces}
use Rattle.sng_core.specs.Dues.{dues_clients, dues_link, all_items}
use Rattle.sng_core.proofs.tick.carry_out.Given as goal

abbrev pub invariant-loop-due : goal.invariant-loop-due
invariant-loop-due l = record {
  sessions : l.sessions ≡ dues_clients l.clock l.yielded l.initial.sessions;
  link : l.link.link ≡ dues_link l.limits l.yielded l.initial.link.link;
  has : HasPlaces (all_items l.due-iterator.rest.items) l.link;
  room : (count : ℕ) → HasPlaces (all_items l.fn.dues.items + count) l.initial.link
      → HasPlaces (all_items l.due-iterator.rest.items + count) l.link;
}
