use Rattle.std.proofs.Common.{◌≡◌, length}
use Rattle.sng_link.specs.Rooms.{HasPlaces}
use Rattle.sng_core.specs.Connecting.{let_go}
use Rattle.sng_core.proofs.entry.let_go.Given as goal

abbrev pub invariant-loop-filter : goal.invariant-loop-filter
invariant-loop-filter l = record {
  link : l.link.link ≡ let_go l.limits l.initial.link.link l.yielded;
  room : HasPlaces (length l.filter-iterator.rest.items) l.link;
}
