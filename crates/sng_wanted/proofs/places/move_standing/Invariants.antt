use Rattle.std.proofs.Common.{◌≡◌, ◌≤◌, ◌+◌, [], length}
use Rattle.indexmap.specs.IndexMap.{spare}
use Rattle.indexmap.specs.Drain.{drain_rest, drain_kept, drain_room}
use Rattle.sng_wanted.proofs.ShownLemmas.{Moved}
use Rattle.sng_wanted.proofs.places.move_standing.Given as goal

abbrev pub invariant-loop-filter : goal.invariant-loop-filter
invariant-loop-filter l = record {
  can_next : (goal.iterator-loop-filter).can_next l.filter-iterator;
  is_finite : (goal.iterator-loop-filter).is_finite l.filter-iterator;
  kept : drain_kept l.filter-iterator ≡ [];
  from_room : length l.fn.from.entries + spare l.fn.from ≤ drain_room l.filter-iterator;
  room : spare l.fn.to ≤ length l.to.entries + spare l.to;
  moved : Moved l.fn.from.entries l.to.entries (drain_rest l.filter-iterator);
}
