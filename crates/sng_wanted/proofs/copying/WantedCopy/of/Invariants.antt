use Rattle.std.proofs.Common.{◌≡◌, ◌++◌}
use Rattle.sng_wanted.specs.Shown.{shown}
use Rattle.sng_wanted.proofs.copying.WantedCopy.of.Given as goal

abbrev pub invariant-loop-filter : goal.invariant-loop-filter
invariant-loop-filter l = record {
  can_next : (goal.iterator-loop-filter).can_next l.filter-iterator;
  is_finite : (goal.iterator-loop-filter).is_finite l.filter-iterator;
  copied : l.entries.items ++ shown l.filter-iterator ≡ shown l.filters.entries;
}
