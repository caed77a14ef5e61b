use Rattle.std.proofs.Common.{◌≡◌, ◌++◌, map}
use Rattle.sng_history.specs.Links.{Wanted}
use Rattle.sng_wanted.proofs.ShownLemmas.{texts_shown}
use Rattle.sng_wanted.proofs.wanted.Wanted.filters.Given as goal

abbrev pub invariant-loop-filter : goal.invariant-loop-filter
invariant-loop-filter l = record {
  can_next : (goal.iterator-loop-filter).can_next l.filter-iterator;
  is_finite : (goal.iterator-loop-filter).is_finite l.filter-iterator;
  copied : l.filters.items ++ texts_shown l.filter-iterator ≡ map (λ (w : Wanted). w.filter) l.self.wanted;
}
