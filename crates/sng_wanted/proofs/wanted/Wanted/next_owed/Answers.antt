use Rattle.sng_wanted.proofs.OwedLemmas.{none_owed_through, first_at}
use Rattle.sng_wanted.proofs.wanted.Wanted.next_owed.Goals as goal

pub invariant_of-self : goal.invariant_of-self
invariant_of-self c = (
  c.self.invariant.0,
  c.self.invariant.1,
  c.self.invariant.2,
  c.self.invariant.3,
  none_owed_through c.self.inside.filters.entries c.self.inside.first_owed c.owed_from-self-inside.result
      c.self.invariant.4 c.owed_from-self-inside.ensures.before,
  c.self.invariant.5,
  c.self.invariant.6,
  c.self.invariant.7,
  c.self.invariant.8,
)

pub returns-clause-first : goal.returns-clause-first
returns-clause-first c =
    let none = none_owed_through c.self.inside.filters.entries c.self.inside.first_owed
    c.owed_from-self-inside.result c.self.invariant.4 c.owed_from-self-inside.ensures.before in
    rw (
      ← c.self.view_is,
      first_at c.self.inside.filters.entries c.owed_from-self-inside.result none
          c.owed_from-self-inside.ensures.there,
    ) c.filter_at.ensures
