use Rattle.sng_wanted.proofs.ShownLemmas.{apart_from, once_shown}
use Rattle.sng_wanted.proofs.wanted.Wanted.len.Goals as goal

pub returns-clause-once : goal.returns-clause-once
returns-clause-once c =
    rw (← c.self.view_is) (once_shown c.self.inside.filters.entries
    (apart_from c.self.inside.filters.entries c.len-kept.ensures.unique))
