use Rattle.sng_wanted.proofs.ShownLemmas.{apart_from, place_none, place_some}
use Rattle.sng_wanted.proofs.places.place_of.Goals as goal

pub returns-in_err-place-clause-place : goal.returns-in_err-place-clause-place
returns-in_err-place-clause-place c =
    rw c.from_residual.ensures (place_none c.args.filters.now.entries c.args.filter.now
    c.in_err-place.ensures.value)

pub returns-in_err-place-clause-apart : goal.returns-in_err-place-clause-apart
returns-in_err-place-clause-apart c = apart_from c.args.filters.now.entries c.len-count.ensures.unique

pub returns-clause-apart : goal.returns-clause-apart
returns-clause-apart c = apart_from c.args.filters.now.entries c.len-count.ensures.unique

pub returns-clause-place : goal.returns-clause-place
returns-clause-place c =
    place_some c.args.filters.now.entries c.args.filter.now _ _ c.in_ok-place.place c.len-count.ensures.unique
    c.in_ok-place.ensures.key c.in_ok-place.ensures.entry
