use Rattle.std.proofs.Common.{sym, ap, ◌∙◌, Some}
use Rattle.sng_wanted.proofs.ShownLemmas.{absent_wants, standing_ended, standing_nowhere}
use Rattle.sng_wanted.proofs.places.standing.Goals as goal

pub returns-in_err-place : goal.returns-in_err-place
returns-in_err-place c =
    rw c.from_residual.ensures (absent_wants c.args.filters.now.entries c.args.filter.now
    c.in_err-place.ensures.place)

pub returns-in_err-want_at : goal.returns-in_err-want_at
returns-in_err-want_at c =
    rw c.from_residual-in_err-want_at.ensures
    (standing_nowhere c.args.filters.now.entries c.args.filter.now c.in_ok-place.place
    c.in_ok-place.ensures.place (sym c.in_err-want_at.ensures))

pub returns-in-Ended : goal.returns-in-Ended
returns-in-Ended c =
    standing_ended c.args.filters.now.entries c.args.filter.now c.in_ok-place.place
    c.in_ok-place.ensures.place (sym c.in_ok-want_at.ensures ∙ ap Some c.in-Ended.is)
