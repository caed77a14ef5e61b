-- The tree of filters says what the session holds.
use Rattle.std.proofs.Common.{sym, ap, ◌∙◌, subst}
use Rattle.sng_fan.specs.Subscriptions.{with_filter}
use Rattle.sng_sessions.specs.Kept.{SaysHeld}
use Rattle.sng_sessions.proofs.KeptLemmas.{says-with}
use Rattle.sng_sessions.proofs.subscribing.stand.Goals as goal

pub returns-in_err-filters-clause-held : goal.returns-in_err-filters-clause-held
returns-in_err-filters-clause-held c =
    subst (SaysHeld c.args.standing.now c.args.place) (sym c.in_err-filters.ensures.err) c.requires.held

pub returns-in-Err-clause-held : goal.returns-in-Err-clause-held
returns-in-Err-clause-held c =
    subst (SaysHeld c.add.new.self c.args.place) (sym (c.put.ensures ∙ c.in_ok-filters.ensures.ok))
    (λ text. c.in-Err.ensures.err c.args.place text ∙ c.requires.held.0 text, c.requires.held.1)

pub returns-clause-held : goal.returns-clause-held
returns-clause-held c =
    let filters_are =
    c.put-2.ensures ∙ c.in-Ok.ensures.ok.1
    ∙ ap (λ held. with_filter held c.args.filter c.args.qos) c.in_ok-filters.ensures.ok in
    subst (SaysHeld c.add.new.self c.args.place) (sym filters_are)
    (says-with c.args.standing.now c.add.new.self c.args.place c.args.session.now.filters c.args.filter
    c.args.qos c.requires.fits c.in_default.ensures.ok c.requires.held)
