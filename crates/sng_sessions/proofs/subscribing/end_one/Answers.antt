-- The tree of filters says what the session holds still.
use Rattle.std.proofs.Common.{sym, subst}
use Rattle.sng_sessions.specs.Kept.{SaysHeld}
use Rattle.sng_sessions.proofs.KeptLemmas.{says-without}
use Rattle.sng_sessions.proofs.subscribing.end_one.Goals as goal

pub returns-clause-held : goal.returns-clause-held
returns-clause-held c =
    subst (SaysHeld c.end-2.new.self c.args.place) (sym c.end.ensures)
    (says-without c.args.standing.now c.end-2.new.self c.args.place c.args.session.now.filters
    c.args.filter.now
    c.end-2.ensures.rest c.requires)
