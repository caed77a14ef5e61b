-- The look-up is the client's place.
use Rattle.std.proofs.Common.{◌∙◌}
use Rattle.sng_sessions.proofs.Looks.{place_at-look, look-within}
use Rattle.sng_sessions.proofs.sessions.Sessions.at.Goals as goal

pub returns-clause-place : goal.returns-clause-place
returns-clause-place c =
    rw (← c.self.view_is) (c.copied.ensures ∙ c.get.ensures.value
    ∙ place_at-look _ _ c.args.from c.self.invariant.0)

pub returns-clause-within : goal.returns-clause-within
returns-clause-within c =
    rw (← c.self.view_is) (look-within _ _ c.args.from c.copied.result c.self.invariant.0
    (c.copied.ensures ∙ c.get.ensures.value))
