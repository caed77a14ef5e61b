-- The session is the client's.
use Rattle.std.proofs.Common.{ap, ◌≡◌, ◌∙◌, subst}
use Rattle.sng_history.specs.Ticking.{is_overdue}
use Rattle.sng_sessions.specs.Standing.{client_at}
use Rattle.sng_sessions.proofs.Moves.{session-there}
use Rattle.sng_sessions.proofs.sessions.Sessions.is_overdue.Goals as goal

pub returns : goal.returns
returns c =
    subst (λ xs. c.is_overdue.result ≡ is_overdue c.args.clock (client_at xs c.args.place)) c.self.view_is
    (c.is_overdue.ensures ∙ ap (is_overdue c.args.clock)
    (session-there c.self.inside.clients.entries c.args.place c.index.result.now c.index.ensures))
