-- The session is the client's.
use Rattle.std.proofs.Common.{ap, ◌≡◌, ◌∙◌, subst}
use Rattle.sng_history.specs.Verdicts.{is_repeat}
use Rattle.sng_sessions.specs.Standing.{client_at}
use Rattle.sng_sessions.proofs.Moves.{session-there}
use Rattle.sng_sessions.proofs.sessions.Sessions.is_repeat.Goals as goal

pub returns : goal.returns
returns c =
    let p = c.args.publish.now in
    subst (λ xs. c.is_repeat.result ≡ is_repeat p (client_at xs c.args.place)) c.self.view_is
    (c.is_repeat.ensures ∙ ap (is_repeat p)
    (session-there c.self.inside.clients.entries c.args.place c.index.result.now c.index.ensures))
