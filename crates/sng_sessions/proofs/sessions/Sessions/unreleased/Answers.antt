-- The session is the client's.
use Rattle.std.proofs.Common.{ap, ◌≡◌, subst}
use Rattle.sng_sessions.specs.Standing.{client_at}
use Rattle.sng_sessions.proofs.Moves.{session-there}
use Rattle.sng_sessions.proofs.sessions.Sessions.unreleased.Goals as goal

pub returns : goal.returns
returns c =
    subst (λ xs. c.index.result.now.unreleased ≡ (client_at xs c.args.place).unreleased) c.self.view_is
    (ap (λ x. x.unreleased) (session-there c.self.inside.clients.entries c.args.place c.index.result.now
    c.index.ensures))
