-- The session is the client's.
use Rattle.std.proofs.Common.{ap, ◌≡◌, subst}
use Rattle.sng_sessions.specs.Standing.{client_at}
use Rattle.sng_sessions.proofs.Moves.{session-there}
use Rattle.sng_sessions.proofs.sessions.Sessions.ids.Goals as goal

pub returns : goal.returns
returns c =
    subst (λ xs. c.index.result.now.ids ≡ (client_at xs c.args.place).ids) c.self.view_is
    (ap (λ x. x.ids) (session-there c.self.inside.clients.entries c.args.place c.index.result.now
    c.index.ensures))
