-- The session is the client's.
use Rattle.std.proofs.Common.{◌≡◌, ap, ◌∙◌, subst}
use Rattle.sng_fan.specs.Subscriptions.{stands}
use Rattle.sng_history.specs.Standing.{holds}
use Rattle.sng_sessions.specs.Standing.{client_at}
use Rattle.sng_sessions.proofs.There.{filters-there}
use Rattle.sng_sessions.proofs.sessions.Sessions.holds.Goals as goal

pub returns : goal.returns
returns c =
    subst (λ xs. c.stands.result ≡ holds c.args.filter.now (client_at xs c.args.place)) c.self.view_is
    (c.stands.ensures ∙ ap (λ held. stands held c.args.filter.now)
    (filters-there c.self.inside.clients.entries c.args.place c.index.result.now c.index.ensures))
