-- The session is the client's.
use Rattle.std.proofs.Common.{◌≡◌, ◌∙◌, subst}
use Rattle.sng_fan.specs.Subscriptions.{IsOneClients}
use Rattle.sng_sessions.specs.Standing.{client_at}
use Rattle.sng_sessions.proofs.There.{filters-there}
use Rattle.sng_sessions.proofs.sessions.Sessions.filters.Goals as goal

pub returns-clause-value : goal.returns-clause-value
returns-clause-value c =
    subst (λ xs. c.filters.result.now ≡ (client_at xs c.args.place).filters) c.self.view_is
    (c.filters.ensures.value ∙ filters-there c.self.inside.clients.entries c.args.place c.index.result.now
    c.index.ensures)

pub returns-clause-once : goal.returns-clause-once
returns-clause-once c =
    subst (λ xs. IsOneClients (client_at xs c.args.place).filters) c.self.view_is
    (subst IsOneClients (filters-there c.self.inside.clients.entries c.args.place c.index.result.now
    c.index.ensures) c.filters.ensures.once)
