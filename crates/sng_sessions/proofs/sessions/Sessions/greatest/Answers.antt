-- The session is the client's.
use Rattle.std.proofs.Common.{◌≡◌, ap, ◌∙◌, subst}
use Rattle.sng_fan.specs.Greatest.{greatest_qos}
use Rattle.sng_sessions.specs.Standing.{client_at}
use Rattle.sng_sessions.proofs.There.{filters-there}
use Rattle.sng_sessions.proofs.sessions.Sessions.greatest.Goals as goal

pub returns : goal.returns
returns c =
    subst (λ xs. c.greatest.result ≡ greatest_qos (client_at xs c.args.place).filters c.args.name.now)
    c.self.view_is
    (c.greatest.ensures ∙ ap (λ held. greatest_qos held c.args.name.now)
    (filters-there c.self.inside.clients.entries c.args.place c.index.result.now c.index.ensures))
