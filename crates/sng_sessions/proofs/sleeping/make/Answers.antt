-- What is received is open for the client.
use Rattle.std.proofs.Common.{ap, ◌∙◌}
use Rattle.sng_sessions.specs.Places.{client_of}
use Rattle.sng_sessions.specs.Sleeping.{changed}
use Rattle.sng_sessions.proofs.sleeping.make.Goals as goal

pub returns-in-Receives : goal.returns-in-Receives
returns-in-Receives c id =
    ap (λ change. changed c.args.clock change (client_of (id, c.args.session.now))) c.in-Receives.is
    ∙ c.receive.ensures id
