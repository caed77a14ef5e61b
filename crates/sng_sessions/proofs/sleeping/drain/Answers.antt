-- The client is as it was, or sleeps.
use Rattle.std.proofs.Common.{ap, ◌∙◌, if◌then◌else◌}
use Rattle.sng_states.specs.declared.state.ClientState.TheVariants.{Asleep}
use Rattle.sng_history.specs.Clients.{Client}
use Rattle.sng_sessions.specs.Places.{client_of}
use Rattle.sng_sessions.proofs.sleeping.drain.Goals as goal

pub returns-then-is_drained : goal.returns-then-is_drained
returns-then-is_drained c id =
    let x = client_of (id, c.args.session.now) in
    ap (λ b. let y : Client = if b then record x { phase = Asleep } else x in y)
    (c.is_drained.ensures id ∙ c.if-is_drained.true)

pub returns-else-is_drained : goal.returns-else-is_drained
returns-else-is_drained c id =
    let x = client_of (id, c.args.session.now) in
    ap (λ b. let y : Client = if b then record x { phase = Asleep } else x in y)
    (c.is_drained.ensures id ∙ c.if-is_drained.false)
