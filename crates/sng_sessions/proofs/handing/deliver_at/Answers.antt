-- A write of the session is a move of the client.
use Rattle.std.proofs.Common.{sym, ap, ◌∙◌}
use Rattle.std.specs.Option.{option_copied_mut}
use Rattle.sng_sessions.specs.Handed.{opened, delivered}
use Rattle.sng_sessions.specs.Places.{client_of}
use Rattle.sng_sessions.proofs.Moves.{clients-set, moved_at-past}
use Rattle.sng_sessions.proofs.handing.deliver_at.Goals as goal

pub returns-in-Some : goal.returns-in-Some
returns-in-Some c =
    clients-set c.args.clients.now.entries c.args.place c.in-Some.session.now _
    (delivered c.args.clock c.args.message c.args.opens)
    (sym c.get_index_mut.ensures.value ∙ ap option_copied_mut c.in-Some.is)
    (λ id. ap (λ b. opened c.args.clock c.args.opens
    (record (client_of (id, c.in-Some.session.now)) { buffer = b })) (sym c.push.ensures)
    ∙ c.open.ensures id)

pub returns-in_default : goal.returns-in_default
returns-in_default c =
    sym (moved_at-past c.args.clients.now.entries c.args.place
    (delivered c.args.clock c.args.message c.args.opens)
    (sym c.get_index_mut.ensures.value ∙ ap option_copied_mut c.in_default.is))
