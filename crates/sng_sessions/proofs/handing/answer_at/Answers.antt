-- A write of the session is a move of the client.
use Rattle.std.proofs.Common.{sym, ap, ◌∙◌}
use Rattle.std.specs.Option.{option_copied_mut}
use Rattle.sng_history.specs.Entering.{heard_at}
use Rattle.sng_sessions.specs.Handed.{answered}
use Rattle.sng_sessions.specs.Places.{client_of}
use Rattle.sng_sessions.proofs.Moves.{clients-set, moved_at-past}
use Rattle.sng_sessions.proofs.handing.answer_at.Goals as goal

pub returns-in-Some : goal.returns-in-Some
returns-in-Some c =
    clients-set c.args.clients.now.entries c.args.place c.in-Some.session.now _
    (answered c.args.clock c.args.id)
    (sym c.get_index_mut.ensures.value ∙ ap option_copied_mut c.in-Some.is)
    (λ id. λ i. record (heard_at c.args.clock (client_of (id, c.in-Some.session.now)))
    { ids = sym c.confirm.ensures i; buffer = sym c.close.ensures i })

pub returns-in_default : goal.returns-in_default
returns-in_default c =
    sym (moved_at-past c.args.clients.now.entries c.args.place (answered c.args.clock c.args.id)
    (sym c.get_index_mut.ensures.value ∙ ap option_copied_mut c.in_default.is))
