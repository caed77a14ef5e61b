-- A write of the session is a move of the client.
use Rattle.std.proofs.Common.{sym, ap, ◌∙◌}
use Rattle.std.specs.Option.{option_copied_mut}
use Rattle.sng_sessions.specs.Sleeping.{changed}
use Rattle.sng_sessions.proofs.Moves.{clients-set, moved_at-past}
use Rattle.sng_sessions.proofs.sleeping.change_at.Goals as goal

pub returns-in-Some : goal.returns-in-Some
returns-in-Some c =
    clients-set c.args.clients.now.entries c.args.place c.in-Some.session.now _
    (changed c.args.clock c.args.change)
    (sym c.get_index_mut.ensures.value ∙ ap option_copied_mut c.in-Some.is) (λ id. c.make.ensures id)

pub returns-in_default : goal.returns-in_default
returns-in_default c =
    sym (moved_at-past c.args.clients.now.entries c.args.place (changed c.args.clock c.args.change)
    (sym c.get_index_mut.ensures.value ∙ ap option_copied_mut c.in_default.is))
