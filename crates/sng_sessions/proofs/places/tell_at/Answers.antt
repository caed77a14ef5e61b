-- The session is the client's, and a write of it is a move of the client.
use Rattle.std.proofs.Common.{◌≡◌, false, Some, sym, ap, ◌∙◌, subst}
use Rattle.std.specs.Option.{option_copied_mut}
use Rattle.sng_ids.specs.Ids.{is_full_for}
use Rattle.sng_book.specs.declared.outcome.Outcome.TheVariants.{Allowed}
use Rattle.sng_sessions.specs.Standing.{told_at}
use Rattle.sng_sessions.specs.Places.{client_of}
use Rattle.sng_sessions.proofs.Moves.{clients-set, moved_at-past, session-there}
use Rattle.sng_sessions.proofs.places.tell_at.Goals as goal

pub tell-requires : goal.tell-requires
tell-requires c =
    subst (λ x. is_full_for c.args.name x.ids ≡ false)
    (sym (session-there c.args.clients.now.entries c.args.place c.in-Some.session.now
    (sym c.get_index_mut.ensures.value ∙ ap option_copied_mut c.in-Some.is))) c.requires

pub returns-in-Some : goal.returns-in-Some
returns-in-Some c =
    clients-set c.args.clients.now.entries c.args.place c.in-Some.session.now _
    (told_at c.args.clock (Some c.args.name) Allowed)
    (sym c.get_index_mut.ensures.value ∙ ap option_copied_mut c.in-Some.is)
    (λ id. ap (λ s. client_of (id, s)) (sym c.tell.ensures))

pub returns-in_default : goal.returns-in_default
returns-in_default c =
    sym (moved_at-past c.args.clients.now.entries c.args.place
    (told_at c.args.clock (Some c.args.name) Allowed)
    (sym c.get_index_mut.ensures.value ∙ ap option_copied_mut c.in_default.is))
