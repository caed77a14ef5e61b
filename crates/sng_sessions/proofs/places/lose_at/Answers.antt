-- A write of the session is a move of the client, and the look-ups follow.
use Rattle.std.proofs.Common.{None, refl, sym, ap, ◌∙◌, subst, if◌then◌else◌}
use Rattle.std.specs.Option.{option_copied_mut}
use Rattle.indexmap.specs.IndexMap.{get}
use Rattle.sng_history.specs.Clients.{same_address, lost}
use Rattle.sng_sessions.specs.Places.{client_of, presence_in, was_at, Indexed}
use Rattle.sng_sessions.proofs.Moves.{clients-set, moved_at-past, left-indexed}
use Rattle.sng_sessions.proofs.places.lose_at.Goals as goal

pub returns-in-Some-clause-clients : goal.returns-in-Some-clause-clients
returns-in-Some-clause-clients c =
    clients-set c.args.clients.now.entries c.args.place c.in-Some.session.now _ lost
    (sym c.get_index_mut.ensures.value ∙ ap option_copied_mut c.in-Some.is)
    (λ id. λ i. record (lost (client_of (id, c.in-Some.session.now)))
    { buffer = sym c.empty.ensures i; wills = sym c.stop.ensures i })

pub returns-in-Some-clause-indexed : goal.returns-in-Some-clause-indexed
returns-in-Some-clause-indexed c =
    let entries = c.args.clients.now.entries in
    let found = sym c.get_index_mut.ensures.value ∙ ap option_copied_mut c.in-Some.is in
    let moved =
    clients-set entries c.args.place c.in-Some.session.now _ lost found
    (λ id. λ i. record (lost (client_of (id, c.in-Some.session.now)))
    { buffer = sym c.empty.ensures i; wills = sym c.stop.ensures i }) in
    subst (Indexed (get same_address c.release.new.places)) (sym moved)
    (left-indexed (get same_address c.args.places.now) _ entries c.args.place lost (λ x from. refl) c.requires
    (λ from. c.release.ensures.looks from
    ∙ ap (λ o. if was_at (presence_in o) from then None else get same_address c.args.places.now from)
    (sym found)))

pub returns-in_default-clause-clients : goal.returns-in_default-clause-clients
returns-in_default-clause-clients c =
    sym (moved_at-past c.args.clients.now.entries c.args.place lost
    (sym c.get_index_mut.ensures.value ∙ ap option_copied_mut c.in_default.is))
