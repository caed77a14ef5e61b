-- A write of the session is a move of the client, and the look-ups and the tree of filters follow.
use Rattle.std.proofs.Common.{Some, sym, ap, ◌∙◌, subst, cond}
use Rattle.std.specs.Option.{option_copied_mut}
use Rattle.indexmap.specs.IndexMap.{get}
use Rattle.sng_history.specs.Clients.{same_address, let_in}
use Rattle.sng_sessions.specs.Places.{Indexed}
use Rattle.sng_sessions.proofs.There.{keeps-set, says-there}
use Rattle.sng_sessions.proofs.Moves.{clients-set, client-begun, moved_at-past, returned-indexed}
use Rattle.sng_sessions.proofs.places.return_at.Goals as goal

pub begin-requires : goal.begin-requires
begin-requires c =
    says-there c.args.standing.now c.args.clients.now.entries c.args.place c.in-Some.session.now
    (sym c.get_index_mut.ensures.value ∙ ap option_copied_mut c.in-Some.is) c.requires.kept

pub returns-in-Ok-clause-clients : goal.returns-in-Ok-clause-clients
returns-in-Ok-clause-clients c =
    let session = c.in-Some.session.now in
    let done = c.begin.ensures in
    clients-set c.args.clients.now.entries c.args.place session c.begin.new.session
    (let_in c.args.clock c.args.from c.args.connect.now)
    (sym c.get_index_mut.ensures.value ∙ ap option_copied_mut c.in-Some.is)
    (λ id. client-begun id c.args.clock c.args.from c.args.connect.now session c.begin.new.session
    done.presence done.ids done.number done.queue done.filters done.wills
    done.unreleased)

pub returns-in-Ok-clause-indexed : goal.returns-in-Ok-clause-indexed
returns-in-Ok-clause-indexed c =
    let session = c.in-Some.session.now in
    let entries = c.args.clients.now.entries in
    let done = c.begin.ensures in
    let found = sym c.get_index_mut.ensures.value ∙ ap option_copied_mut c.in-Some.is in
    let moved =
    clients-set entries c.args.place session c.begin.new.session
    (let_in c.args.clock c.args.from c.args.connect.now) found
    (λ id. client-begun id c.args.clock c.args.from c.args.connect.now session c.begin.new.session
    done.presence done.ids done.number done.queue done.filters done.wills
    done.unreleased) in
    subst (Indexed (get same_address c.insert.new.self)) (sym moved)
    (returned-indexed (get same_address c.args.places.now) _ entries c.args.place c.args.clock c.args.from
    c.args.connect.now session found
    c.requires.indexed c.requires.alone
    (λ from. c.in-Ok.ensures.updates.0 from
    ∙ ap (cond (same_address c.args.from from) (Some c.args.place)) (c.release.ensures.looks from)))

pub returns-in-Ok-clause-kept : goal.returns-in-Ok-clause-kept
returns-in-Ok-clause-kept c =
    let session = c.in-Some.session.now in
    let done = c.begin.ensures in
    keeps-set c.args.standing.now c.begin.new.standing c.args.clients.now.entries c.args.place
    session c.begin.new.session
    (let_in c.args.clock c.args.from c.args.connect.now)
    (sym c.get_index_mut.ensures.value ∙ ap option_copied_mut c.in-Some.is)
    (λ id. client-begun id c.args.clock c.args.from c.args.connect.now session c.begin.new.session
    done.presence done.ids done.number done.queue done.filters done.wills
    done.unreleased)
    done.held done.others c.requires.kept

pub returns-in_default-clause-clients : goal.returns-in_default-clause-clients
returns-in_default-clause-clients c =
    sym (moved_at-past c.args.clients.now.entries c.args.place
    (let_in c.args.clock c.args.from c.args.connect.now)
    (sym c.get_index_mut.ensures.value ∙ ap option_copied_mut c.in_default.is))
