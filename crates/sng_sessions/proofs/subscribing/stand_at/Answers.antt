-- A write of the session is a move of the client, and the tree of filters follows.
use Rattle.std.proofs.Common.{◌≡◌, false, sym, ap, ◌∙◌, subst, rules}
use Rattle.std.specs.Option.{option_copied_mut}
use Rattle.sng_fan.specs.Subscriptions.{is_full}
use Rattle.sng_sessions.specs.Standing.{standing_at}
use Rattle.sng_sessions.specs.Places.{client_of}
use Rattle.sng_sessions.proofs.There.{keeps-set, says-there, filters-there}
use Rattle.sng_sessions.proofs.Moves.{clients-set, clients-same, moved_at-past}
use Rattle.sng_sessions.proofs.subscribing.stand_at.Goals as goal

pub stand-requires-clause-fits : goal.stand-requires-clause-fits
stand-requires-clause-fits c =
    subst (λ held. is_full held c.args.filter ≡ false)
    (sym (filters-there c.args.clients.now.entries c.args.place c.in-Some.session.now
    (sym c.get_index_mut.ensures.value ∙ ap option_copied_mut c.in-Some.is)))
    c.requires.fits

pub stand-requires-clause-held : goal.stand-requires-clause-held
stand-requires-clause-held c =
    says-there c.args.standing.now c.args.clients.now.entries c.args.place c.in-Some.session.now
    (sym c.get_index_mut.ensures.value ∙ ap option_copied_mut c.in-Some.is) c.requires.kept

pub returns-in_err-stand-clause-err : goal.returns-in_err-stand-clause-err
returns-in_err-stand-clause-err c =
    let same =
    clients-same c.args.clients.now.entries c.args.place c.in-Some.session.now c.stand.new.session
    (sym c.get_index_mut.ensures.value ∙ ap option_copied_mut c.in-Some.is)
    (λ id. ap (λ s. client_of (id, s)) (sym c.in_err-stand.ensures.err)) in
    search (rules, same)

pub returns-in_err-stand-clause-kept : goal.returns-in_err-stand-clause-kept
returns-in_err-stand-clause-kept c =
    keeps-set c.args.standing.now c.stand.new.standing c.args.clients.now.entries c.args.place
    c.in-Some.session.now c.stand.new.session (λ x. x)
    (sym c.get_index_mut.ensures.value ∙ ap option_copied_mut c.in-Some.is)
    (λ id. ap (λ s. client_of (id, s)) (sym c.in_err-stand.ensures.err)) c.in_err-stand.ensures.held
    c.in_err-stand.ensures.others c.requires.kept

pub returns-in_ok-stand-clause-ok : goal.returns-in_ok-stand-clause-ok
returns-in_ok-stand-clause-ok c =
    clients-set c.args.clients.now.entries c.args.place c.in-Some.session.now _
    (standing_at c.args.filter c.args.qos)
    (sym c.get_index_mut.ensures.value ∙ ap option_copied_mut c.in-Some.is)
    (λ id. ap (λ s. client_of (id, s)) (sym c.in_ok-stand.ensures.ok))

pub returns-in_ok-stand-clause-kept : goal.returns-in_ok-stand-clause-kept
returns-in_ok-stand-clause-kept c =
    keeps-set c.args.standing.now c.stand.new.standing c.args.clients.now.entries c.args.place
    c.in-Some.session.now c.stand.new.session (standing_at c.args.filter c.args.qos)
    (sym c.get_index_mut.ensures.value ∙ ap option_copied_mut c.in-Some.is)
    (λ id. ap (λ s. client_of (id, s)) (sym c.in_ok-stand.ensures.ok)) c.in_ok-stand.ensures.held
    c.in_ok-stand.ensures.others c.requires.kept

pub returns-in_default-clause-ok : goal.returns-in_default-clause-ok
returns-in_default-clause-ok c =
    sym (moved_at-past c.args.clients.now.entries c.args.place (standing_at c.args.filter c.args.qos)
    (sym c.get_index_mut.ensures.value ∙ ap option_copied_mut c.in_default.is))
