-- A write of the session is a move of the client, and the tree of filters follows.
use Rattle.std.proofs.Common.{sym, ap, ◌∙◌}
use Rattle.std.specs.Option.{option_copied_mut}
use Rattle.sng_history.specs.Clients.{without}
use Rattle.sng_sessions.specs.Places.{client_of}
use Rattle.sng_sessions.proofs.There.{keeps-set, says-there}
use Rattle.sng_sessions.proofs.Moves.{clients-set, moved_at-past}
use Rattle.sng_sessions.proofs.subscribing.end_at.Goals as goal

pub end_one-requires : goal.end_one-requires
end_one-requires c =
    says-there c.args.standing.now c.args.clients.now.entries c.args.place c.in-Some.session.now
    (sym c.get_index_mut.ensures.value ∙ ap option_copied_mut c.in-Some.is) c.requires

pub returns-in-Some-clause-clients : goal.returns-in-Some-clause-clients
returns-in-Some-clause-clients c =
    clients-set c.args.clients.now.entries c.args.place c.in-Some.session.now _ (without c.args.filter.now)
    (sym c.get_index_mut.ensures.value ∙ ap option_copied_mut c.in-Some.is)
    (λ id. ap (λ s. client_of (id, s)) (sym c.end_one.ensures.session))

pub returns-in-Some-clause-kept : goal.returns-in-Some-clause-kept
returns-in-Some-clause-kept c =
    keeps-set c.args.standing.now c.end_one.new.standing c.args.clients.now.entries c.args.place
    c.in-Some.session.now c.end_one.new.session (without c.args.filter.now)
    (sym c.get_index_mut.ensures.value ∙ ap option_copied_mut c.in-Some.is)
    (λ id. ap (λ s. client_of (id, s)) (sym c.end_one.ensures.session)) c.end_one.ensures.held
    c.end_one.ensures.others c.requires

pub returns-in_default-clause-clients : goal.returns-in_default-clause-clients
returns-in_default-clause-clients c =
    sym (moved_at-past c.args.clients.now.entries c.args.place (without c.args.filter.now)
    (sym c.get_index_mut.ensures.value ∙ ap option_copied_mut c.in_default.is))
