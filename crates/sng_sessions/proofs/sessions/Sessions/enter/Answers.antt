-- A client that was not known holds nothing at first.
use Rattle.std.proofs.Common.{is_some, sym, ap, ◌∙◌, subst, rules}
use Rattle.sng_history.specs.Entering.{entered}
use Rattle.sng_history.specs.State.{is_known}
use Rattle.sng_sessions.specs.Dues.{Waits}
use Rattle.sng_sessions.specs.Kept.{Keeps}
use Rattle.indexmap.specs.IndexMap.{get}
use Rattle.sng_history.specs.Clients.{same_address}
use Rattle.sng_sessions.specs.Places.{clients_of, Indexed}
use Rattle.sng_sessions.proofs.DueLemmas.{waits-same}
use Rattle.sng_sessions.proofs.There.{keeps-entered}
use Rattle.sng_sessions.proofs.Moves.{known-found}
use Rattle.sng_sessions.proofs.sessions.Sessions.enter.Goals as goal

pub admit-requires-clause-new : goal.admit-requires-clause-new
admit-requires-clause-new c =
    let id = c.args.connect.client_id in
    ap (λ entries. is_known id (clients_of entries)) c.reserve-in-None.ensures.entries
    ∙ known-found id c.self.inside.clients.entries ∙ sym c.get_index_of.ensures.found
    ∙ ap is_some c.in-None.is

pub invariant_of-self-in_err-reserve-in-None : goal.invariant_of-self-in_err-reserve-in-None
invariant_of-self-in_err-reserve-in-None c =
    let indexed : Indexed (get same_address c.reserve.new.self)
    (clients_of c.reserve-in-None.new.self.entries) = search rules in
    let kept : Keeps c.self.inside.standing (clients_of c.reserve-in-None.new.self.entries) =
    subst (λ entries. Keeps c.self.inside.standing (clients_of entries))
    (sym c.reserve-in-None.ensures.entries) c.self.invariant.1.0 in
    let waits : Waits c.self.inside.times.items (clients_of c.reserve-in-None.new.self.entries) =
    subst (λ entries. Waits c.self.inside.times.items (clients_of entries))
    (sym c.reserve-in-None.ensures.entries) c.self.invariant.1.1 in
    (indexed, (kept, waits))

pub invariant_of-self-in_err-add_block-in-None : goal.invariant_of-self-in_err-add_block-in-None
invariant_of-self-in_err-add_block-in-None c =
    let indexed : Indexed (get same_address c.reserve.new.self)
    (clients_of c.reserve-in-None.new.self.entries) = search rules in
    let kept : Keeps c.self.inside.standing (clients_of c.reserve-in-None.new.self.entries) =
    subst (λ entries. Keeps c.self.inside.standing (clients_of entries))
    (sym c.reserve-in-None.ensures.entries) c.self.invariant.1.0 in
    let waits : Waits c.self.inside.times.items (clients_of c.reserve-in-None.new.self.entries) =
    subst (λ entries. Waits c.self.inside.times.items (clients_of entries))
    (sym c.reserve-in-None.ensures.entries) c.self.invariant.1.1 in
    (indexed, (kept, waits-same c.self.inside.times.items _ _ c.add_block.ensures waits))

pub invariant_of-self-in-None : goal.invariant_of-self-in-None
invariant_of-self-in-None c =
    let id = c.args.connect.client_id in
    let new =
    known-found id c.self.inside.clients.entries ∙ sym c.get_index_of.ensures.found
    ∙ ap is_some c.in-None.is in
    let same = c.reserve-in-None.ensures.entries in (
      c.admit.ensures.indexed,
      (
        subst (Keeps c.self.inside.standing) (sym (c.admit.ensures.clients
            ∙ ap (λ entries. entered c.args.clock c.args.from c.args.connect (clients_of entries)) same))
            (keeps-entered c.self.inside.standing c.args.clock c.args.from c.args.connect
            (clients_of c.self.inside.clients.entries) new c.self.invariant.1.0),
        search rules,
      ),
    )

pub returns-in_ok-add_block-in-None-clause-ok : goal.returns-in_ok-add_block-in-None-clause-ok
returns-in_ok-add_block-in-None-clause-ok c =
    c.admit.ensures.clients
    ∙ (ap (λ entries. entered c.args.clock c.args.from c.args.connect (clients_of entries))
    c.reserve-in-None.ensures.entries
    ∙ ap (entered c.args.clock c.args.from c.args.connect) c.self.view_is)
