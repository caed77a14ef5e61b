use Rattle.std.proofs.Common.{not, rules, refl}
use Rattle.std.proofs.lemmas.Fn.{filter_same}
use Rattle.sng_broker.specs.Brokers.{is_peer, is_held}
use Rattle.sng_broker.proofs.Peers.{once_kept}
use Rattle.sng_broker.proofs.broker.BrokerCore.close.Goals as goal

pub invariant_of-self : goal.invariant_of-self
invariant_of-self c =
    let left =
    filter_same _ (λ p. not (is_peer c.args.conn p)) _
    (λ x b f' k. search rules) _ _ c.retain.ensures.filtered in
    rw left (once_kept (λ p. not (is_peer c.args.conn p)) c.self.inside.peers.items c.self.invariant)

pub returns : goal.returns
returns c =
    let left =
    filter_same _ (λ p. not (is_peer c.args.conn p)) _
    (λ x b f' k. search rules) _ _ c.retain.ensures.filtered in
    let others =
    filter_same _ (λ s. not (is_held c.args.conn s)) _
    (λ x b f' k. search rules) _ _ c.retain-2.ensures.filtered in
    rw (← c.self.view_is, left, others) refl
