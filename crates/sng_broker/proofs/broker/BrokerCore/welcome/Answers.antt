use Rattle.std.proofs.Common.{◌≡◌, false, ap, ◌∙◌}
use Rattle.sng_broker.specs.Brokers.{is_open}
use Rattle.sng_broker.proofs.Peers.{once_joined}
use Rattle.sng_broker.proofs.broker.BrokerCore.welcome.Goals as goal

pub invariant_of-self : goal.invariant_of-self
invariant_of-self c = rw c.reserve.ensures.items c.self.invariant

pub invariant_of-self-2 : goal.invariant_of-self-2
invariant_of-self-2 c =
    let absent : is_open c.self.inside.peers.items c.args.conn ≡ false =
    ap (λ b. is_open b.peers c.args.conn) (c.self.view_is ∙ c.answer.ensures.same) ∙ c.requires in
    rw (c.push_reserved.ensures.items, c.reserve.ensures.items)
    (once_joined c.self.inside.peers.items c.args.conn 0 absent c.self.invariant)
