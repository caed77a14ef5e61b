use Rattle.std.proofs.Common.{refl}
use Rattle.sng_broker.proofs.Peers.{once_changed}
use Rattle.sng_broker.proofs.broker.BrokerCore.publish.Goals as goal

pub invariant_of-self-then-publish : goal.invariant_of-self-then-publish
invariant_of-self-then-publish c =
    rw c.count_copies.ensures (once_changed _ (λ peer. refl) c.self.inside.peers.items c.self.invariant)

pub invariant_of-self-else-publish : goal.invariant_of-self-else-publish
invariant_of-self-else-publish c =
    rw c.count_copies.ensures (once_changed _ (λ peer. refl) c.self.inside.peers.items c.self.invariant)
