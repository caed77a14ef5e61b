use Rattle.sng_broker.proofs.Peers.{once_identified}
use Rattle.sng_broker.proofs.broker.BrokerCore.subscribe.Goals as goal

pub invariant_of-self-2 : goal.invariant_of-self-2
invariant_of-self-2 c = rw c.identify.ensures (once_identified _ _ c.self.inside.peers.items c.self.invariant)
