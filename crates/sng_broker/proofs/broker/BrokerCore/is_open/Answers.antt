use Rattle.std.proofs.Common.{subst}
use Rattle.sng_broker.specs.Brokers.{Broker, EachOnce}
use Rattle.sng_broker.proofs.broker.BrokerCore.is_open.Goals as goal

pub returns-clause-apart : goal.returns-clause-apart
returns-clause-apart c = subst (λ (b : Broker). EachOnce b.peers) c.self.view_is c.self.invariant
