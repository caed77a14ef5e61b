-- The message of a PUBLISH goes once to each, since no connection is there twice.
use Rattle.std.proofs.Common.{subst}
use Rattle.sng_broker.specs.Brokers.{Broker, EachOnce}
use Rattle.sng_broker.proofs.Copies.{publish_goes_once}
use Rattle.sng_broker.proofs.broker.BrokerCore.step.Goals as goal

pub returns-clause-once : goal.returns-clause-once
returns-clause-once c =
    let once = subst (λ (b : Broker). EachOnce b.peers) c.self.view_is c.self.invariant in
    rw c.in_ok-outs.ensures.outs (publish_goes_once c.args.self.now c.args.conn c.args.packet once)
