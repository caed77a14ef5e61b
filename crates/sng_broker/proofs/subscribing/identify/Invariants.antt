use Rattle.std.proofs.Common.{◌≡◌, take, drop, map, ◌++◌}
use Rattle.sng_broker.specs.Brokers.{identified}
use Rattle.sng_broker.proofs.subscribing.identify.Given as goal

abbrev pub invariant-loop-peer : goal.invariant-loop-peer
invariant-loop-peer l =
    l.peer-items ≡ map (identified l.conn l.last_id) (take l.peer-index l.initial.peer-items)
    ++ drop l.peer-index l.initial.peer-items
