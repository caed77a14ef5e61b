use Rattle.std.proofs.Common.{◌≡◌, drop}
use Rattle.sng_broker.specs.Steps.{last_of}
use Rattle.sng_broker.proofs.subscribing.last_of.Given as goal

abbrev pub invariant-loop-peer : goal.invariant-loop-peer
invariant-loop-peer l = last_of (drop l.peer-index l.peers) l.conn ≡ last_of l.peers l.conn
