use Rattle.std.proofs.Common.{◌≡◌, take, drop, map, ◌++◌}
use Rattle.sng_broker.specs.Steps.{counted}
use Rattle.sng_broker.proofs.publishing.count_copies.Given as goal

abbrev pub invariant-loop-peer : goal.invariant-loop-peer
invariant-loop-peer l =
    l.peer-items ≡ map (counted l.standing l.message) (take l.peer-index l.initial.peer-items)
    ++ drop l.peer-index l.initial.peer-items
