use Rattle.std.proofs.Common.{◌≡◌, drop, ◌++◌}
use Rattle.sng_broker.specs.Steps.{all_granted}
use Rattle.sng_broker.proofs.subscribing.all_granted.Given as goal

abbrev pub invariant-loop-request : goal.invariant-loop-request
invariant-loop-request l =
    l.all.items ++ all_granted l.conn (drop l.request-index l.requests) ≡ all_granted l.conn l.requests
