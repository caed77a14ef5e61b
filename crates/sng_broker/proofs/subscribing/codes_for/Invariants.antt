use Rattle.std.proofs.Common.{◌≡◌, take}
use Rattle.sng_broker.specs.Steps.{codes_for}
use Rattle.sng_broker.proofs.subscribing.codes_for.Given as goal

abbrev pub invariant-loop-request : goal.invariant-loop-request
invariant-loop-request l = l.codes.items ≡ codes_for l.conn (take l.request-index l.requests)
