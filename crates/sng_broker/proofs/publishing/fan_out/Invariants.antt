use Rattle.std.proofs.Common.{◌≡◌, take}
use Rattle.std.specs.List.{flat_map}
use Rattle.sng_broker.specs.Steps.{copy_for}
use Rattle.sng_broker.proofs.publishing.fan_out.Given as goal

abbrev pub invariant-loop-peer : goal.invariant-loop-peer
invariant-loop-peer l = l.outs.items ≡ flat_map (copy_for l.standing l.message) (take l.peer-index l.peers)
