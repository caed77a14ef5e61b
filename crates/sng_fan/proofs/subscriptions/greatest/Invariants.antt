use Rattle.std.proofs.Common.{◌≡◌, drop}
use Rattle.sng_fan.specs.Greatest.{greatest_from, greatest_qos}
use Rattle.sng_fan.proofs.subscriptions.greatest.Given as goal

abbrev pub invariant-loop-one : goal.invariant-loop-one
invariant-loop-one l = greatest_from l.greatest (drop l.one-index l.held) l.name ≡ greatest_qos l.held l.name
