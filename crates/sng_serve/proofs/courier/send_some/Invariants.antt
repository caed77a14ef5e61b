use Rattle.std.proofs.Common.{◌≡◌}
use Rattle.sng_serve.proofs.courier.send_some.Given as goal

abbrev pub invariant-loop-parcel : goal.invariant-loop-parcel
invariant-loop-parcel l = l.sent ≡ l.parcel-index
