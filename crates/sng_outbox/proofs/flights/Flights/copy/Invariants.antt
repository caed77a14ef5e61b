use Rattle.std.proofs.Common.{◌≡◌, take}
use Rattle.sng_outbox.specs.Flights.{sent_in}
use Rattle.sng_outbox.proofs.flights.Flights.copy.Given as goal

abbrev pub invariant-loop-slot : goal.invariant-loop-slot
invariant-loop-slot l = l.copies.items ≡ sent_in (take l.slot-index l.slot-items)
