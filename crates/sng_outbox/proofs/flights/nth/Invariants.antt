use Rattle.std.proofs.Common.{◌≡◌, ◌+◌, length, take}
use Rattle.sng_outbox.specs.Flights.{sent_in}
use Rattle.sng_outbox.proofs.flights.nth.Given as goal

abbrev pub invariant-loop-slot : goal.invariant-loop-slot
invariant-loop-slot l = l.before + length (sent_in (take l.slot-index l.slots)) ≡ l.place
