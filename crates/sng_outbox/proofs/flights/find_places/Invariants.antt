use Rattle.sng_outbox.proofs.SlotLemmas.{Noted}
use Rattle.sng_outbox.proofs.flights.find_places.Given as goal

abbrev pub invariant-loop-place : goal.invariant-loop-place
invariant-loop-place l = Noted l.slots l.places l.place
