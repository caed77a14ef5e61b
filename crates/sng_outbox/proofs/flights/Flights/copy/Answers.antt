use Rattle.std.proofs.Common.{List, [], ◌∷◌, ◌++◌, sym, ap, ◌∙◌}
use Rattle.sng_outbox.specs.declared.in_flight.InFlight.{InFlight}
use Rattle.sng_outbox.specs.Flights.{sent_in}
use Rattle.sng_outbox.proofs.SlotLemmas.{sent_take, take_whole}
use Rattle.sng_outbox.proofs.flights.Flights.copy.Goals as goal

pub loop-slot-preserved : goal.loop-slot-preserved
loop-slot-preserved c =
    c.in_ok-copy_slot.ensures
    ∙ ap (λ (l : List InFlight). l ++ sent_in (c.slot-item.result ∷ [])) c.loop-slot.invariant
    ∙ sym (sent_take c.deref-slot-items.result.now c.loop-slot.slot-index c.slot-item.result
    c.loop-slot-test.true c.slot-item.is)

pub returns : goal.returns
returns c =
    rw (← c.self.view_is) (c.loop-slot.invariant
    ∙ take_whole c.deref-slot-items.result.now c.loop-slot.slot-index c.loop-slot-test.false
    ∙ ap sent_in c.deref-slot-items.ensures.value)
