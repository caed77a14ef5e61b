use Rattle.std.proofs.Common.{◌≤◌, ◌∙◌, length, arith}
use Rattle.sng_outbox.specs.Flights.{sent_in}
use Rattle.sng_outbox.proofs.SlotLemmas.{full_at}
use Rattle.sng_outbox.proofs.flights.Flights.get.Goals as goal

pub returns-then-len-self : goal.returns-then-len-self
returns-then-len-self c =
    let count = c.self.invariant.1 in
    let full : length c.self.inside.slots.items ≤ length (sent_in c.self.inside.slots.items) =
    omega (arith, count) in
    let there = rw c.deref.ensures.value at c.flight_at.ensures in
    rw (← c.self.view_is) (there ∙ full_at c.self.inside.slots.items c.args.place full)
