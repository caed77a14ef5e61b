use Rattle.std.proofs.Common.{ap, length, arith}
use Rattle.sng_outbox.proofs.SlotLemmas.{tracked-same}
use Rattle.sng_outbox.proofs.flights.Flights.tidy.Goals as goal

pub invariant_of-self : goal.invariant_of-self
invariant_of-self c =
    let count = c.self.invariant.1 in
    let same = ap length c.sweep.ensures.sent in
    let len = c.sweep.ensures.len in
    (c.sweep.ensures.indexed, omega (arith, count, same), omega (arith, count, len))

pub returns : goal.returns
returns c =
    rw (← c.self.view_is) (tracked-same _ _ _ _ c.sweep.ensures.sent c.sweep.ensures.capacity)
