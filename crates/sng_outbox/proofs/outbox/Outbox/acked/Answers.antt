use Rattle.std.proofs.Common.{length, ap, arith}
use Rattle.sng_outbox.specs.Flights.{Tracked}
use Rattle.sng_outbox.proofs.PlaceLemmas.{left-within}
use Rattle.sng_outbox.proofs.outbox.Outbox.acked.Goals as goal

pub invariant_of-self : goal.invariant_of-self
invariant_of-self c =
    let sent = ap (λ (t : Tracked). length t.sent) c.remove.ensures.rest in
    let slots = ap (λ (t : Tracked). t.slots) c.remove.ensures.rest in
    let less = left-within c.self.inside.in_flight.sent c.args.packet_id in
    let load = c.self.invariant.3 in
    let most = c.self.invariant.4 in (
      c.self.invariant.0,
      c.self.invariant.1,
      c.self.invariant.2,
      omega (arith, sent, less, load),
      omega (arith, slots, most),
    )
