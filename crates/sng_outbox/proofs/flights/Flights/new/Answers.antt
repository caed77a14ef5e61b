use Rattle.std.proofs.Common.{◌≡◌, length, refl, ap, arith}
use Rattle.sng_outbox.proofs.SlotLemmas.{indexed_none}
use Rattle.sng_outbox.proofs.flights.Flights.new.Goals as goal

pub invariant_of-result : goal.invariant_of-result
invariant_of-result c =
    let whole : length c.in_ok-vec.field-0.items ≡ 65536 = omega (arith, c.in_ok-vec.ensures.len) in
    let none = c.new.ensures.items in
    let empty = ap length none in (
      indexed_none c.new.result.items c.in_ok-vec.field-0.items none whole,
      rw none refl,
      omega (arith, empty),
    )
