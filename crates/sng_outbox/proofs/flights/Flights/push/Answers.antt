use Rattle.std.proofs.Common.{◌≡◌, ◌≤◌, [], ◌∷◌, Some, length, ap, ◌∙◌, arith}
use Rattle.std.proofs.lemmas.List.{length-append}
use Rattle.sng_outbox.specs.Flights.{sent_in}
use Rattle.sng_outbox.proofs.SlotLemmas.{tracked-same, indexed_more, sent_more}
use Rattle.sng_outbox.proofs.flights.Flights.push.Goals as goal

pub invariant_of-self : goal.invariant_of-self
invariant_of-self c =
    let small : c.args.packet_id ≤ 65535 = omega arith in
    let fresh = rw (← c.self.view_is) at c.requires.new in
    let len_is : c.len.result ≡ length c.self.inside.slots.items = omega arith in
    let more = ap length (sent_more c.self.inside.slots.items
    (record { packet_id = c.args.packet_id; publication = c.args.publication })) in
    let longer = length-append (sent_in c.self.inside.slots.items)
    (record { packet_id = c.args.packet_id; publication = c.args.publication } ∷ []) in
    let slots = length-append c.self.inside.slots.items
    (Some (record { packet_id = c.args.packet_id; publication = c.args.publication }) ∷ []) in
    let count = c.self.invariant.1 in
    let few = c.self.invariant.2 in
    rw (c.push_reserved.ensures.items, c.from.ensures, len_is) (
      indexed_more c.self.inside.slots.items c.self.inside.places.items
          (record { packet_id = c.args.packet_id; publication = c.args.publication }) small fresh
          c.self.invariant.0,
      omega (arith, count, more, longer),
      omega (arith, few, slots),
    )

pub returns : goal.returns
returns c =
    rw (← c.self.view_is) (tracked-same _ _ _ _
    (ap sent_in c.push_reserved.ensures.items ∙ sent_more c.self.inside.slots.items
    (record { packet_id = c.args.packet_id; publication = c.args.publication }))
    c.push_reserved.ensures.capacity)
