use Rattle.std.proofs.Common.{List, Option, length, sym, ap, ◌∙◌, subst, arith}
use Rattle.sng_outbox.specs.declared.in_flight.InFlight.{InFlight}
use Rattle.sng_outbox.specs.Flights.{sent_in}
use Rattle.sng_outbox.proofs.SlotLemmas.{tracked-same, any_sent, none_sent, none_left, only_there, sent_gap}
use Rattle.sng_outbox.proofs.SlotLemmas.{indexed_gap, fewer, within, Nowhere}
use Rattle.sng_outbox.proofs.flights.Flights.remove.Goals as goal

pub returns-in_default-clause-found : goal.returns-in_default-clause-found
returns-in_default-clause-found c =
    let nowhere = subst (λ (slots : List (Option InFlight)). Nowhere slots c.args.packet_id) c.deref.ensures.value
    c.in_default.ensures in
    rw (← c.self.view_is) (sym (none_sent c.self.inside.slots.items c.args.packet_id nowhere))

pub returns-in_default-clause-rest : goal.returns-in_default-clause-rest
returns-in_default-clause-rest c =
    let nowhere = subst (λ (slots : List (Option InFlight)). Nowhere slots c.args.packet_id) c.deref.ensures.value
    c.in_default.ensures in
    rw (← c.self.view_is) (rw (none_left c.self.inside.slots.items c.args.packet_id nowhere))

pub leave_gap-requires : goal.leave_gap-requires
leave_gap-requires c =
    let there = rw c.deref.ensures.value at c.in-Some.ensures in
    within c.self.inside.slots.items c.in-Some.place c.args.packet_id there

pub overflow_sub-self : goal.overflow_sub-self
overflow_sub-self c =
    let there = rw c.deref.ensures.value at c.in-Some.ensures in
    let less = fewer c.self.inside.slots.items c.in-Some.place c.args.packet_id there in
    let count = c.self.invariant.1 in
    omega (arith, less, count)

pub sweep_sparse-requires : goal.sweep_sparse-requires
sweep_sparse-requires c =
    let there = rw c.deref.ensures.value at c.in-Some.ensures in
    let less = fewer c.self.inside.slots.items c.in-Some.place c.args.packet_id there in
    let count = c.self.invariant.1 in
    let many = ap (λ (s : List (Option InFlight)). length (sent_in s)) c.leave_gap.ensures.items in
    record {
      indexed = rw c.leave_gap.ensures.items
          (indexed_gap c.self.inside.slots.items c.self.inside.places.items c.in-Some.place c.self.invariant.0);
      count = omega (arith, less, count, many);
    }

pub invariant_of-self : goal.invariant_of-self
invariant_of-self c =
    let there = rw c.deref.ensures.value at c.in-Some.ensures in
    let less = fewer c.self.inside.slots.items c.in-Some.place c.args.packet_id there in
    let count = c.self.invariant.1 in
    let many = ap (λ (s : List (Option InFlight)). length (sent_in s)) c.leave_gap.ensures.items in
    let same = ap length c.sweep_sparse.ensures.sent in
    let few = c.sweep_sparse.ensures.few in
    (c.sweep_sparse.ensures.indexed, omega (arith, less, count, many, same), omega (arith, few))

pub returns-clause-found : goal.returns-clause-found
returns-clause-found c =
    let there = rw c.deref.ensures.value at c.in-Some.ensures in
    rw (← c.self.view_is) (sym (any_sent c.self.inside.slots.items c.in-Some.place c.args.packet_id there))

pub returns-clause-rest : goal.returns-clause-rest
returns-clause-rest c =
    let there = rw c.deref.ensures.value at c.in-Some.ensures in
    let only =
    only_there c.self.inside.slots.items c.self.inside.places.items c.in-Some.place c.args.packet_id
    c.self.invariant.0 there in
    rw (← c.self.view_is) (tracked-same _ _ _ _
    (c.sweep_sparse.ensures.sent ∙ ap sent_in c.leave_gap.ensures.items
    ∙ sent_gap c.self.inside.slots.items c.in-Some.place c.args.packet_id there only)
    (c.sweep_sparse.ensures.capacity ∙ c.leave_gap.ensures.capacity))
