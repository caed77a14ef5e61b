use Rattle.std.proofs.Common.{sym, arith}
use Rattle.sng_outbox.proofs.SlotLemmas.{walked_gap, walked_more, walk_found, walk_ended}
use Rattle.sng_outbox.proofs.flights.nth.Goals as goal

pub loop-slot-preserved-in_default : goal.loop-slot-preserved-in_default
loop-slot-preserved-in_default c =
    let gap = walked_gap c.args.slots.now c.loop-slot.slot-index c.slot-item.result c.loop-slot-test.true
    c.slot-item.is c.in_default.is in
    let before = c.loop-slot.invariant in
    omega (arith, gap, before)

pub returns-then-before-eq0 : goal.returns-then-before-eq0
returns-then-before-eq0 c =
    let before = c.loop-slot.invariant in
    sym (walk_found c.args.slots.now c.loop-slot.slot-index c.args.place c.slot-item.result c.in-Some.sent
    c.loop-slot-test.true c.slot-item.is c.in-Some.is (omega (arith, before)))

pub loop-slot-preserved : goal.loop-slot-preserved
loop-slot-preserved c =
    let more = walked_more c.args.slots.now c.loop-slot.slot-index c.slot-item.result c.in-Some.sent
    c.loop-slot-test.true c.slot-item.is c.in-Some.is in
    let before = c.loop-slot.invariant in
    omega (arith, more, before)

pub returns : goal.returns
returns c =
    sym (walk_ended c.args.slots.now c.loop-slot.slot-index c.loop-slot.before c.args.place
    c.loop-slot-test.false c.loop-slot.invariant)
