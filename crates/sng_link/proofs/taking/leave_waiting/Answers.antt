use Rattle.std.proofs.Common.{◌≡◌, ◌++◌, [], ap, ◌∙◌}
use Rattle.sng_outbox.specs.Sending.{Sending, SendingRoom}
use Rattle.sng_link.specs.Flights.{link_of}
use Rattle.sng_link.specs.Taking.{flights}
use Rattle.sng_link.proofs.Taken.{whole_plan, all_outs, link_taken, marked_taken, closed_taken, distinct_taken}
use Rattle.sng_link.proofs.taking.leave_waiting.Goals as goal

pub carry_out-requires-clause-whole : goal.carry_out-requires-clause-whole
carry_out-requires-clause-whole c =
    let planned = c.in-Ok.ensures.planned 0 in
    rw c.as_slice.ensures.value
    (whole_plan c.args.policy.now c.args.ids.now.marks
    (link_of c.args.outbox.now.sending c.args.ids.now c.args.wanted.now.wanted 0)
    c.args.outbox.now.sending.waiting planned.0 c.plan.new.log.items c.plan.new.ids
    c.plan.new.wanted.wanted planned.2)

pub carry_out-requires-clause-distinct : goal.carry_out-requires-clause-distinct
carry_out-requires-clause-distinct c =
    let planned = c.in-Ok.ensures.planned 0 in
    rw c.as_slice.ensures.value
    (distinct_taken c.args.policy.now c.args.ids.now.marks c.args.outbox.now.sending c.args.ids.now
    c.plan.new.ids c.args.wanted.now.wanted c.plan.new.wanted.wanted planned.0 c.plan.new.log.items planned.2)

pub returns-in-Ok-clause-outs : goal.returns-in-Ok-clause-outs
returns-in-Ok-clause-outs c pinged =
    let planned = c.in-Ok.ensures.planned pinged in
    planned.1
    ∙ ap (λ l. c.args.outs ++ l) (all_outs c.args.policy.now c.args.ids.now.marks
    (link_of c.args.outbox.now.sending c.args.ids.now c.args.wanted.now.wanted pinged)
    c.args.outbox.now.sending.waiting planned.0 c.plan.new.log.items c.plan.new.ids
    c.plan.new.wanted.wanted planned.2)

pub returns-in-Ok-clause-after : goal.returns-in-Ok-clause-after
returns-in-Ok-clause-after c pinged =
    let planned = c.in-Ok.ensures.planned pinged in
    let s : Sending = c.args.outbox.now.sending in
    let left : c.carry_out.new.outbox.sending
    ≡ record { waiting = []; in_flight = s.in_flight ++ flights s.waiting c.plan.new.log.items } =
    ap (λ (o : SendingRoom). o.sending) (rw c.as_slice.ensures.value at c.carry_out.ensures) in
    link_taken c.args.policy.now c.args.ids.now.marks s c.carry_out.new.outbox.sending c.args.ids.now
    c.plan.new.ids c.args.wanted.now.wanted c.plan.new.wanted.wanted pinged planned.0 c.plan.new.log.items
    planned.2 left

pub returns-in-Ok-clause-marked : goal.returns-in-Ok-clause-marked
returns-in-Ok-clause-marked c =
    let planned = c.in-Ok.ensures.planned 0 in
    let s : Sending = c.args.outbox.now.sending in
    let left : c.carry_out.new.outbox.sending
    ≡ record { waiting = []; in_flight = s.in_flight ++ flights s.waiting c.plan.new.log.items } =
    ap (λ (o : SendingRoom). o.sending) (rw c.as_slice.ensures.value at c.carry_out.ensures) in
    marked_taken c.args.policy.now c.args.ids.now.marks s c.carry_out.new.outbox.sending c.args.ids.now
    c.plan.new.ids c.args.wanted.now.wanted c.plan.new.wanted.wanted planned.0 c.plan.new.log.items
    planned.2 left

pub returns-in-Ok-clause-closed : goal.returns-in-Ok-clause-closed
returns-in-Ok-clause-closed c =
    let planned = c.in-Ok.ensures.planned 0 in
    closed_taken c.args.policy.now c.args.ids.now.marks
    (link_of c.args.outbox.now.sending c.args.ids.now c.args.wanted.now.wanted 0)
    c.args.outbox.now.sending.waiting [] planned.0 c.plan.new.log.items c.plan.new.ids
    c.plan.new.wanted.wanted planned.2
