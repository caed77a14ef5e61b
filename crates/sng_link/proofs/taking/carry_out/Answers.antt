use Rattle.std.proofs.Common.{◌≡◌, ◌++◌, ◌∷◌, Some, suc, drop, sym, ap, ◌∙◌, slice_get}
use Rattle.std.proofs.Math.Seq.{drop-cons}
use Rattle.sng_link.specs.Taking.{flight, flights}
use Rattle.sng_link.proofs.Taken.{next_distinct, first_of}
use Rattle.sng_link.proofs.taking.carry_out.Goals as goal

pub carry-requires-clause-distinct : goal.carry-requires-clause-distinct
carry-requires-clause-distinct c =
    let index = c.loop-step.step-index in
    let step = c.step-item.result in
    let waiting = c.loop-step.outbox.sending.waiting in
    let before = c.loop-step.outbox.sending.in_flight in
    let plan_is : drop index c.args.plan.now ≡ step ∷ drop (suc index) c.args.plan.now =
    drop-cons c.args.plan.now index step c.loop-step-test.true
    ∙ ap (λ s. s ∷ drop (suc index) c.args.plan.now) (sym c.step-item.is) in
    let there : slice_get waiting 0 ≡ Some c.in-Some.item = sym c.in-Some.ensures.front in
    let waits : waiting ≡ c.in-Some.item ∷ drop 1 waiting = first_of waiting c.in-Some.item there in
    let left : before ++ (flight c.in-Some.item step.packet_id
    ++ flights (drop 1 waiting) (drop (suc index) c.args.plan.now))
    ≡ c.args.outbox.now.sending.in_flight ++ flights c.args.outbox.now.sending.waiting c.args.plan.now =
    ap (λ l. before ++ flights l (step ∷ drop (suc index) c.args.plan.now)) (sym waits)
    ∙ ap (λ l. before ++ flights waiting l) (sym plan_is) ∙ c.loop-step.invariant.left in
    rw c.settle.ensures.rest
    (next_distinct
    (c.args.outbox.now.sending.in_flight ++ flights c.args.outbox.now.sending.waiting c.args.plan.now)
    before (flight c.in-Some.item step.packet_id)
    (flights (drop 1 waiting) (drop (suc index) c.args.plan.now)) c.requires.distinct left)
