use Rattle.std.proofs.Common.{◌≡◌, inl, inr, arith}
use Rattle.sng_outbox.proofs.IdLemmas.{counted-first, counted-more, counted-last}
use Rattle.sng_outbox.proofs.packet_ids.next_id.Goals as goal

pub bounds-marks-from : goal.bounds-marks-from
bounds-marks-from c =
    let small = c.loop-turn.invariant.small in
    omega (arith, small)

pub loop-turn-init : goal.loop-turn-init
loop-turn-init c = rw c.successor-packet_id.ensures (counted-first c.args.marks.now c.args.last (omega arith))

pub returns-then-not-marks-from-clause-next : goal.returns-then-not-marks-from-clause-next
returns-then-not-marks-from-clause-next c ids few kept =
    counted-last c.args.marks.now ids c.args.last c.loop-turn._turn c.loop-turn.packet_id few (omega arith)
    (omega arith) kept
    c.loop-turn.invariant (inl (rw c.from.ensures at c.if-not-marks-from.true))

pub loop-turn-preserved : goal.loop-turn-preserved
loop-turn-preserved c =
    rw c.successor-packet_id-in-loop-turn.ensures
    (counted-more c.args.marks.now c.args.last c.loop-turn._turn c.loop-turn.packet_id c.loop-turn.invariant
    (rw c.from.ensures at c.if-not-marks-from.false))

pub returns-clause-next : goal.returns-clause-next
returns-clause-next c ids few kept =
    let all : c.loop-turn._turn ≡ 65534 = omega arith in
    counted-last c.args.marks.now ids c.args.last c.loop-turn._turn c.loop-turn.packet_id few (omega arith)
    (omega arith) kept c.loop-turn.invariant (inr all)
