use Rattle.std.proofs.Common.{◌<◌, length, sym, subst, arith}
use Rattle.sng_serve.specs.Visits.{IsTurn}
use Rattle.sng_serve.specs.declared.visit.Visit.{Visit}
use Rattle.sng_serve.proofs.VisitLemmas.{turned_more}
use Rattle.sng_serve.proofs.reception.attend_all.Goals as goal

pub loop-visit-preserved : goal.loop-visit-preserved
loop-visit-preserved g c =
    let before = c.deref_mut-visit-items.result.now in
    let within : c.loop-visit.visit-index < length before = omega arith in
    let kept = c.loop-visit.invariant in
    let Turns : Visit → Type 0 = λ visit. IsTurn c.args.now visit c.turn.new.self in
    let turn = subst Turns (sym c.visit-item.is) c.turn.ensures in
    turned_more (IsTurn c.args.now) before c.loop-visit.visit-items kept.0 c.loop-visit.visit-index
    c.visit-item.result c.turn.new.self within kept.1 kept.2 c.visit-item.is turn
