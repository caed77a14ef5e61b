use Rattle.std.proofs.Common.{suc, ◌≡◌, ◌+◌, ◌∷◌, drop, drop-cons, add-one, refl, sym, ap, subst, ◌∙◌}
use Rattle.std.proofs.lemmas.List.{drop_all}
use Rattle.sng_endings.specs.Replacing.{moved}
use Rattle.sng_endings.specs.declared.replacing.SubscriptionEnd.{SubscriptionEnd}
use Rattle.sng_endings.proofs.Rehearsed.{Rehearsed, rehearsed_all, rehearsed_on}
use Rattle.sng_endings.proofs.room.room_after.Goals as goal

pub loop-ending-init : goal.loop-ending-init
loop-ending-init c = record {
  state = moved c.args.link.now.link c.args.sessions.now;
  keeps = c.in_ok-standing.ensures;
  room_is = c.room_left-room.ensures;
  leads = refl;
}

pub loop-ending-preserved : goal.loop-ending-preserved
loop-ending-preserved c =
    let link = c.args.link.now.link in
    let xs = c.args.sessions.now in
    let endings = c.args.endings.now in
    let i = c.loop-ending.ending-index in
    let e = c.ending-item.result in
    let split : drop i endings ≡ e ∷ drop (i + 1) endings =
    drop-cons endings i e c.loop-ending-test.true
    ∙ ap (λ (x : SubscriptionEnd). x ∷ drop (suc i) endings) (sym c.ending-item.is)
    ∙ ap (λ n. e ∷ drop n endings) (sym (add-one i)) in
    rehearsed_on c.args.limits link xs endings (drop (i + 1) endings) c.loop-ending.standing c.try_end.new.standing
    c.loop-ending.room c.try_end.new.room e
    (subst (Rehearsed c.args.limits link xs endings c.loop-ending.standing c.loop-ending.room) split c.loop-ending.invariant)
    c.try_end.ensures.held c.try_end.ensures.room

pub returns : goal.returns
returns c =
    rehearsed_all c.args.limits c.args.link.now.link c.args.sessions.now c.args.endings.now _ c.loop-ending.standing
    c.loop-ending.room (drop_all c.loop-ending.ending-index c.args.endings.now c.loop-ending-test.false)
    c.loop-ending.invariant
