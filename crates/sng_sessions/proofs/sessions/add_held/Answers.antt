use Rattle.std.proofs.Common.{suc, ◌≡◌, ◌+◌, ◌∷◌, drop, drop-cons, add-one, refl, sym, ap, subst, ◌∙◌}
use Rattle.std.proofs.lemmas.List.{drop_all}
use Rattle.sng_fan.specs.declared.held.Held.{Held}
use Rattle.sng_sessions.proofs.HoldingsMade.{Growing, Once, all_grown, growing_on, growing_start, once_drop}
use Rattle.sng_sessions.proofs.HoldingsMade.{others_on}
use Rattle.sng_sessions.proofs.sessions.add_held.Goals as goal

pub loop-one-init : goal.loop-one-init
loop-one-init c = record {
  grows = growing_start c.args.standing.now c.args.place c.args.held.now c.requires.empty;
  others = λ other text apart. refl;
}

pub loop-one-preserved : goal.loop-one-preserved
loop-one-preserved c =
    let held = c.args.held.now in
    let i = c.loop-one.one-index in
    let one = c.one-item.result in
    let split : drop i held ≡ one ∷ drop (i + 1) held =
    drop-cons held i one c.loop-one-test.true ∙ ap (λ (h : Held). h ∷ drop (suc i) held) (sym c.one-item.is)
    ∙ ap (λ n. one ∷ drop n held) (sym (add-one i)) in
    record {
      grows =
          growing_on c.loop-one.standing c.add.new.self c.args.place held one (drop (i + 1) held)
          (subst (Growing c.loop-one.standing c.args.place held) split c.loop-one.invariant.grows)
          (subst Once split (once_drop i held c.requires.once.0)) c.in_ok-add.ensures.ok;
      others =
          others_on c.args.standing.now c.loop-one.standing c.add.new.self c.args.place one.filter _
          c.loop-one.invariant.others c.in_ok-add.ensures.ok;
    }

pub returns-clause-held : goal.returns-clause-held
returns-clause-held c =
    all_grown c.loop-one.standing c.args.place c.args.held.now _
    (drop_all c.loop-one.one-index c.args.held.now c.loop-one-test.false) c.requires.once
    c.loop-one.invariant.grows
