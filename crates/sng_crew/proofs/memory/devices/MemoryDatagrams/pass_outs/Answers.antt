use Rattle.std.proofs.Common.{arith, ◌≡◌, ◌+◌, ◌++◌, ◌∷◌, [], take, ap, sym, ◌∙◌}
use Rattle.std.proofs.lemmas.List.{take_more, append_assoc}
use Rattle.sng_desk.specs.Acts.{sends_in}
use Rattle.sng_desk.proofs.Going.{sends_on}
use Rattle.sng_crew.proofs.memory.devices.MemoryDatagrams.pass_outs.Goals as goal

pub loop-out-preserved : goal.loop-out-preserved
loop-out-preserved c =
    let i = c.loop-out.out-index in
    let outs = c.args.outs.now in
    let out = c.out-item.result in
    let step : take (i + 1) outs ≡ take i outs ++ out ∷ [] = take_more outs i out c.loop-out-test.true
    ∙ ap (λ x. take i outs ++ x ∷ []) (sym c.out-item.is) in
    let first = c.args.self.now.kept.items in
    let before = c.loop-out.invariant in
    let now = c.pass_out.ensures in
    record {
      told = λ t. before.told (now.told t);
      kept = λ t. rw (step, sends_on (take i outs) (out ∷ [])) (now.kept t
          ∙ ap (λ x. x ++ sends_in (out ∷ [])) (before.kept (now.told t))
          ∙ append_assoc first (sends_in (take i outs)) (sends_in (out ∷ [])));
      gave = (now.gave.0 ∙ before.gave.0, now.gave.1 ∙ before.gave.1);
      unsent = omega (arith, before.unsent, now.unsent);
      failures = now.failures ∙ before.failures;
      over = now.over ∙ before.over;
    }
