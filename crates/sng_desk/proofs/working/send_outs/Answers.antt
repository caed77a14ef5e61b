use Rattle.std.proofs.Common.{arith, ◌≡◌, ◌+◌, ◌++◌, ◌∷◌, [], take, ap, sym, ◌∙◌}
use Rattle.std.proofs.lemmas.List.{take_more}
use Rattle.sng_desk.specs.Acts.{sends_in}
use Rattle.sng_desk.proofs.Going.{moves_on, sends_on}
use Rattle.sng_desk.proofs.working.send_outs.Goals as goal

pub loop-out-preserved : goal.loop-out-preserved
loop-out-preserved g c =
    let s = g.S.Source in
    let i = c.loop-out.out-index in
    let outs = c.args.outs.now in
    let out = c.out-item.result in
    let step : take (i + 1) outs ≡ take i outs ++ out ∷ [] = take_more outs i out c.loop-out-test.true
    ∙ ap (λ x. take i outs ++ x ∷ []) (sym c.out-item.is) in
    record {
      given = moves_on s.tells s.gave c.args.source.now c.loop-out.source c.send_out.new.source [] []
          c.loop-out.invariant.given c.send_out.ensures.given;
      passed = rw (step, sends_on (take i outs) (out ∷ [])) (moves_on s.told s.passed c.args.source.now
          c.loop-out.source c.send_out.new.source (sends_in (take i outs)) (sends_in (out
          ∷ [])) c.loop-out.invariant.passed c.send_out.ensures.passed);
      failures = omega (arith, c.loop-out.invariant.failures, c.send_out.ensures.failures);
      line = c.send_out.ensures.line ∙ c.loop-out.invariant.line;
    }
