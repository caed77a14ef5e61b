use Rattle.std.proofs.Common.{arith, ◌≡◌, ◌+◌, ◌++◌, ◌∷◌, [], take, ap, sym, ◌∙◌}
use Rattle.std.proofs.lemmas.List.{take_more}
use Rattle.sng_desk.specs.Sights.{Receipt}
use Rattle.sng_desk.specs.Acts.{sends_in, sends_of}
use Rattle.sng_desk.proofs.Going.{moves_on, flat_push}
use Rattle.sng_desk.proofs.working.send_all.Goals as goal

pub loop-receipt-preserved : goal.loop-receipt-preserved
loop-receipt-preserved g c =
    let s = g.S.Source in
    let i = c.loop-receipt.receipt-index in
    let receipts = c.args.receipts.now in
    let receipt = c.receipt-item.result in
    let step : take (i + 1) receipts ≡ take i receipts ++ receipt
    ∷ [] = take_more receipts i receipt c.loop-receipt-test.true
    ∙ ap (λ x. take i receipts ++ x ∷ []) (sym c.receipt-item.is) in
    record {
      given = moves_on s.tells s.gave c.args.source.now c.loop-receipt.source c.send_outs.new.source [] []
          c.loop-receipt.invariant.given c.send_outs.ensures.given;
      passed = rw (step, flat_push (λ (r : Receipt). sends_in r.outs) (take i receipts) receipt)
          (moves_on s.told s.passed c.args.source.now c.loop-receipt.source c.send_outs.new.source
          (sends_of (take i receipts)) (sends_in receipt.outs) c.loop-receipt.invariant.passed
          (rw c.outs.ensures at c.send_outs.ensures.passed));
      failures = omega (arith, c.loop-receipt.invariant.failures, c.send_outs.ensures.failures);
      line = c.send_outs.ensures.line ∙ c.loop-receipt.invariant.line;
    }
