use Rattle.std.proofs.Common.{arith, ◌≡◌, ◌+◌, ◌++◌, ◌∷◌, [], take, ap, sym, ◌∙◌}
use Rattle.std.proofs.lemmas.List.{take_more}
use Rattle.sng_desk.specs.Acts.{sends_in}
use Rattle.sng_desk.proofs.Going.{moves_on, sends_on}
use Rattle.sng_serve.specs.Parcels.{own}
use Rattle.sng_serve.proofs.ParcelLemmas.{own_on}
use Rattle.sng_serve.proofs.parcels.send_own.Goals as goal

pub loop-out-preserved : goal.loop-out-preserved
loop-out-preserved g c =
    let s = g.S.Sender in
    let shared = c.args.is_shared in
    let i = c.loop-out.out-index in
    let outs = c.args.outs.now in
    let out = c.out-item.result in
    let step : take (i + 1) outs ≡ take i outs ++ out ∷ [] = take_more outs i out c.loop-out-test.true
    ∙ ap (λ x. take i outs ++ x ∷ []) (sym c.out-item.is) in
    let before = sends_in (take i outs) in
    let more = sends_in (out ∷ []) in
    record {
      passed = rw (step, sends_on (take i outs) (out ∷ []), own_on shared before more) (moves_on s.tells
          s.passed c.args.sender.now c.loop-out.sender c.send_out.new.sender (own shared before)
          (own shared more) c.loop-out.invariant.passed c.send_out.ensures.passed);
      unsent = omega (arith, c.loop-out.invariant.unsent, c.send_out.ensures.unsent);
      failures = omega (arith, c.loop-out.invariant.failures, c.send_out.ensures.failures);
    }
