use Rattle.std.proofs.Common.{arith, ◌≡◌, ◌+◌, ◌++◌, ◌∷◌, [], take, length, ap, sym, ◌∙◌}
use Rattle.std.proofs.lemmas.List.{take_more, length-append}
use Rattle.sng_desk.specs.Acts.{sends_in}
use Rattle.sng_desk.proofs.Going.{sends_on}
use Rattle.sng_serve.proofs.parcels.datagrams_in.Goals as goal

pub loop-out-preserved : goal.loop-out-preserved
loop-out-preserved c =
    let i = c.loop-out.out-index in
    let outs = c.args.outs.now in
    let out = c.out-item.result in
    let step : take (i + 1) outs ≡ take i outs ++ out ∷ [] = take_more outs i out c.loop-out-test.true
    ∙ ap (λ x. take i outs ++ x ∷ []) (sym c.out-item.is) in
    let more : length (sends_in (take (i + 1) outs)) ≡ length (sends_in (take i outs)) + length (sends_in (out
    ∷ [])) = ap (λ x. length (sends_in x)) step ∙ ap length (sends_on (take i outs) (out ∷ []))
    ∙ length-append (sends_in (take i outs)) (sends_in (out ∷ [])) in
    record {
      count = omega (arith, more, c.loop-out.invariant.count, c.number_of-count.ensures.number);
      few = omega (arith, c.loop-out.invariant.few, c.number_of-count.ensures.small);
    }
