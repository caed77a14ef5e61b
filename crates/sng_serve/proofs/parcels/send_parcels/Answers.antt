use Rattle.std.proofs.Common.{arith, ◌≡◌, ◌+◌, ◌++◌, ◌∷◌, [], take, ap, sym, ◌∙◌}
use Rattle.std.proofs.lemmas.List.{take_more}
use Rattle.sng_desk.proofs.Going.{moves_on}
use Rattle.sng_serve.proofs.parcels.send_parcels.Goals as goal

pub loop-parcel-preserved : goal.loop-parcel-preserved
loop-parcel-preserved g c =
    let s = g.S.Sender in
    let i = c.loop-parcel.parcel-index in
    let parcels = c.args.parcels.now in
    let parcel = c.parcel-item.result in
    let step : take (i + 1) parcels ≡ take i parcels ++ parcel ∷ [] = take_more parcels i parcel
    c.loop-parcel-test.true ∙ ap (λ x. take i parcels ++ x ∷ []) (sym c.parcel-item.is) in
    record {
      passed = rw step (moves_on s.tells s.passed c.args.sender.now c.loop-parcel.sender c.pass_on-sent.new.self
          (take i parcels) (parcel ∷ []) c.loop-parcel.invariant.passed c.pass_on-sent.ensures.passed);
      unsent = omega (arith, c.loop-parcel.invariant.unsent, c.pass_on-sent.ensures.unsent);
      failures = omega (arith, c.loop-parcel.invariant.failures, c.pass_on-sent.ensures.failures);
    }
