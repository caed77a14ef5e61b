use Rattle.std.proofs.Common.{ℕ, List, ◌≡◌, ◌≢◌, ◌+◌, ◌++◌, ◌∷◌, [], take, ap, sym, ◌∙◌}
use Rattle.std.proofs.lemmas.List.{take_more, append_assoc}
use Rattle.std.proofs.lemmas.List.Elements.{All-append}
use Rattle.sng_book.specs.declared.address.Address.{Address}
use Rattle.sng_desk.specs.Acts.{sends_in}
use Rattle.sng_desk.proofs.Going.{sends_on}
use Rattle.sng_serve.specs.Parcels.{couriers}
use Rattle.sng_serve.proofs.ParcelLemmas.{couriers_on}
use Rattle.sng_serve.proofs.parcels.put_apart.Goals as goal

pub loop-out-preserved : goal.loop-out-preserved
loop-out-preserved c =
    let i = c.loop-out.out-index in
    let outs = c.args.outs.now in
    let out = c.out-item.result in
    let step : take (i + 1) outs ≡ take i outs ++ out ∷ [] = take_more outs i out c.loop-out-test.true
    ∙ ap (λ x. take i outs ++ x ∷ []) (sym c.out-item.is) in
    let sends = sends_on (take i outs) (out ∷ []) in
    let first = c.args.parcels.now.items in
    let Free : Address × List ℕ → Type 0 = λ p. p.1 ≢ c.args.held.now in
    record {
      parts = rw (step, sends, couriers_on (sends_in (take i outs)) (sends_in (out ∷ [])))
          (c.put_out.ensures.parts c.if-not-put_out.false
          ∙ ap (λ x. x ++ couriers (sends_in (out ∷ []))) c.loop-out.invariant.parts
          ∙ append_assoc first (couriers (sends_in (take i outs))) (couriers (sends_in (out ∷ []))));
      free = rw (step, sends) (All-append Free (sends_in (take i outs)) (sends_in (out ∷ []))
          c.loop-out.invariant.free (c.put_out.ensures.free c.if-not-put_out.false));
    }
