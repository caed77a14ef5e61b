use Rattle.std.proofs.Common.{◌≡◌, ◌<◌, ◌+◌, ◌∷◌, ◌++◌, [], take, length, suc, ap, sym, ◌∙◌, arith}
use Rattle.std.proofs.Math.Seq.{take-suc}
use Rattle.sng_core.specs.Connecting.{alone_in, held_beside}
use Rattle.sng_core.proofs.Releasing.{alone_more}
use Rattle.sng_core.proofs.entry.alone_at.Goals as goal

pub loop-held-preserved : goal.loop-held-preserved
loop-held-preserved c =
    let others = held_beside c.args.sessions.now c.args.place in
    let held = c.filters-filters.result.now in
    let i = c.loop-held.held-index in
    let h = c.held-item.result in
    let within : i < length held = omega (arith, c.loop-held-test.true) in
    let one : i + 1 ≡ suc i = omega arith in
    let longer : take i held ++ h ∷ [] ≡ take (i + 1) held =
    ap (λ g. take i held ++ g ∷ []) c.held-item.is
    ∙ (sym (take-suc held i h within) ∙ ap (λ n. take n held) (sym one)) in
    c.in_ok-add_alone.ensures
    ∙ (ap (λ texts. texts ++ alone_in others (h ∷ [])) c.loop-held.invariant
    ∙ (sym (alone_more others (take i held) h) ∙ ap (alone_in others) longer))
