use Rattle.std.proofs.Common.{◌≡◌, ◌+◌, ◌++◌, ◌∷◌, [], take, drop, ap, sym, ◌∙◌}
use Rattle.std.specs.Prelude.{true, false}
use Rattle.std.proofs.lemmas.List.{take_more, take-append-drop}
use Rattle.sng_crew.specs.Wires.{wires_in}
use Rattle.sng_crew.proofs.Writing.{writes_on, writes_less}
use Rattle.sng_crew.proofs.Writing.{wires_on}
use Rattle.sng_crew.proofs.passing.write_outs.Goals as goal

pub loop-out-preserved : goal.loop-out-preserved
loop-out-preserved g c =
    let u = g.U.Upstream in
    let i = c.loop-out.out-index in
    let outs = c.args.outs.now in
    let out = c.out-item.result in
    let step : take (i + 1) outs ≡ take i outs ++ out ∷ [] = take_more outs i out c.loop-out-test.true
    ∙ ap (λ x. take i outs ++ x ∷ []) (sym c.out-item.is) in
    rw (step, wires_on (take i outs) (out ∷ [])) (writes_on u.tells u.did c.args.up.now c.loop-out.up
    c.write_out.new.up (wires_in (take i outs)) (wires_in (out
    ∷ [])) true c.loop-out.invariant (c.if-not-write_out.ensures))

pub returns-then-not-write_out : goal.returns-then-not-write_out
returns-then-not-write_out g c =
    let u = g.U.Upstream in
    let i = c.loop-out.out-index in
    let outs = c.args.outs.now in
    let out = c.out-item.result in
    let step : take (i + 1) outs ≡ take i outs ++ out ∷ [] = take_more outs i out c.loop-out-test.true
    ∙ ap (λ x. take i outs ++ x ∷ []) (sym c.out-item.is) in
    let all : wires_in outs ≡ (wires_in (take i outs) ++ wires_in (out ∷ []))
    ++ wires_in (drop (i + 1) outs) =
    ap (λ x. wires_in x) (sym (take-append-drop (i + 1) outs))
    ∙ wires_on (take (i + 1) outs) (drop (i + 1) outs) ∙ ap (λ x. wires_in x
    ++ wires_in (drop (i + 1) outs)) step ∙ ap (λ x. x ++ wires_in (drop (i + 1) outs))
    (wires_on (take i outs) (out ∷ [])) in
    writes_less u.tells u.did c.args.up.now c.write_out.new.up (wires_in (take i outs)
    ++ wires_in (out ∷ [])) (wires_in (drop (i + 1) outs)) (wires_in outs) all
    (writes_on u.tells u.did c.args.up.now c.loop-out.up c.write_out.new.up (wires_in (take i outs))
    (wires_in (out ∷ [])) false c.loop-out.invariant (c.if-not-write_out.ensures))
