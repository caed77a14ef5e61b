use Rattle.std.proofs.Common.{List, ◌≡◌, ◌+◌, ◌++◌, ◌∷◌, [], take, drop, ap, sym, ◌∙◌}
use Rattle.std.specs.Prelude.{true, false}
use Rattle.std.proofs.lemmas.List.{take_more, take-append-drop, append-nil}
use Rattle.sng_crew.specs.Wires.{wires_of, wires_in}
use Rattle.sng_crew.proofs.Writing.{writes_on, writes_less}
use Rattle.std.proofs.lemmas.Grind.{flat_map-append}
use Rattle.sng_desk.specs.Sights.{Receipt}
use Rattle.sng_crew.proofs.passing.write_all.Goals as goal

wires_push : (receipts : List Receipt) (r : Receipt) → wires_of (receipts ++ r ∷ []) ≡ wires_of receipts
    ++ wires_in r.outs
wires_push receipts r = flat_map-append (λ (r : Receipt). wires_in r.outs) receipts (r ∷ [])
    ∙ ap (λ w. wires_of receipts ++ w) (append-nil (wires_in r.outs))

pub loop-receipt-preserved : goal.loop-receipt-preserved
loop-receipt-preserved g c =
    let u = g.U.Upstream in
    let i = c.loop-receipt.receipt-index in
    let outs = c.args.receipts.now in
    let out = c.receipt-item.result in
    let step : take (i + 1) outs ≡ take i outs ++ out ∷ [] = take_more outs i out c.loop-receipt-test.true
    ∙ ap (λ x. take i outs ++ x ∷ []) (sym c.receipt-item.is) in
    let grown : wires_of (take (i + 1) outs) ≡ wires_of (take i outs)
    ++ wires_in out.outs = ap (λ x. wires_of x) step ∙ wires_push (take i outs) out in
    rw grown (writes_on u.tells u.did c.args.up.now c.loop-receipt.up c.write_outs.new.up
    (wires_of (take i outs)) (wires_in out.outs) true c.loop-receipt.invariant
    (rw c.outs.ensures at c.if-not-write_outs.ensures))

pub returns-then-not-write_outs : goal.returns-then-not-write_outs
returns-then-not-write_outs g c =
    let u = g.U.Upstream in
    let i = c.loop-receipt.receipt-index in
    let outs = c.args.receipts.now in
    let out = c.receipt-item.result in
    let step : take (i + 1) outs ≡ take i outs ++ out ∷ [] = take_more outs i out c.loop-receipt-test.true
    ∙ ap (λ x. take i outs ++ x ∷ []) (sym c.receipt-item.is) in
    let all : wires_of outs ≡ (wires_of (take i outs) ++ wires_in out.outs) ++ wires_of (drop (i + 1) outs) =
    ap (λ x. wires_of x) (sym (take-append-drop (i + 1) outs))
    ∙ flat_map-append (λ (r : Receipt). wires_in r.outs) (take (i + 1) outs) (drop (i + 1) outs)
    ∙ ap (λ x. wires_of x ++ wires_of (drop (i + 1) outs)) step
    ∙ ap (λ x. x ++ wires_of (drop (i + 1) outs)) (wires_push (take i outs) out) in
    writes_less u.tells u.did c.args.up.now c.write_outs.new.up (wires_of (take i outs)
    ++ wires_in out.outs) (wires_of (drop (i + 1) outs)) (wires_of outs) all
    (writes_on u.tells u.did c.args.up.now c.loop-receipt.up c.write_outs.new.up (wires_of (take i outs))
    (wires_in out.outs) false c.loop-receipt.invariant (rw c.outs.ensures at c.if-not-write_outs.ensures))
