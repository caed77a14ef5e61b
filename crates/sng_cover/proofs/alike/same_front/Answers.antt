use Rattle.std.proofs.Common.{◌≡◌, ◌+◌, ◌*◌, ℕ, List, take, drop, refl, arith}
use Rattle.std.proofs.Math.Seq.{take-add}
use Rattle.sng_text.proofs.CommonLemmas.{rest_of}
use Rattle.sng_cover.proofs.alike.same_front.Goals as goal

pub loop-step-preserved : goal.loop-step-preserved
loop-step-preserved c =
    let text : List ℕ = c.args.text.now in
    let other : List ℕ = c.args.other.now in
    let at : ℕ = 8 * c.loop-step.step in
    let more : take 8 (drop at text) ≡ take 8 (drop at other) =
    rw (rest_of text at, rest_of other at) at (c.is_same_step.ensures c.if-not-is_same_step.false) in
    let count : 8 * (c.loop-step.step + 1) ≡ at + 8 = omega arith in
    rw (count, take-add at 8 text, take-add at 8 other, c.loop-step.invariant, more) refl
