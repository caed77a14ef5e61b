use Rattle.std.proofs.Common.{◌≡◌, ◌≤◌, length, Err, ap, sym, subst, ◌∙◌, rules, arith}
use Rattle.sng_gateway.proofs.PlayLemmas.{GoesOn-line, Halts, Halts-end, Halts-play, Halts-read}
use Rattle.sng_script.specs.declared.limits.TheConstants.{MAX_LINE}
use Rattle.sng_script.specs.Input.{IsFirstLine}
use Rattle.sng_gateway.proofs.play.play_on.Goals as goal

pub returns-in_err-read_line : goal.returns-in_err-read_line
returns-in_err-read_line g c =
    let stop = c.in_err-read_line.field-0.0 in
    let is : c.from_residual.result ≡ Err stop = search rules in
    subst (λ r. Halts (g.R.Read.remaining c.args.reader.now) r c.loop-number.number
    (g.W.Write.contents c.args.output.now) (g.W.Write.contents c.loop-number.output)) (sym is)
    (Halts-read _ _ _ _ _ _ stop c.loop-number.invariant
    (λ bad. c.read_line.ensures.long (c.in_err-read_line.was ∙ ap Err bad)))

pub returns-then-not-branch : goal.returns-then-not-branch
returns-then-not-branch g c =
    Halts-end _ _ _ _ _ _ c.loop-number.invariant (rw c.if-not-branch.true at c.in_ok-read_line.ensures.ok)

pub returns-in_err-play : goal.returns-in_err-play
returns-in_err-play g c =
    let stop = c.in_err-play.field-0.0 in
    let is : c.from_residual-in_err-play.result ≡ Err stop = search rules in
    let first = rw c.if-not-branch.false at c.in_ok-read_line.ensures.ok in
    subst (λ r. Halts (g.R.Read.remaining c.args.reader.now) r c.loop-number.number
    (g.W.Write.contents c.args.output.now) (g.W.Write.contents c.play.new.output)) (sym is)
    (Halts-play _ _ _ _ _ _ c.as_slice.result.now _ _ stop c.loop-number.invariant
    (subst (IsFirstLine _ _) (sym c.as_slice.ensures.value) first)
    (λ bad. (c.play.ensures.unreadable (c.in_err-play.was ∙ ap Err bad)).0)
    (λ other. c.in_err-play.ensures.nothing_written (λ same. other (cc same))))

pub loop-number-preserved : goal.loop-number-preserved
loop-number-preserved g c =
    let first = rw c.if-not-branch.false at c.in_ok-read_line.ensures.ok in
    let played = c.in_ok-play.ensures.ok in
    let few : length c.as_slice.result.now ≤ MAX_LINE =
    omega (arith, c.as_slice.ensures.len, c.in_ok-read_line.ensures.within) in
    GoesOn-line _ _ _ _ _ _ c.as_slice.result.now _ _ _ c.loop-number.invariant
    (subst (IsFirstLine _ _) (sym c.as_slice.ensures.value) first) few played
