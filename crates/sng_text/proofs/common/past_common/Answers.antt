use Rattle.std.proofs.Common.{◌≡◌, ℕ, ◌+◌, ◌<◌, ◌==◌, length, true, false, List, get_or, arith, rules, tests}
use Rattle.sng_text.proofs.CommonLemmas.{alike-init, alike-more, alike-slash, rest_of, left-apart, left-both}
use Rattle.sng_text.proofs.CommonLemmas.{left-text, left-other, left-longer, left-shorter}
use Rattle.sng_text.proofs.common.past_common.Goals as goal
use Rattle.sng_text.proofs.common.past_common.Goals.{then-text-at-eq47, else-text-at-eq47}

pub loop-at-init : goal.loop-at-init
loop-at-init c = alike-init c.args.text.now c.args.other.now

pub loop-at-preserved : goal.loop-at-preserved
loop-at-preserved c =
    let text : List ℕ = c.args.text.now in
    let other : List ℕ = c.args.other.now in
    let below : c.loop-at.at < length text = omega arith in
    let beneath : c.loop-at.at < length other = omega arith in
    elim c.if-text-at-eq47.branch [
      | then-text-at-eq47 w ↦
          let slash : (get_or text c.loop-at.at 0 == 47) ≡ true = search (rules, tests) in
          rw w.start-is (alike-slash text other c.loop-at.start c.loop-at.at below beneath c.if-text-at.false
          slash c.loop-at.invariant)
      | else-text-at-eq47 w ↦
          let no_slash : (get_or text c.loop-at.at 0 == 47) ≡ false = search (rules, tests) in
          rw w.start-is (alike-more text other c.loop-at.start c.loop-at.at below beneath c.if-text-at.false
          no_slash c.loop-at.invariant)
    ]

pub returns-then-text-at : goal.returns-then-text-at
returns-then-text-at c =
    let text : List ℕ = c.args.text.now in
    let other : List ℕ = c.args.other.now in
    rw (rest_of text c.loop-at.start, rest_of other c.loop-at.start)
    (left-apart text other c.loop-at.start c.loop-at.at (omega arith)
    (omega arith) c.if-text-at.true c.loop-at.invariant)

pub returns-then-text-other : goal.returns-then-text-other
returns-then-text-other c =
    left-both c.args.text.now c.args.other.now c.loop-at.start c.loop-at.at (omega arith)
    (omega arith) c.loop-at.invariant

pub returns-then-text-shorter-eq47 : goal.returns-then-text-shorter-eq47
returns-then-text-shorter-eq47 c =
    let text : List ℕ = c.args.text.now in
    let other : List ℕ = c.args.other.now in
    let place : c.shorter-shorter.result ≡ c.loop-at.at = omega arith in
    let slash : (get_or text c.loop-at.at 0 == 47) ≡ true = search (rules, tests) in
    rw (rest_of text (c.shorter-shorter.result + 1), place)
    (left-text text other c.loop-at.start c.loop-at.at (omega arith) (omega arith) slash c.loop-at.invariant)

pub returns-else-text-shorter-eq47 : goal.returns-else-text-shorter-eq47
returns-else-text-shorter-eq47 c =
    let text : List ℕ = c.args.text.now in
    let other : List ℕ = c.args.other.now in
    let place : c.shorter-shorter.result ≡ c.loop-at.at = omega arith in
    let no_slash : (get_or text c.loop-at.at 0 == 47) ≡ false = search (rules, tests) in
    rw (rest_of text c.loop-at.start, rest_of other c.loop-at.start)
    (left-longer text other c.loop-at.start c.loop-at.at (omega arith)
    (omega arith) no_slash c.loop-at.invariant)

pub returns-then-other-shorter-eq47 : goal.returns-then-other-shorter-eq47
returns-then-other-shorter-eq47 c =
    let text : List ℕ = c.args.text.now in
    let other : List ℕ = c.args.other.now in
    let place : c.shorter-shorter.result ≡ c.loop-at.at = omega arith in
    let slash : (get_or other c.loop-at.at 0 == 47) ≡ true = search (rules, tests) in
    rw (rest_of other (c.shorter-shorter.result + 1), place)
    (left-other text other c.loop-at.start c.loop-at.at (omega arith) (omega arith) slash c.loop-at.invariant)

pub returns-else-other-shorter-eq47 : goal.returns-else-other-shorter-eq47
returns-else-other-shorter-eq47 c =
    let text : List ℕ = c.args.text.now in
    let other : List ℕ = c.args.other.now in
    let place : c.shorter-shorter.result ≡ c.loop-at.at = omega arith in
    let no_slash : (get_or other c.loop-at.at 0 == 47) ≡ false = search (rules, tests) in
    rw (rest_of text c.loop-at.start, rest_of other c.loop-at.start)
    (left-shorter text other c.loop-at.start c.loop-at.at (omega arith)
    (omega arith) no_slash c.loop-at.invariant)
