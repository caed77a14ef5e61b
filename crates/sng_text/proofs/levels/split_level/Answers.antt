use Rattle.std.proofs.Common.{◌≡◌, ◌+◌, ◌-◌, ◌==◌, length, false, take, drop, get_or, sym, ◌∙◌, arith, rules}
use Rattle.std.proofs.Common.{tests}
use Rattle.std.proofs.lemmas.List.{take_all, length-drop}
use Rattle.sng_text.proofs.LevelLemmas.{prepend-more, prepend-slash, prepend-all}
use Rattle.sng_text.proofs.levels.split_level.Goals as goal

pub returns-then-byte-eq47 : goal.returns-then-byte-eq47
returns-then-byte-eq47 c =
    let text = c.args.text.now in
    let at = c.loop-at.at in
    let whole : take (length text - (at + 1)) (drop (at + 1) text) ≡ drop (at + 1) text =
    take_all _ _ (omega (arith, length-drop (at + 1) text)) in
    rw whole (sym c.loop-at.invariant ∙ prepend-slash text at c.loop-at-test.true c.if-byte-eq47.true)

pub loop-at-preserved : goal.loop-at-preserved
loop-at-preserved c =
    let no_slash : (get_or c.args.text.now c.loop-at.at 0 == 47) ≡ false = search (rules, tests) in
    prepend-more c.args.text.now c.loop-at.at c.loop-at-test.true no_slash ∙ c.loop-at.invariant

pub returns : goal.returns
returns c = sym c.loop-at.invariant ∙ prepend-all c.args.text.now c.loop-at.at (omega arith)
