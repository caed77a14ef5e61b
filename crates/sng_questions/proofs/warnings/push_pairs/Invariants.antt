use Rattle.std.proofs.Common.{◌≡◌, ◌++◌, drop}
use Rattle.sng_questions.specs.Warnings.{pairs_lines}
use Rattle.sng_questions.proofs.warnings.push_pairs.Given as goal

abbrev pub invariant-loop-index : goal.invariant-loop-index
invariant-loop-index l =
    l.lines.items ++ pairs_lines l.member l.pairs l.index (drop l.index l.pairs)
    ≡ l.fn.lines.items ++ pairs_lines l.member l.pairs 0 l.pairs
