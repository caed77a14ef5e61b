use Rattle.std.proofs.Common.{◌≡◌, drop}
use Rattle.sng_questions.specs.Redundant.{says_nothing_new}
use Rattle.sng_questions.proofs.redundant.says_nothing_new.Given as goal

abbrev pub invariant-loop-place : goal.invariant-loop-place
invariant-loop-place l =
    says_nothing_new (drop l.place l.pairs) l.place l.index l.pair ≡ says_nothing_new l.pairs 0 l.index l.pair
