use Rattle.std.proofs.Common.{◌≡◌, ◌+◌, take, drop}
use Rattle.sng_questions.specs.Covers.{first_bad}
use Rattle.sng_questions.proofs.covering.answer_to.Given as goal

abbrev pub invariant-loop-place : goal.invariant-loop-place
invariant-loop-place l = record {
  read : l.filters.items ≡ take l.place l.words;
  fits : first_bad (l.place + 1) (drop l.place l.words) ≡ first_bad 1 l.words;
}
