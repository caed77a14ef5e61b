use Rattle.std.proofs.Common.{◌≡◌, drop}
use Rattle.sng_questions.specs.Publishing.{may_publish}
use Rattle.sng_questions.proofs.publishing.may_publish.Given as goal

abbrev pub invariant-loop-pair : goal.invariant-loop-pair
invariant-loop-pair l = may_publish l.topics (drop l.pair-index l.pairs) ≡ may_publish l.topics l.pairs
