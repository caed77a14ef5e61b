use Rattle.std.proofs.Common.{◌≡◌}
use Rattle.sng_questions.specs.Publishing.{matches_topic}
use Rattle.sng_questions.proofs.publishing.matches_some.Given as goal

abbrev pub invariant-loop-name : goal.invariant-loop-name
invariant-loop-name l = matches_topic l.name-iterator l.filter ≡ matches_topic l.topics l.filter
