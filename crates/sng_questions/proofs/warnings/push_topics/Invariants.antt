use Rattle.std.proofs.Common.{◌≡◌, ◌++◌}
use Rattle.sng_questions.specs.Warnings.{topics_lines}
use Rattle.sng_questions.proofs.warnings.push_topics.Given as goal

abbrev pub invariant-loop-id : goal.invariant-loop-id
invariant-loop-id l =
    l.lines.items ++ topics_lines l.topics l.id-iterator ≡ l.fn.lines.items ++ topics_lines l.topics l.topics
