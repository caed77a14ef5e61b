use Rattle.std.proofs.Common.{◌≡◌, ◌++◌}
use Rattle.sng_questions.specs.Warnings.{sources_lines}
use Rattle.sng_questions.proofs.warnings.push_sources.Given as goal

abbrev pub invariant-loop-source : goal.invariant-loop-source
invariant-loop-source l =
    l.lines.items ++ sources_lines l.topics l.source-iterator
    ≡ l.fn.lines.items ++ sources_lines l.topics l.sources
