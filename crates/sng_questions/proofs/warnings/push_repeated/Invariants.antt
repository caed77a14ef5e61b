use Rattle.std.proofs.Common.{◌≡◌, ◌++◌, drop}
use Rattle.sng_questions.specs.Warnings.{repeated_lines}
use Rattle.sng_questions.proofs.warnings.push_repeated.Given as goal

abbrev pub invariant-loop-place : goal.invariant-loop-place
invariant-loop-place l =
    l.lines.items ++ repeated_lines (drop l.place-index l.places)
    ≡ l.fn.lines.items ++ repeated_lines l.places
