use Rattle.std.proofs.Common.{◌≡◌}
use Rattle.sng_text.specs.Levels.{levels_of}
use Rattle.sng_text.specs.LevelsLeft.{levels_of_rest}
use Rattle.sng_questions.specs.Places.{first_misplaced}
use Rattle.sng_questions.proofs.flaws.first_misplaced.Given as goal

abbrev pub invariant-loop-level : goal.invariant-loop-level
invariant-loop-level l = record {
  can_next : (goal.iterator-loop-level).can_next l.level-iterator;
  is_finite : (goal.iterator-loop-level).is_finite l.level-iterator;
  left : first_misplaced (levels_of_rest l.level-iterator) ≡ first_misplaced (levels_of l.fn.text);
}
