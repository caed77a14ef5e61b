use Rattle.std.proofs.Common.{ℕ, ◌≡◌, ◌||◌}
use Rattle.sng_text.specs.declared.limits.TheConstants.{MAX_FILTER}
use Rattle.sng_text.specs.Levels.{levels_of}
use Rattle.sng_text.specs.LevelsLeft.{levels_of_rest}
use Rattle.sng_cover.specs.Candidates.{has_level, run}
use Rattle.sng_cover.specs.Marks.{is_marked}
use Rattle.sng_cover.proofs.Short.{AreShort}
use Rattle.sng_cover.proofs.runs.mark_runs.Given as goal

abbrev pub invariant-loop-level : goal.invariant-loop-level
invariant-loop-level l = record {
  can_next : (goal.iterator-loop-level).can_next l.level-iterator;
  is_finite : (goal.iterator-loop-level).is_finite l.level-iterator;
  short : AreShort MAX_FILTER (levels_of_rest l.level-iterator);
  marked : (count : ℕ) → (has_level (run count) (levels_of_rest l.level-iterator) || is_marked l.runs count)
      ≡ (has_level (run count) (levels_of l.fn.filter) || is_marked l.initial.runs count);
}
