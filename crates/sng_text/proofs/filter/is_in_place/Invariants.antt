use Rattle.std.proofs.Common.{◌≡◌}
use Rattle.sng_text.specs.Levels.{levels_of}
use Rattle.sng_text.specs.LevelsLeft.{levels_of_rest}
use Rattle.sng_text.specs.Texts.{is_in_place}
use Rattle.sng_text.proofs.PlaceLemmas.{goes_on}
use Rattle.sng_text.proofs.filter.is_in_place.Given as goal

abbrev pub invariant-loop-level : goal.invariant-loop-level
invariant-loop-level l = record {
  can_next : (goal.iterator-loop-level).can_next l.level-iterator;
  is_finite : (goal.iterator-loop-level).is_finite l.level-iterator;
  left : goes_on l.is_over (levels_of_rest l.level-iterator) ≡ is_in_place (levels_of l.fn.text);
}
