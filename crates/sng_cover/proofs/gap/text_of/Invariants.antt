use Rattle.std.proofs.Common.{◌≡◌, ◌++◌}
use Rattle.sng_cover.specs.Candidates.{joined, further}
use Rattle.sng_cover.specs.Left.{levels_left}
use Rattle.sng_cover.proofs.gap.text_of.Given as goal

abbrev pub invariant-loop-level : goal.invariant-loop-level
invariant-loop-level l = record {
  can_next : (goal.iterator-loop-level).can_next l.level-iterator;
  is_finite : (goal.iterator-loop-level).is_finite l.level-iterator;
  left : l.text.items ++ further (levels_left l.level-iterator) ≡ joined (levels_left l.fn.levels);
}
