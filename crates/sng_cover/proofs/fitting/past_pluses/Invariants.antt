use Rattle.std.proofs.Common.{◌≡◌, ◌≤◌, length, true}
use Rattle.sng_text.specs.Levels.{levels_left}
use Rattle.sng_text.specs.Texts.{is_in_place}
use Rattle.sng_cover.specs.Reaches.{fits_levels}
use Rattle.sng_cover.proofs.fitting.past_pluses.Given as goal

abbrev pub invariant-loop-left : goal.invariant-loop-left
invariant-loop-left l = record {
  same : fits_levels (levels_left l.own) (levels_left l.left)
      ≡ fits_levels (levels_left l.fn.own) (levels_left l.fn.left);
  in_place : is_in_place (levels_left l.fn.left) ≡ true → is_in_place (levels_left l.left) ≡ true;
  fewer : length (levels_left l.left) ≤ length (levels_left l.fn.left);
}

abbrev pub decreases-loop-left : goal.decreases-loop-left
decreases-loop-left l = length (levels_left l.left)
