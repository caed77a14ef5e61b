use Rattle.std.proofs.Common.{◌≡◌, take, drop}
use Rattle.sng_text.specs.Levels.{levels_of}
use Rattle.sng_text.proofs.LevelLemmas.{prepend}
use Rattle.sng_text.proofs.levels.split_level.Given as goal

abbrev pub invariant-loop-at : goal.invariant-loop-at
invariant-loop-at l = prepend (take l.at l.text) (levels_of (drop l.at l.text)) ≡ levels_of l.text
