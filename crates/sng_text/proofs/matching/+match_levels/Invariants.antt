use Rattle.std.proofs.Common.{length}
use Rattle.sng_text.specs.Levels.{levels_of}
use Rattle.sng_text.proofs.matching.+match_levels.Given as goal

abbrev pub decreases-match_levels : goal.decreases-match_levels
decreases-match_levels l = length (levels_of l.filter.now)
