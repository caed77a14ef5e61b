use Rattle.std.proofs.Common.{length}
use Rattle.sng_text.specs.Levels.{levels_of}
use Rattle.sng_cover.proofs.fitting.+fits_levels.Given as goal

abbrev pub decreases-fits_levels : goal.decreases-fits_levels
decreases-fits_levels l = length (levels_of l.granted.now)
