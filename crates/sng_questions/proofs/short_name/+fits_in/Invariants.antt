use Rattle.std.proofs.Common.{length}
use Rattle.sng_text.specs.Levels.{levels_of}
use Rattle.sng_questions.proofs.short_name.+fits_in.Given as goal

abbrev pub decreases-fits_in : goal.decreases-fits_in
decreases-fits_in l = length (levels_of l.text.now)
