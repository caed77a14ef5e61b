use Rattle.sng_wills.proofs.StatedLemmas.{will-stated}
use Rattle.sng_wills.proofs.laws.wills_are_what_was_stated_last.Goals as goal

pub returns : goal.returns
returns c = will-stated
