use Rattle.sng_fan.proofs.GreatestLemmas.{greatest}
use Rattle.sng_fan.proofs.laws.greatest_is_greatest.Goals as goal

pub returns : goal.returns
returns c = greatest
