use Rattle.sng_wanted.proofs.OrderLemmas.{first_standing}
use Rattle.sng_wanted.proofs.laws.first_standing_decides.Goals as goal

pub returns : goal.returns
returns c = first_standing
