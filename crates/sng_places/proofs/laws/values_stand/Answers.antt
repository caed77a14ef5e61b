use Rattle.sng_places.proofs.StandingLemmas.{values_stand}
use Rattle.sng_places.proofs.laws.values_stand.Goals as goal

pub returns : goal.returns
returns c = values_stand
