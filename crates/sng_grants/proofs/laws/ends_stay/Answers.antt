use Rattle.sng_grants.proofs.EndLemmas.{ends_stay}
use Rattle.sng_grants.proofs.laws.ends_stay.Goals as goal

pub returns : goal.returns
returns c = ends_stay
