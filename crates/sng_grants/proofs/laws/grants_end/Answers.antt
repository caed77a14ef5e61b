use Rattle.sng_grants.proofs.EndLemmas.{grants_end}
use Rattle.sng_grants.proofs.laws.grants_end.Goals as goal

pub returns : goal.returns
returns c = grants_end
