use Rattle.sng_grants.proofs.FoundLemmas.{grants_are_found}
use Rattle.sng_grants.proofs.laws.grants_are_found.Goals as goal

pub returns : goal.returns
returns c = grants_are_found
