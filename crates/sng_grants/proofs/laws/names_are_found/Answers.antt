use Rattle.sng_grants.proofs.FoundLemmas.{names_are_found}
use Rattle.sng_grants.proofs.laws.names_are_found.Goals as goal

pub returns : goal.returns
returns c = names_are_found
