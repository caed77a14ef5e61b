use Rattle.sng_grants.proofs.FoundLemmas.{ids_are_least}
use Rattle.sng_grants.proofs.laws.ids_are_least.Goals as goal

pub returns : goal.returns
returns c = ids_are_least
