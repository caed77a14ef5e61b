use Rattle.sng_grants.proofs.EndLemmas.{nothing_ends_before}
use Rattle.sng_grants.proofs.laws.nothing_ends_before.Goals as goal

pub returns : goal.returns
returns c = nothing_ends_before
