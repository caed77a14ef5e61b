use Rattle.sng_policy.proofs.NameLemmas.{names_are_exact}
use Rattle.sng_policy.proofs.laws.names_are_exact.Goals as goal

pub returns : goal.returns
returns c = names_are_exact
