use Rattle.sng_scope.proofs.PolicyBackLemmas.{policies_are_read_back}
use Rattle.sng_scope.proofs.laws.policies_are_read_back.Goals as goal

pub returns : goal.returns
returns c = policies_are_read_back
