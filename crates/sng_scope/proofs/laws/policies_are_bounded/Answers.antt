use Rattle.sng_scope.proofs.BoundLemmas.{policies_are_bounded}
use Rattle.sng_scope.proofs.laws.policies_are_bounded.Goals as goal

pub returns : goal.returns
returns c = policies_are_bounded
