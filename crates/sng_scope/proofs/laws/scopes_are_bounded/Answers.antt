use Rattle.sng_scope.proofs.BoundLemmas.{scopes_are_bounded}
use Rattle.sng_scope.proofs.laws.scopes_are_bounded.Goals as goal

pub returns : goal.returns
returns c = scopes_are_bounded
