use Rattle.sng_scope.proofs.VersionLemmas.{versions_are_least}
use Rattle.sng_scope.proofs.laws.versions_are_least.Goals as goal

pub returns : goal.returns
returns c = versions_are_least
