use Rattle.sng_promise.proofs.InForce.PromiseRefuses.{topics_told}
use Rattle.sng_promise.proofs.promise.topics_are_told_by_type.Goals as goal

pub returns : goal.returns
returns c = topics_told
