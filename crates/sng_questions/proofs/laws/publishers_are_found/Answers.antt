use Rattle.sng_questions.proofs.PublishingLemmas.{publishers_are_found}
use Rattle.sng_questions.proofs.laws.publishers_are_found.Goals as goal

pub returns : goal.returns
returns c = publishers_are_found
