use Rattle.sng_metrics.proofs.DecisionLemmas.{is_told}
use Rattle.sng_metrics.proofs.laws.every_decision_is_told.Goals as goal

pub returns : goal.returns
returns c = is_told
