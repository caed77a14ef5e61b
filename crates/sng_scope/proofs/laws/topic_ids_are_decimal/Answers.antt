use Rattle.sng_scope.proofs.LawLemmas.{topic_ids_are_decimal}
use Rattle.sng_scope.proofs.laws.topic_ids_are_decimal.Goals as goal

pub returns : goal.returns
returns c = topic_ids_are_decimal
