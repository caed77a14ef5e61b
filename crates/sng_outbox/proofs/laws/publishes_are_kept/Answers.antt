use Rattle.sng_outbox.proofs.ItemLemmas.{kept}
use Rattle.sng_outbox.proofs.laws.publishes_are_kept.Goals as goal

pub returns : goal.returns
returns c = kept
