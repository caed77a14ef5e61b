use Rattle.sng_outbox.proofs.PlaceLemmas.{apart}
use Rattle.sng_outbox.proofs.laws.one_is_acknowledged.Goals as goal

pub returns : goal.returns
returns c = apart
