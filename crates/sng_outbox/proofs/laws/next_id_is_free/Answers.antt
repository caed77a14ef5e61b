use Rattle.sng_outbox.proofs.IdLemmas.{next_free}
use Rattle.sng_outbox.proofs.laws.next_id_is_free.Goals as goal

pub returns : goal.returns
returns c = next_free
