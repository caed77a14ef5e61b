use Rattle.sng_outbox.proofs.MarkLemmas.{undone}
use Rattle.sng_outbox.proofs.laws.undone_is_unused.Goals as goal

pub returns : goal.returns
returns c = undone
