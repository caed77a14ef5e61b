use Rattle.sng_outbox.proofs.MarkLemmas.{follow}
use Rattle.sng_outbox.proofs.laws.marks_follow_use.Goals as goal

pub returns : goal.returns
returns c = follow
