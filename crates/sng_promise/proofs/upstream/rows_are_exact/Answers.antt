use Rattle.sng_promise.proofs.Link.LawOutgoing.{takes, ups}
use Rattle.sng_promise.proofs.upstream.rows_are_exact.Goals as goal

pub returns : goal.returns
returns c = record { takes = takes; begins = ups }
