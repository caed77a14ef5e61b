use Rattle.sng_promise.proofs.Examples.WorkedWills.{not_ungranted, not_kept, not_exactly_once}
use Rattle.sng_promise.proofs.worked.unlawful_wills.Goals as goal

pub returns : goal.returns
returns c = record { ungranted = not_ungranted; kept = not_kept; exactly_once = not_exactly_once }
