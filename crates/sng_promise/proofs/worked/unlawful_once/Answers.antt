use Rattle.sng_promise.proofs.Examples.WorkedOnce.{not_judged, not_unanswered, not_uncompleted}
use Rattle.sng_promise.proofs.worked.unlawful_once.Goals as goal

pub returns : goal.returns
returns c = record { judged = not_judged; unanswered = not_unanswered; uncompleted = not_uncompleted }
