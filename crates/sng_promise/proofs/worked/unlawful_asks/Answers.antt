use Rattle.sng_promise.proofs.Examples.WorkedAsks.{not_reused, not_unjudged, not_refused}
use Rattle.sng_promise.proofs.worked.unlawful_asks.Goals as goal

pub returns : goal.returns
returns c = record { reused = not_reused; unjudged = not_unjudged; denied = not_refused }
