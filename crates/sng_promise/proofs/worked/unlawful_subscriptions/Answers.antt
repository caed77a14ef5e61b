use Rattle.sng_promise.proofs.Examples.WorkedSubscriptions.{not_kept}
use Rattle.sng_promise.proofs.worked.unlawful_subscriptions.Goals as goal

pub returns : goal.returns
returns c = record { kept = not_kept }
