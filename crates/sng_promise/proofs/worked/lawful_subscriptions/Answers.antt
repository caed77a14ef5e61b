use Rattle.sng_promise.proofs.Examples.WorkedSubscriptions.{ended}
use Rattle.sng_promise.proofs.worked.lawful_subscriptions.Goals as goal

pub returns : goal.returns
returns c = record { ended = ended }
