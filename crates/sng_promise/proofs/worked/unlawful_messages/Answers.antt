use Rattle.sng_promise.proofs.Examples.WorkedMessages.{not_unjudged, not_twice}
use Rattle.sng_promise.proofs.worked.unlawful_messages.Goals as goal

pub returns : goal.returns
returns c = record { unjudged = not_unjudged; twice = not_twice }
