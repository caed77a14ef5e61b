use Rattle.sng_promise.proofs.Examples.WorkedClients.{not_both, not_unanswered, not_unnoted_leave}
use Rattle.sng_promise.proofs.worked.unlawful_clients.Goals as goal

pub returns : goal.returns
returns c = record { both_there = not_both; unanswered = not_unanswered; unnoted = not_unnoted_leave }
