use Rattle.sng_policy.proofs.SubscriptionLemmas.{subscribing_is_receiving}
use Rattle.sng_policy.proofs.laws.subscribing_is_receiving.Goals as goal

pub returns : goal.returns
returns c = subscribing_is_receiving
