use Rattle.sng_policy.proofs.SubscriptionLemmas.{subscriptions_are_exact}
use Rattle.sng_policy.proofs.laws.subscriptions_are_exact.Goals as goal

pub returns : goal.returns
returns c = subscriptions_are_exact
