use Rattle.std.proofs.Common.{sym, subst}
use Rattle.sng_grants.specs.Sources.{left_at}
use Rattle.sng_policy.proofs.SubscriptionLemmas.{scope-has_filters}
use Rattle.sng_promise.proofs.Standing.FiltersHeld.{AllHave, all_left, found_has}
use Rattle.sng_promise.proofs.policies.policies_have_filters.Goals as goal

pub loop-grant-preserved : goal.loop-grant-preserved
loop-grant-preserved c = λ rest.
    c.loop-grant.invariant (subst AllHave (sym c.in-Some.ensures.steps)
    (scope-has_filters c.in-Some.grant.now.scope c.pairs.ensures.filters, rest))

pub returns : goal.returns
returns c = λ clock id.
    found_has (left_at clock c.args.policy.now.clients) id
    (all_left clock c.args.policy.now.clients
    (c.loop-grant.invariant (subst AllHave (sym c.in-None.ensures.steps.0) tt)))
