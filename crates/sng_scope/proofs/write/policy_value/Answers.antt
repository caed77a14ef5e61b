use Rattle.std.proofs.Common.{Result, Ok, Err, IfOk}
use Rattle.sng_scope.specs.Bounds.{IsPolicy}
use Rattle.sng_scope.proofs.BoundLemmas.{policy-within}
use Rattle.sng_scope.proofs.write.policy_value.Goals as goal

-- what holds at all
if_ok : {A E : Type 0} (r : Result A E) (P : Type 0) → P → IfOk r (λ value. P)
if_ok (Ok value) P is = is
if_ok (Err fault) P is = tt

pub returns-then-are_default-clause-within : goal.returns-then-are_default-clause-within
returns-then-are_default-clause-within c =
    if_ok c.plain_value.result (IsPolicy c.args.policy.now)
    (policy-within _ c.args.policy.now c.limits-limits.result c.policy.view_is c.limits-limits.ensures.value
    c.are_default.ensures.within c.limits-limits.ensures.within c.in_ok-clients.ensures.within
    c.in_ok-sources.ensures.within c.in_ok-topics.ensures.within)

pub returns-else-are_default-clause-within : goal.returns-else-are_default-clause-within
returns-else-are_default-clause-within c =
    if_ok c.limited_value.result (IsPolicy c.args.policy.now)
    (policy-within _ c.args.policy.now c.limits-limits.result c.policy.view_is c.limits-limits.ensures.value
    c.are_default.ensures.within c.limits-limits.ensures.within c.in_ok-clients.ensures.within
    c.in_ok-sources.ensures.within c.in_ok-topics.ensures.within)
