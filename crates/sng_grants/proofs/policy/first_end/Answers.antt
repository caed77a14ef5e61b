use Rattle.std.proofs.Common.{ap, sym, ◌∙◌}
use Rattle.sng_grants.specs.Sources.{first_end, sooner}
use Rattle.sng_grants.proofs.EndLemmas.{sooner-assoc, sooner-last}
use Rattle.sng_grants.proofs.policy.first_end.Goals as goal

pub loop-grant-init : goal.loop-grant-init
loop-grant-init g c = ap first_end c.into_iter-grant-iterator.ensures.into_iter_gives

pub loop-grant-preserved : goal.loop-grant-preserved
loop-grant-preserved g c =
    let first = c.loop-grant.first in
    let rest = first_end c.next.new.self in
    ap (λ o. sooner o rest) c.sooner-first.ensures
    ∙ sooner-assoc first c.in-Some.grant.now.until rest
    ∙ ap (λ es. sooner first (first_end es)) (sym c.in-Some.ensures.steps)
    ∙ c.loop-grant.invariant

pub returns : goal.returns
returns g c =
    let first = c.loop-grant.first in
    sym (sooner-last first)
    ∙ ap (λ es. sooner first (first_end es)) (sym c.in-None.ensures.steps.0)
    ∙ c.loop-grant.invariant
