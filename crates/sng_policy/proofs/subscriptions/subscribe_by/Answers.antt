use Rattle.std.proofs.Common.{List, Option, Some, sym, ap, ◌∙◌, subst}
use Rattle.std.specs.Option.{option_copied}
use Rattle.sng_grants.specs.declared.scope.Pair.{Pair}
use Rattle.sng_policy.specs.declared.grant.FilterGrant.TheVariants.{Allowed, Uncovered}
use Rattle.sng_policy.specs.Grants.{grant_of_cover}
use Rattle.sng_policy.specs.Laws.{JoinsScope, SaysOfFilter}
use Rattle.sng_policy.proofs.SubscriptionLemmas.{grant-says}
use Rattle.sng_policy.proofs.subscriptions.subscribe_by.Goals as goal

pub returns-in-Included-clause-meaning : goal.returns-in-Included-clause-meaning
returns-in-Included-clause-meaning c =
    subst (λ (scope : Option (List Pair)). SaysOfFilter scope c.args.filter.now Allowed)
    (ap Some c.pairs.ensures.value ∙ ap option_copied (sym c.in-Some.is))
    (grant-says c.pairs.result.now c.args.filter.now _ c.text-text.ensures.filter
    (rw c.pairs.ensures.value c.pairs.ensures.filters)
    (ap grant_of_cover (sym c.in-Included.is ∙ c.in_ok-cover_by-in-Some.ensures))).0

pub returns-in-Included-clause-joins : goal.returns-in-Included-clause-joins
returns-in-Included-clause-joins c =
    subst (λ (scope : Option (List Pair)). JoinsScope scope c.args.filter.now Allowed)
    (ap Some c.pairs.ensures.value ∙ ap option_copied (sym c.in-Some.is))
    (grant-says c.pairs.result.now c.args.filter.now _ c.text-text.ensures.filter
    (rw c.pairs.ensures.value c.pairs.ensures.filters)
    (ap grant_of_cover (sym c.in-Included.is ∙ c.in_ok-cover_by-in-Some.ensures))).1

pub returns-in-Uncovered-clause-meaning : goal.returns-in-Uncovered-clause-meaning
returns-in-Uncovered-clause-meaning c =
    subst (λ (scope : Option (List Pair)). SaysOfFilter scope c.args.filter.now (Uncovered c.in-Uncovered.gap))
    (ap Some c.pairs.ensures.value ∙ ap option_copied (sym c.in-Some.is))
    (grant-says c.pairs.result.now c.args.filter.now _ c.text-text.ensures.filter
    (rw c.pairs.ensures.value c.pairs.ensures.filters)
    (ap grant_of_cover (sym c.in-Uncovered.is ∙ c.in_ok-cover_by-in-Some.ensures))).0

pub returns-in-Uncovered-clause-joins : goal.returns-in-Uncovered-clause-joins
returns-in-Uncovered-clause-joins c =
    subst (λ (scope : Option (List Pair)). JoinsScope scope c.args.filter.now (Uncovered c.in-Uncovered.gap))
    (ap Some c.pairs.ensures.value ∙ ap option_copied (sym c.in-Some.is))
    (grant-says c.pairs.result.now c.args.filter.now _ c.text-text.ensures.filter
    (rw c.pairs.ensures.value c.pairs.ensures.filters)
    (ap grant_of_cover (sym c.in-Uncovered.is ∙ c.in_ok-cover_by-in-Some.ensures))).1
