-- The answers of a policy on subscriptions against what they say.
use Rattle.std.proofs.Common.{◌≡◌, ◌↔◌, ℕ, Bool, true, false, ◌&&◌, ◌||◌, List, [], ◌∷◌, not, Some, None}
use Rattle.std.proofs.Common.{refl, sym, ap, subst, ◌∙◌, inl, inr, if◌then◌else◌}
use Rattle.std.specs.declared.option.Option.{Option}
use Rattle.std.proofs.lemmas.Bool.{and_parts, or_right}
use Rattle.std.proofs.lemmas.List.Elements.{All-from_recursion, recursion_from_All}
use Rattle.std.proofs.lemmas.Slice.Eq.{bytes_eq-Decides}
use Rattle.std.specs.Str.{bytes_eq}
use Rattle.std.specs.List.{All, AllByRecursion as AllOf}
use Rattle.sng_text.specs.Texts.{is_filter, is_name}
use Rattle.sng_text.specs.Matching.{matches}
use Rattle.sng_cover.specs.Inclusion.{Included}
use Rattle.sng_cover.specs.Inclusion as inclusion
use Rattle.sng_cover.specs.Covering.{cover_of}
use Rattle.sng_cover.specs.Gaps.{IsGap, IsRight}
use Rattle.sng_cover.proofs.Answered.{right}
use Rattle.sng_cover.specs.declared.answer.Cover.{Cover}
use Rattle.sng_cover.specs.declared.answer.Cover.TheVariants as cover
use Rattle.sng_grants.specs.Scopes.{subscribed}
use Rattle.sng_grants.specs.Sources.{scope_of}
use Rattle.sng_grants.specs.declared.scope.Pair.{Pair}
use Rattle.sng_policy.specs.declared.permission.Permission.TheVariants.{Subscribe}
use Rattle.sng_policy.specs.declared.grant.NameGrant.{NameGrant}
use Rattle.sng_policy.specs.declared.grant.NameGrant.TheVariants as on_name
use Rattle.sng_policy.specs.declared.grant.FilterGrant.{FilterGrant}
use Rattle.sng_policy.specs.declared.grant.FilterGrant.TheVariants.{Allowed, Uncovered}
use Rattle.sng_policy.specs.Grants.{is_granted, has_filter, grant_by, grant_of_cover, subscribe_by}
use Rattle.sng_policy.specs.Laws.{EachIsGranted, SaysOfFilter, HasFilters, SubscriptionsAreExact}
use Rattle.sng_policy.specs.Laws.{JoinsScope, SubscribingIsReceiving}
use Rattle.sng_policy.proofs.NameLemmas.{some_pair, granted, by_grants}

-- the names that the filters with `sub` grant are those that the pairs grant for subscribing
same_by : (pair : Pair) (pairs : List Pair) (name : List ℕ) (b : Bool)
    → inclusion.is_granted (subscribed pairs) name ≡ is_granted Subscribe pairs name
    → inclusion.is_granted (if b then pair.filter ∷ subscribed pairs else subscribed pairs) name
    ≡ ((b && matches pair.filter name) || is_granted Subscribe pairs name)
same_by pair pairs name true more = ap (λ (rest : Bool). matches pair.filter name || rest) more
same_by pair pairs name false more = more

same_granted : (pairs : List Pair) (name : List ℕ)
    → inclusion.is_granted (subscribed pairs) name ≡ is_granted Subscribe pairs name
same_granted [] name = refl
same_granted (pair ∷ pairs) name = same_by pair pairs name pair.subscribes (same_granted pairs name)

-- those filters are filters
filters_by : (pair : Pair) (pairs : List Pair) (b : Bool) → is_filter pair.filter ≡ true
    → AllOf (λ filter. is_filter filter ≡ true) (subscribed pairs)
    → AllOf (λ filter. is_filter filter ≡ true)
    (if b then pair.filter ∷ subscribed pairs else subscribed pairs)
filters_by pair pairs true is more = (is, more)
filters_by pair pairs false is more = more

filters_of : (pairs : List Pair) → AllOf (λ pair. is_filter pair.filter ≡ true) pairs
    → AllOf (λ filter. is_filter filter ≡ true) (subscribed pairs)
filters_of [] are = tt
filters_of (pair ∷ pairs) are = filters_by pair pairs pair.subscribes are.0 (filters_of pairs are.1)

pub scope-has_filters : (pairs : List Pair) → All (λ pair. is_filter pair.filter ≡ true) pairs
    → HasFilters (Some pairs)
scope-has_filters pairs are =
    All-from_recursion (λ (filter : List ℕ). is_filter filter ≡ true) (subscribed pairs)
    (filters_of pairs (recursion_from_All (λ (pair : Pair). is_filter pair.filter ≡ true) pairs are))

-- a filter that a pair with `sub` has itself is included
own_granted : (pairs : List Pair) (filter name : List ℕ) → has_filter pairs filter ≡ true
    → matches filter name ≡ true → is_granted Subscribe pairs name ≡ true
own_granted [] filter name has matching = absurd (cc)
own_granted (pair ∷ pairs) filter name has matching =
    elim (some_pair pair.subscribes (bytes_eq pair.filter filter) (has_filter pairs filter) has) [
      | inl here ↦
          let same : pair.filter ≡ filter = (bytes_eq-Decides pair.filter filter).0 here.1 in
          rw (here.0, same, matching) refl
      | inr more ↦ or_right (pair.subscribes && matches pair.filter name) (is_granted Subscribe pairs name)
          (own_granted pairs filter name more matching)
    ]

pub own-included : (pairs : List Pair) (filter : List ℕ) → is_filter filter ≡ true
    → All (λ pair. is_filter pair.filter ≡ true) pairs → has_filter pairs filter ≡ true
    → cover_of filter (subscribed pairs) ≡ cover.Included
own-included pairs filter is are has =
    let filters =
    filters_of pairs (recursion_from_All (λ (pair : Pair). is_filter pair.filter ≡ true) pairs are) in
    (right filter (subscribed pairs) is filters).0.1
    (λ name named matching. same_granted pairs name ∙ own_granted pairs filter name has matching)

-- the gap in an answer
gap_in : FilterGrant → List ℕ
gap_in (Uncovered gap) = gap
gap_in _ = []

exact_by : (pairs : List Pair) (filter : List ℕ) (grant : FilterGrant) (answer : Cover)
    → cover_of filter (subscribed pairs) ≡ answer → IsRight filter (subscribed pairs)
    → (grant_of_cover answer ≡ grant) ↔ SaysOfFilter (Some pairs) filter grant
exact_by pairs filter grant cover.Included is right =
    let included : Included filter (subscribed pairs) = right.0.0 is in (
      λ same. inl (
        sym same,
        λ name named matching. granted Subscribe pairs name
            (sym (same_granted pairs name) ∙ included name named matching),
      ),
      λ says. elim says [
        | inl allowed ↦ sym allowed.0
        | inr uncovered ↦ let other : cover_of filter (subscribed pairs) ≡ cover.Uncovered uncovered.0 =
            (right.1 uncovered.0).1 uncovered.1.1 in
            let bad : cover.Included ≡ cover.Uncovered uncovered.0 = sym is ∙ other in cc
      ],
    )
exact_by pairs filter grant (cover.Uncovered gap) is right =
    let gap_is : IsGap filter (subscribed pairs) gap = (right.1 gap).0 is in (
      λ same. inr (gap, (sym same, gap_is)),
      λ says. elim says [
        | inl allowed ↦
            let included : Included filter (subscribed pairs) =
            λ name named matching. same_granted pairs name
            ∙ by_grants Subscribe pairs name (allowed.1 name named matching) in
            let bad : cover.Included ≡ cover.Uncovered gap = sym (right.0.1 included) ∙ is in cc
        | inr uncovered ↦
            let other : cover_of filter (subscribed pairs) ≡ cover.Uncovered uncovered.0 =
            (right.1 uncovered.0).1 uncovered.1.1 in
            ap grant_of_cover (sym is ∙ other) ∙ sym uncovered.1.0
      ],
    )

pub exact : (scope : Option (List Pair)) (filter : List ℕ) (grant : FilterGrant) → is_filter filter ≡ true
    → HasFilters scope → (subscribe_by scope filter ≡ grant) ↔ SaysOfFilter scope filter grant
exact None filter grant is have = (λ answer. sym answer, λ says. sym says)
exact (Some pairs) filter grant is have =
    let are = recursion_from_All (λ (filter : List ℕ). is_filter filter ≡ true) (subscribed pairs) have in
    exact_by pairs filter grant (cover_of filter (subscribed pairs)) refl
    (right filter (subscribed pairs) is are)

pub subscriptions_are_exact : SubscriptionsAreExact
subscriptions_are_exact policy client filter grant is have =
    exact (scope_of policy.clients client) filter grant is have

-- ---- subscribing and receiving

not_true : (b : Bool) → not b ≡ true → b ≡ false
not_true true is = absurd (cc)
not_true false is = refl

-- what a scope says to a message with the name
abbrev received : Option (List Pair) → List ℕ → NameGrant
received scope name = grant_by Subscribe scope name

each : (pairs : List Pair) (filter : List ℕ) → SaysOfFilter (Some pairs) filter Allowed
    → EachIsGranted pairs filter
each pairs filter (inl allowed) = allowed.1
each pairs filter (inr uncovered) = let no : Allowed ≡ Uncovered uncovered.0 = uncovered.1.0 in absurd (cc)

allowed_names : (scope : Option (List Pair)) (filter : List ℕ) → is_filter filter ≡ true → HasFilters scope
    → subscribe_by scope filter ≡ Allowed
    → (name : List ℕ) → is_name name ≡ true → matches filter name ≡ true → received scope name
    ≡ on_name.Allowed
allowed_names None filter is have allowed name named matching = absurd (cc)
allowed_names (Some pairs) filter is have allowed name named matching =
    let says : SaysOfFilter (Some pairs) filter Allowed =
    (exact (Some pairs) filter Allowed is have).0 allowed in
    rw (by_grants Subscribe pairs name (each pairs filter says name named matching)) refl

gap_of : (pairs : List Pair) (filter gap : List ℕ) → SaysOfFilter (Some pairs) filter (Uncovered gap)
    → IsGap filter (subscribed pairs) gap
unfolding gap_in
gap_of pairs filter gap (inl allowed) = let no : Uncovered gap ≡ Allowed = allowed.0 in absurd (cc)
gap_of pairs filter gap (inr uncovered) =
    let same : gap ≡ uncovered.0 = ap gap_in uncovered.1.0 in
    rw same uncovered.1.1

uncovered_gap : (scope : Option (List Pair)) (filter : List ℕ) → is_filter filter ≡ true → HasFilters scope
    → (gap : List ℕ) → subscribe_by scope filter ≡ Uncovered gap
    → (is_name gap ≡ true) × (matches filter gap ≡ true) × (received scope gap ≡ on_name.Missing)
uncovered_gap None filter is have gap uncovered = absurd (cc)
uncovered_gap (Some pairs) filter is have gap uncovered =
    let gap_is : IsGap filter (subscribed pairs) gap =
    gap_of pairs filter gap ((exact (Some pairs) filter (Uncovered gap) is have).0 uncovered) in
    let shown = and_parts (matches filter gap) (not (inclusion.is_granted (subscribed pairs) gap)) gap_is.1 in
    let missing : is_granted Subscribe pairs gap ≡ false =
    sym (same_granted pairs gap) ∙ not_true (inclusion.is_granted (subscribed pairs) gap) shown.1 in
    (gap_is.0, shown.0, rw missing refl)

joins : (scope : Option (List Pair)) (filter : List ℕ) → is_filter filter ≡ true → HasFilters scope
    → JoinsScope scope filter (subscribe_by scope filter)
joins scope filter is have =
    record { allowed = allowed_names scope filter is have; uncovered = uncovered_gap scope filter is have }

pub subscribing_is_receiving : SubscribingIsReceiving
subscribing_is_receiving policy client filter is have = joins (scope_of policy.clients client) filter is have

-- what a grant by the pairs of a scope says
pub grant-says : (pairs : List Pair) (filter : List ℕ) (grant : FilterGrant) → is_filter filter ≡ true
    → All (λ pair. is_filter pair.filter ≡ true) pairs
    → grant ≡ grant_of_cover (cover_of filter (subscribed pairs))
    → SaysOfFilter (Some pairs) filter grant × JoinsScope (Some pairs) filter grant
grant-says pairs filter grant is are answer =
    let have : HasFilters (Some pairs) = scope-has_filters pairs are in
    let same : subscribe_by (Some pairs) filter ≡ grant = sym answer in
    let P : FilterGrant → Type 0 = λ g. JoinsScope (Some pairs) filter g in
    ((exact (Some pairs) filter grant is have).0 same, subst P same (joins (Some pairs) filter is have))
