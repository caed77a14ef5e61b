-- What each answer of a policy says, in the words of RFC 9431, 2.3, and MQTT 3.1.1, 4.7.
use Rattle.std.specs.Prelude.{ℕ, ◌≡◌, ◌⊎◌, ◌↔◌, true, List, [], ◌∷◌, Some, None}
use Rattle.std.specs.declared.option.Option.{Option}
use Rattle.std.specs.List.{All}
use Rattle.sng_text.specs.Texts.{is_name, is_filter}
use Rattle.sng_text.specs.Matching.{matches}
use Rattle.sng_cover.specs.Gaps.{IsGap}
use Rattle.sng_grants.specs.Scopes.{subscribed}
use Rattle.sng_grants.specs.Sources.{scope_of}
use Rattle.sng_grants.specs.declared.scope.Pair.{Pair}
use Rattle.sng_grants.specs.declared.policy.Policy.{Policy}
use Rattle.sng_policy.specs.declared.permission.Permission.{Permission}
use Rattle.sng_policy.specs.declared.permission.Permission.TheVariants.{Publish, Subscribe}
use Rattle.sng_policy.specs.declared.grant.NameGrant.{NameGrant}
use Rattle.sng_policy.specs.declared.grant.NameGrant.TheVariants as on_name
use Rattle.sng_policy.specs.declared.grant.FilterGrant.{FilterGrant}
use Rattle.sng_policy.specs.declared.grant.FilterGrant.TheVariants as on_filter
use Rattle.sng_policy.specs.Grants.{permits, grant_by, publish_grant, source_grant, receive_grant}
use Rattle.sng_policy.specs.Grants.{subscribe_grant}

-- some pair of the scope has the permission, and a filter that matches the name
abbrev pub Grants : Permission → List Pair → List ℕ → Type 0
Grants permission [] name = ⊥
Grants permission (pair ∷ pairs) name = ((permits permission pair ≡ true) × (matches pair.filter name ≡ true))
    ⊎ Grants permission pairs name

-- the answer on a name: where nothing is listed `Unlisted`, else allowed where a pair grants it, and
-- `Missing` where none does
abbrev pub Says : Permission → Option (List Pair) → List ℕ → NameGrant → Type 0
Says permission None name grant = grant ≡ on_name.Unlisted
Says permission (Some pairs) name grant = ((grant ≡ on_name.Allowed) × Grants permission pairs name)
    ⊎ ((grant ≡ on_name.Missing) × ¬ Grants permission pairs name)

-- the answers on names
abbrev pub NamesAreExact : Type 0
NamesAreExact = (policy : Policy) (who name : List ℕ) (grant : NameGrant)
    → ((publish_grant policy who name ≡ grant) ↔ Says Publish (scope_of policy.clients who) name grant)
    × ((source_grant policy who name ≡ grant) ↔ Says Publish (scope_of policy.sources who) name grant)
    × ((receive_grant policy who name ≡ grant) ↔ Says Subscribe (scope_of policy.clients who) name grant)

-- each name that the filter matches is granted for subscribing
abbrev pub EachIsGranted : List Pair → List ℕ → Type 0
EachIsGranted pairs filter = (name : List ℕ) → is_name name ≡ true → matches filter name ≡ true
    → Grants Subscribe pairs name

-- the answer on a subscription: allowed where each name that it may bring is granted, else the gap
abbrev pub SaysOfFilter : Option (List Pair) → List ℕ → FilterGrant → Type 0
SaysOfFilter None filter grant = grant ≡ on_filter.Unlisted
SaysOfFilter (Some pairs) filter grant = ((grant ≡ on_filter.Allowed) × EachIsGranted pairs filter)
    ⊎ ((gap : List ℕ) × ((grant ≡ on_filter.Uncovered gap) × IsGap filter (subscribed pairs) gap))

-- the filters of a scope's pairs with `sub` are filters, as each `Scope` has them
abbrev pub HasFilters : Option (List Pair) → Type 0
HasFilters None = Unit {0}
HasFilters (Some pairs) = All (λ filter. is_filter filter ≡ true) (subscribed pairs)

-- the answers on subscriptions
abbrev pub SubscriptionsAreExact : Type 0
SubscriptionsAreExact =
    (policy : Policy) (client filter : List ℕ) (grant : FilterGrant) → is_filter filter ≡ true
    → HasFilters (scope_of policy.clients client)
    → (subscribe_grant policy client filter ≡ grant)
    ↔ SaysOfFilter (scope_of policy.clients client) filter grant

-- a grant of a subscription and what may be received by the same scope: allowed where each name that the
-- filter matches may be, and a gap is a name that the filter matches and that may not be
pub record JoinsScope (scope : Option (List Pair)) (filter : List ℕ) (grant : FilterGrant) : Type 0 where
  pub allowed : grant ≡ on_filter.Allowed → (name : List ℕ) → is_name name ≡ true → matches filter name ≡ true
      → grant_by Subscribe scope name ≡ on_name.Allowed
  pub uncovered : (gap : List ℕ) → grant ≡ on_filter.Uncovered gap
      → (is_name gap ≡ true) × (matches filter gap ≡ true)
      × (grant_by Subscribe scope gap ≡ on_name.Missing)

-- the same of a client of a policy, which receives by its scope
abbrev pub JoinsReceiving : Policy → List ℕ → List ℕ → FilterGrant → Type 0
JoinsReceiving policy client filter grant = JoinsScope (scope_of policy.clients client) filter grant

abbrev pub SubscribingIsReceiving : Type 0
SubscribingIsReceiving = (policy : Policy) (client filter : List ℕ) → is_filter filter ≡ true
    → HasFilters (scope_of policy.clients client)
    → JoinsReceiving policy client filter (subscribe_grant policy client filter)
