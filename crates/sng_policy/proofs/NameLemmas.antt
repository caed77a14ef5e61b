-- The answers of a policy on names against what they say.
use Rattle.std.proofs.Common.{◌≡◌, ◌⊎◌, ◌↔◌, ℕ, Bool, true, false, ◌&&◌, ◌||◌, List, [], ◌∷◌, Some, None}
use Rattle.std.proofs.Common.{refl, sym, inl, inr, if◌then◌else◌}
use Rattle.std.specs.declared.option.Option.{Option}
use Rattle.std.proofs.lemmas.Bool.{or_right, both_ways}
use Rattle.sng_text.specs.Matching.{matches}
use Rattle.sng_grants.specs.Sources.{scope_of}
use Rattle.sng_grants.specs.declared.scope.Pair.{Pair}
use Rattle.sng_policy.specs.declared.permission.Permission.{Permission}
use Rattle.sng_policy.specs.declared.permission.Permission.TheVariants.{Publish, Subscribe}
use Rattle.sng_policy.specs.declared.grant.NameGrant.{NameGrant}
use Rattle.sng_policy.specs.declared.grant.NameGrant.TheVariants.{Allowed, Missing}
use Rattle.sng_policy.specs.Grants.{permits, is_granted, grant_by}
use Rattle.sng_policy.specs.Laws.{Grants, Says, NamesAreExact}

-- some pair passes both tests, or a later one does
pub some_pair : (permitted fits more : Bool) → ((permitted && fits) || more) ≡ true
    → ((permitted ≡ true) × (fits ≡ true)) ⊎ (more ≡ true)
some_pair true true more is = inl (refl, refl)
some_pair true false more is = inr is
some_pair false fits more is = inr is

pub granted : (permission : Permission) (pairs : List Pair) (name : List ℕ)
    → is_granted permission pairs name ≡ true → Grants permission pairs name
granted permission [] name is = cc
granted permission (pair ∷ pairs) name is =
    elim (some_pair (permits permission pair) (matches pair.filter name)
    (is_granted permission pairs name) is)
    [ inl here ↦ inl here | inr more ↦ inr (granted permission pairs name more) ]

pub by_grants : (permission : Permission) (pairs : List Pair) (name : List ℕ) → Grants permission pairs name
    → is_granted permission pairs name ≡ true
by_grants permission [] name h = absurd h
by_grants permission (pair ∷ pairs) name (inl here) = rw (here.0, here.1) refl
by_grants permission (pair ∷ pairs) name (inr more) =
    or_right (permits permission pair && matches pair.filter name) (is_granted permission pairs name)
    (by_grants permission pairs name more)

exact_by : (permission : Permission) (pairs : List Pair) (name : List ℕ)
    (grant : NameGrant) (b : Bool) → is_granted permission pairs name ≡ b
    → ((if b then Allowed else Missing) ≡ grant) ↔ Says permission (Some pairs) name grant
exact_by permission pairs name grant true is = (
  λ answer. inl (sym answer, granted permission pairs name is),
  λ says. elim says [
    | inl allowed ↦ sym allowed.0
    | inr denied ↦ absurd (denied.1 (granted permission pairs name is))
  ],
)
exact_by permission pairs name grant false is = (
  λ answer. inr (
    sym answer,
    λ h. absurd
        (both_ways (is_granted permission pairs name) is (by_grants permission pairs name h)),
  ),
  λ says. elim says [
    | inl allowed ↦ absurd
        (both_ways (is_granted permission pairs name) is (by_grants permission pairs name allowed.1))
    | inr denied ↦ sym denied.0
  ],
)

exact : (permission : Permission) (scope : Option (List Pair)) (name : List ℕ)
    (grant : NameGrant)
    → (grant_by permission scope name ≡ grant) ↔ Says permission scope name
    grant
exact permission None name grant = (λ answer. sym answer, λ says. sym says)
exact permission (Some pairs) name grant =
    exact_by permission pairs name grant (is_granted permission pairs name) refl

pub names_are_exact : NamesAreExact
names_are_exact policy who name grant = (
  exact Publish (scope_of policy.clients who) name grant,
  exact Publish (scope_of policy.sources who) name grant,
  exact Subscribe (scope_of policy.clients who) name grant,
)
