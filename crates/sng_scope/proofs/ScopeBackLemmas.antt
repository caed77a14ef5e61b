-- A scope is read from what is written of it.
use Rattle.std.proofs.Common.{◌≡◌, suc, Bool, true, false, cond, ltb, List, [], ◌∷◌, length, Result, Ok, Err}
use Rattle.std.proofs.Common.{All, ap, refl, ◌∙◌, arith, ℕ, Option, Some, None}
use Rattle.std.proofs.lemmas.Bool.{le-ltb}
use Rattle.std.proofs.lemmas.List.Elements.{All-head, All-tail}
use Rattle.serde_json.specs.Events.{items_len}
use Rattle.sng_text.specs.Texts.{is_filter}
use Rattle.sng_grants.specs.Scopes.{IsScope}
use Rattle.sng_grants.specs.declared.limits.TheConstants.{MAX_PAIRS}
use Rattle.sng_grants.specs.declared.grant.Grant.{Grant}
use Rattle.sng_grants.specs.Sources.{endless}
use Rattle.sng_grants.specs.declared.scope.Pair.{Pair}
use Rattle.sng_scope.specs.Bounds.{IsGrant}
use Rattle.sng_scope.specs.Scopes.{pair_of, pairs_of}
use Rattle.sng_scope.specs.Steps.{◌>>=◌}
use Rattle.sng_scope.specs.Texts.{scope_of_data}
use Rattle.sng_scope.specs.Grants.{lasting_grant_of, ending_grant_of, grant_of_data}
use Rattle.sng_scope.specs.Written.{pair_data, pairs_data, scope_data, scope_until, grant_data}
use Rattle.sng_scope.specs.declared.fault.PolicyFault.{PolicyFault}
use Rattle.sng_scope.specs.declared.fault.PolicyFault.TheVariants.{TooMany}

abbrev IsPair : Pair → Type 0
IsPair pair = is_filter pair.filter ≡ true

abbrev IsReadBack : List ℕ → Bool → Bool → Type 0
IsReadBack filter publishes subscribes =
    let pair : Pair = record { filter = filter; publishes = publishes; subscribes = subscribes } in
    pair_of (pair_data pair) ≡ Ok pair

permitted : (filter : List ℕ) (publishes subscribes : Bool) → is_filter filter ≡ true
    → IsReadBack filter publishes subscribes
permitted filter true true is = rw is refl
permitted filter true false is = rw is refl
permitted filter false true is = rw is refl
permitted filter false false is = rw is refl

pair-read : (pair : Pair) → is_filter pair.filter ≡ true → pair_of (pair_data pair) ≡ Ok pair
pair-read pair is = permitted pair.filter pair.publishes pair.subscribes is

two_steps : {A B C E : Type 0} (r : Result A E) (s : Result B E) (a : A) (b : B) (f : A → B → Result C E)
    → r ≡ Ok a → s ≡ Ok b → (r >>= (λ x. s >>= (λ y. f x y))) ≡ f a b
two_steps r s a b f first second = rw (first, second) refl

pairs-read : (pairs : List Pair) → All IsPair pairs → pairs_of (pairs_data pairs) ≡ Ok pairs
pairs-read [] are = refl
pairs-read (pair ∷ pairs) are =
    two_steps (pair_of (pair_data pair)) (pairs_of (pairs_data pairs)) pair pairs (λ p ps. Ok (p ∷ ps))
    (pair-read pair (All-head IsPair pair pairs are))
    (pairs-read pairs (All-tail IsPair pair pairs are))

pairs-len : (pairs : List Pair) → items_len (pairs_data pairs) ≡ length pairs
pairs-len [] = refl
pairs-len (pair ∷ pairs) = ap suc (pairs-len pairs)

within : {A : Type 0} (b : Bool) (r : Result A PolicyFault) → b ≡ false → cond b (Err TooMany) r ≡ r
within b r few = rw few refl

pub scope-read : (pairs : List Pair) → IsScope pairs → scope_of_data (scope_data pairs) ≡ Ok pairs
scope-read pairs is =
    within (ltb MAX_PAIRS (items_len (pairs_data pairs))) (pairs_of (pairs_data pairs))
    (le-ltb MAX_PAIRS (items_len (pairs_data pairs)) (omega (arith, pairs-len pairs, is.0)))
    ∙ pairs-read pairs is.1

-- ---- a grant is read from what is written of it, in a policy whose scopes may end, and where it has no end in
-- any

lasting-read : (pairs : List Pair) → IsScope pairs → lasting_grant_of (scope_data pairs) ≡ Ok (endless pairs)
lasting-read pairs is = ap (λ r. r >>= (λ ps. Ok (endless ps))) (scope-read pairs is)

until-read : (pairs : List Pair) (until : Option ℕ) → IsScope pairs
    → ending_grant_of (scope_until pairs until) ≡ Ok (record { scope = pairs; until = until })
until-read pairs None is = lasting-read pairs is
until-read pairs (Some end) is =
    ap (λ r. r >>= (λ ps. Ok (record { scope = ps; until = Some end }))) (scope-read pairs is)

-- what a policy of the version can say of a grant
abbrev pub CanSay : Bool → Grant → Type 0
CanSay true grant = IsGrant grant
CanSay false grant = IsGrant grant × (grant.until ≡ None)

no_end : (pairs : List Pair) (until : Option ℕ) → IsScope pairs → until ≡ None
    → lasting_grant_of (scope_until pairs until) ≡ Ok (record { scope = pairs; until = until })
no_end pairs None is none = lasting-read pairs is
no_end pairs (Some end) is none = absurd (cc)

pub grant-read : (ends : Bool) (grant : Grant) → CanSay ends grant
    → grant_of_data ends (grant_data grant) ≡ Ok grant
grant-read true grant is = until-read grant.scope grant.until is
grant-read false grant is = no_end grant.scope grant.until is.0 is.1
