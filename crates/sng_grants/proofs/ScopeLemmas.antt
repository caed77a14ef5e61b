-- The filters with `sub` of a scope, and their profile.
use Rattle.std.proofs.Common.{◌≡◌, ◌<◌, ℕ, Bool, true, false, List, [], ◌∷◌, ◌++◌, length, refl}
use Rattle.std.proofs.Common.{if◌then◌else◌, append-nil, arith, length-append}
use Rattle.std.proofs.lemmas.List.Elements.{All-push}
use Rattle.sng_text.specs.Texts.{is_filter}
use Rattle.sng_cover.specs.Gathered.{IsProfile}
use Rattle.sng_cover.specs.declared.profile.Profile.{Profile}
use Rattle.sng_grants.specs.Scopes.{IsScope, subscribed}
use Rattle.sng_grants.specs.declared.limits.TheConstants.{MAX_PAIRS}
use Rattle.sng_grants.specs.declared.scope.Pair.{Pair}

after_first : (b : Bool) (first : List ℕ) (some more : List (List ℕ))
    → (if b then first ∷ (some ++ more) else (some ++ more)) ≡ (if b then first ∷ some else some) ++ more
after_first true first some more = refl
after_first false first some more = refl

pub subscribed-append : (some more : List Pair)
    → subscribed (some ++ more) ≡ subscribed some ++ subscribed more
subscribed-append [] more = refl
subscribed-append (first ∷ some) more =
    rw (subscribed-append some more)
    (after_first first.subscribes first.filter (subscribed some) (subscribed more))

-- with one more pair, which has `sub`
pub profile-more : (pairs : List Pair) (pair : Pair) (profile : Profile) → pair.subscribes ≡ true
    → IsProfile profile (subscribed pairs ++ pair.filter ∷ [])
    → IsProfile profile (subscribed (pairs ++ pair ∷ []))
profile-more pairs pair profile is made = rw (subscribed-append pairs (pair ∷ []), is) made

-- with one that has not
pub profile-same : (pairs : List Pair) (pair : Pair) (profile : Profile) → pair.subscribes ≡ false
    → IsProfile profile (subscribed pairs)
    → IsProfile profile (subscribed (pairs ++ pair ∷ []))
profile-same pairs pair profile is made =
    rw (subscribed-append pairs (pair ∷ []), is, append-nil (subscribed pairs)) made

-- there is place for one more pair of a filter
pub scope-more : (pairs : List Pair) (pair : Pair) → IsScope pairs → length pairs < MAX_PAIRS
    → is_filter pair.filter ≡ true → IsScope (pairs ++ pair ∷ [])
scope-more pairs pair is few filter = (
  omega (arith, few, length-append pairs (pair ∷ [])),
  All-push (λ (pair : Pair). is_filter pair.filter ≡ true) pairs pair is.1 filter,
)
