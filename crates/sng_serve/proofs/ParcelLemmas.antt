-- What of a row the courier sends, out by out, and that each address has one sender.
use Rattle.std.proofs.Common.{ℕ, Bool, true, false, not, cond, ◌≡◌, List, [], ◌∷◌, ◌++◌, filter, refl, ap, ap₂, ◌∙◌}
use Rattle.std.proofs.lemmas.Bool.{both_ways}
use Rattle.std.proofs.lemmas.List.{append-nil}
use Rattle.std.proofs.lemmas.List.Elements.{filter-append}
use Rattle.sng_book.specs.declared.address.Address.{Address}
use Rattle.sng_serve.specs.Parcels.{couriers, is_couriers, own}

pub couriers_on : (xs ys : List (Address × List ℕ)) → couriers (xs ++ ys) ≡ couriers xs ++ couriers ys
couriers_on xs ys = filter-append (λ datagram. is_couriers datagram.0) xs ys

pub own_on : (is_shared : Bool) (xs ys : List (Address × List ℕ)) → own is_shared (xs ++ ys)
    ≡ own is_shared xs ++ own is_shared ys
own_on false xs ys = refl
own_on true xs ys = filter-append (λ datagram. not (is_couriers datagram.0)) xs ys

-- where all that pass q pass p, too, p takes none of them away
within : {X : Type 0} (p q : X → Bool) → ((x : X) → q x ≡ true → p x ≡ true) → (xs : List X)
    → filter q (filter p xs) ≡ filter q xs
within p q all [] = refl
within {X} p q all (x ∷ xs) = go (q x) (p x) refl refl (within p q all xs)
  where
    left : List X
    left = filter q (filter p xs)

    go : (b c : Bool) → q x ≡ b → p x ≡ c → filter q (filter p xs) ≡ filter q xs
        → filter q (cond c (x ∷ filter p xs) (filter p xs)) ≡ cond b (x ∷ filter q xs) (filter q xs)
    go true true e d more = ap (λ t. cond t (x ∷ left) left) e ∙ ap (λ l. x ∷ l) more
    go true false e d more = absurd (both_ways _ d (all x e))
    go false true e d more = ap (λ t. cond t (x ∷ left) left) e ∙ more
    go false false e d more = more

-- where none that pass q pass p, p leaves none of them
outside : {X : Type 0} (p q : X → Bool) → ((x : X) → q x ≡ true → p x ≡ false) → (xs : List X)
    → filter q (filter p xs) ≡ []
outside p q none [] = refl
outside {X} p q none (x ∷ xs) = go (p x) refl (outside p q none xs)
  where
    left : List X
    left = filter q (filter p xs)

    at : (b : Bool) → q x ≡ b → p x ≡ true → left ≡ [] → cond b (x ∷ left) left ≡ []
    at true e d more = absurd (both_ways _ (none x e) d)
    at false e d more = more

    go : (c : Bool) → p x ≡ c → left ≡ [] → filter q (cond c (x ∷ filter p xs) (filter p xs)) ≡ []
    go true d more = at (q x) refl d more
    go false d more = more

-- what goes to one address, which the courier sends to or not, is wholly with the one or with the other, in its
-- order
pub one_sender : (is_at : Address → Bool) (has : Bool) → ((to : Address) → is_at to ≡ true → is_couriers to
    ≡ has) → (datagrams : List (Address × List ℕ)) → filter (λ datagram. is_at datagram.0) (couriers datagrams)
    ++ filter (λ datagram. is_at datagram.0) (own true datagrams)
    ≡ filter (λ datagram. is_at datagram.0) datagrams
one_sender is_at true same datagrams = ap₂ ◌++◌
    (within (λ d. is_couriers d.0) (λ d. is_at d.0) (λ d e. same d.0 e) datagrams)
    (outside (λ d. not (is_couriers d.0)) (λ d. is_at d.0) (λ d e. ap not (same d.0 e)) datagrams)
    ∙ append-nil _
one_sender is_at false same datagrams = ap₂ ◌++◌
    (outside (λ d. is_couriers d.0) (λ d. is_at d.0) (λ d e. same d.0 e) datagrams)
    (within (λ d. not (is_couriers d.0)) (λ d. is_at d.0) (λ d e. ap not (same d.0 e)) datagrams)
