-- How many ids there are, as a name gets one or one is confirmed.
use Rattle.std.proofs.Common.{◌≡◌, ℕ, zero, suc, ◌+◌, ◌<◌, ◌≤◌, false, List, [], ◌∷◌, ◌++◌, length, Option}
use Rattle.std.proofs.Common.{Some, None, unwrap_or, refl, ap, arith}
use Rattle.std.specs.Str.{bytes_eq}
use Rattle.std.proofs.lemmas.List.Quantifiers.{position-Some}
use Rattle.sng_ids.specs.Ids.{Ids, names_of, place_of, id_for, with_name, confirmed, confirmed_at}

length_push : {X : Type 0} (xs : List X) (x : X) → length (xs ++ x ∷ []) ≡ length xs + 1
length_push [] x = refl
length_push (y ∷ xs) x = omega (arith, length_push xs x)

length_names : (ids : Ids) → length (names_of ids) ≡ length ids
length_names [] = refl
length_names (entry ∷ ids) = omega (arith, length_names ids)

-- a name with an id keeps it
pub named-already : (name : List ℕ) (ids : Ids) → id_for name ids ≤ length ids → with_name name ids ≡ ids
named-already name ids within = by (place_of name ids) refl
  where
    by : (o : Option ℕ) → place_of name ids ≡ o → with_name name ids ≡ ids
    by (Some place) is = rw is refl
    by None is =
        let id : id_for name ids ≡ length ids + 1 = ap (λ o. unwrap_or o (length ids) + 1) is in
        absurd (omega (arith, id, within))

-- another one gets the next
pub named-next : (name : List ℕ) (ids : Ids) → length ids < id_for name ids
    → length (with_name name ids) ≡ length ids + 1
named-next name ids beyond = by (place_of name ids) refl
  where
    by : (o : Option ℕ) → place_of name ids ≡ o → length (with_name name ids) ≡ length ids + 1
    by (Some place) is =
        let id : id_for name ids ≡ place + 1 = ap (λ o. unwrap_or o (length ids) + 1) is in
        let there : place < length (names_of ids) =
        (position-Some (bytes_eq name) (names_of ids) place [] is).0 in
        absurd (omega (arith, id, there, length_names ids, beyond))
    by None is = rw is (length_push ids (name, false))

length_confirmed_at : (place : ℕ) (ids : Ids) → length (confirmed_at place ids) ≡ length ids
length_confirmed_at place [] = refl
length_confirmed_at zero (entry ∷ ids) = refl
length_confirmed_at (suc place) (entry ∷ ids) = omega (arith, length_confirmed_at place ids)

pub length-confirmed : (id : ℕ) (ids : Ids) → length (confirmed id ids) ≡ length ids
length-confirmed zero ids = refl
length-confirmed (suc place) ids = length_confirmed_at place ids
