-- The id by which a client knows a name, once it has confirmed one more.
use Rattle.std.proofs.Common.{◌≡◌, ℕ, zero, suc, ◌+◌, ◌<◌, ◌≤◌, true, false, List, [], ◌∷◌, length, Option}
use Rattle.std.proofs.Common.{Some, None, unwrap_or, slice_get, is_some, position, Bor, refl, ap, sym, arith}
use Rattle.std.specs.Prelude.{◌≢◌}
use Rattle.std.specs.Option.{option_map, option_copied}
use Rattle.std.specs.Str.{bytes_eq}
use Rattle.std.proofs.lemmas.List.Quantifiers.{position-Some}
use Rattle.sng_ids.specs.Ids.{Ids, names_of, place_of, id_for, confirmed, confirmed_at, is_confirmed, id_of}
use Rattle.sng_ids.specs.Ids.{name_of}

names_confirmed_at : (place : ℕ) (ids : Ids) → names_of (confirmed_at place ids) ≡ names_of ids
names_confirmed_at place [] = refl
names_confirmed_at zero (entry ∷ ids) = refl
names_confirmed_at (suc place) (entry ∷ ids) = ap (λ names. entry.0 ∷ names) (names_confirmed_at place ids)

names_confirmed : (id : ℕ) (ids : Ids) → names_of (confirmed id ids) ≡ names_of ids
names_confirmed zero ids = refl
names_confirmed (suc place) ids = names_confirmed_at place ids

-- to confirm an id gives no name another
pub place-confirmed : (name : List ℕ) (id : ℕ) (ids : Ids)
    → place_of name (confirmed id ids) ≡ place_of name ids
place-confirmed name id ids = ap (λ names. position (bytes_eq name) names) (names_confirmed id ids)

read_past : (ids : Ids) (place : ℕ) → length ids ≤ place → slice_get ids place ≡ None
read_past [] place past = refl
read_past (entry ∷ ids) zero past = absurd (omega (arith, past))
read_past (entry ∷ ids) (suc place) past = read_past ids place (omega (arith, past))

-- what is confirmed at its place
confirmed_there : (ids : Ids) (place : ℕ) → place < length ids
    → is_confirmed (slice_get (confirmed_at place ids) place) ≡ true
confirmed_there [] place within = absurd (omega (arith, within))
confirmed_there (entry ∷ ids) zero within = refl
confirmed_there (entry ∷ ids) (suc place) within = confirmed_there ids place (omega (arith, within))

-- and at any other
other_place : (ids : Ids) (at place : ℕ) → at ≢ place
    → slice_get (confirmed_at at ids) place ≡ slice_get ids place
other_place [] at place other = refl
other_place (entry ∷ ids) zero zero other = absurd (other refl)
other_place (entry ∷ ids) zero (suc place) other = refl
other_place (entry ∷ ids) (suc at) zero other = refl
other_place (entry ∷ ids) (suc at) (suc place) other = other_place ids at place (λ e. other (ap suc e))

length_names : (ids : Ids) → length (names_of ids) ≡ length ids
length_names [] = refl
length_names (entry ∷ ids) = omega (arith, length_names ids)

-- the id is that of the name, and was given: the name is known by it
pub told-now : (name : List ℕ) (id : ℕ) (ids : Ids) → id_for name ids ≡ id → is_some (name_of id ids) ≡ true
    → Some id ≡ id_of name (confirmed id ids)
told-now name zero ids is there = absurd (omega (arith, is))
told-now name (suc at) ids is there = by (place_of name ids) refl
  where
    by : (o : Option ℕ) → place_of name ids ≡ o → Some (suc at) ≡ id_of name (confirmed (suc at) ids)
    by (Some place) found =
        let next : id_for name ids ≡ place + 1 = ap (λ o. unwrap_or o (length ids) + 1) found in
        let same : at ≡ place = omega (arith, is, next) in
        let within : place < length ids =
        omega (
          arith,
          (position-Some (bytes_eq name) (names_of ids) place [] found).0,
          length_names ids,
        ) in
        rw (place-confirmed name (suc at) ids, found, same, confirmed_there ids place within)
        (ap Some (omega arith))
    by None found =
        let next : id_for name ids ≡ length ids + 1 = ap (λ o. unwrap_or o (length ids) + 1) found in
        let size : at ≡ length ids = omega (arith, is, next) in
        absurd (let none : slice_get ids at ≡ None = read_past ids at (omega (arith, size)) in
        let no : is_some (name_of (suc at) ids) ≡ false =
        ap (λ o. is_some (option_map (λ entry. entry.0) o)) none in
        cc)

-- else it is known as before
pub told-before : (name : List ℕ) (id : ℕ) (ids : Ids) → id_for name ids ≢ id
    → id_of name ids ≡ id_of name (confirmed id ids)
told-before name zero ids other = refl
told-before name (suc at) ids other = by (place_of name ids) refl
  where
    by : (o : Option ℕ) → place_of name ids ≡ o → id_of name ids ≡ id_of name (confirmed (suc at) ids)
    by (Some place) found =
        let next : id_for name ids ≡ place + 1 = ap (λ o. unwrap_or o (length ids) + 1) found in
        let apart : at ≢ place = λ e. other (omega (arith, next, e)) in
        rw (place-confirmed name (suc at) ids, found, other_place ids at place apart) refl
    by None found = rw (place-confirmed name (suc at) ids, found) refl

-- an id that was not given confirms nothing
pub told-none : (name : List ℕ) (id : ℕ) (ids : Ids) → is_some (name_of id ids) ≡ false
    → id_of name ids ≡ id_of name (confirmed id ids)
told-none name zero ids none = refl
told-none name (suc at) ids none = ap (id_of name) (sym (past at ids none))
  where
    past : (at : ℕ) (ids : Ids) → is_some (name_of (suc at) ids) ≡ false → confirmed_at at ids ≡ ids
    past at [] none = refl
    past zero (entry ∷ ids) none = absurd cc
    past (suc at) (entry ∷ ids) none = ap (λ rest. entry ∷ rest) (past at ids none)

pub some-copied : {X : Type 0} (o : Option (Bor X)) → is_some (option_copied o) ≡ is_some o
some-copied None = refl
some-copied (Some x) = refl
