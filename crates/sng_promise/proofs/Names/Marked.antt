-- The topic ids of a client in the rows' words: the names that it was told, each marked where it is among
-- those that it knows.
use Rattle.std.proofs.Common.{◌≡◌, ℕ, suc, ◌+◌, ◌≤◌, Bool, true, false, List, [], ◌∷◌, map, length, refl, ap}
use Rattle.std.proofs.Common.{sym, ◌∙◌, if◌then◌else◌}
use Rattle.std.proofs.Common.{arith}
use Rattle.std.specs.Prelude.{◌||◌, ◌&&◌, not, nat_lt, nat_le, position, slice_get, unwrap_or, is_none}
use Rattle.std.specs.Prelude.{Option, Some, None}
use Rattle.std.specs.List.{position_or_len}
use Rattle.std.specs.Str.{bytes_eq}
use Rattle.std.proofs.lemmas.Bool.Decides.{nat_tests}
use Rattle.std.proofs.lemmas.List.Sums.{prefix_len-le-length}
use Rattle.sng_ids.specs.Ids.{Ids, names_of, place_of, id_for, id_of, is_full_for}
use Rattle.sng_ids.specs.declared.limits.TheConstants.{MAX_TOPIC_IDS}
use Rattle.sng_laws.specs.ViewsClients.{is_among, id_told}
use Rattle.sng_history.proofs.Own.{same_means}

-- the ids of these names, each marked where the client knows it
abbrev pub marked : List (List ℕ) → List (List ℕ) → Ids
marked told known = map (λ name. (name, is_among name known)) told

pub marked_names : (told known : List (List ℕ)) → names_of (marked told known) ≡ told
marked_names [] known = refl
marked_names (name ∷ told) known = ap (λ more. name ∷ more) (marked_names told known)

pub marked_length : (told known : List (List ℕ)) → length (marked told known) ≡ length told
marked_length [] known = refl
marked_length (name ∷ told) known = ap suc (marked_length told known)

-- ---- the place of a name

among_by : (b c : Bool) (n : ℕ) (names : List (List ℕ)) → nat_lt n (length names) ≡ c
    → nat_lt (if not b then 1 + n else 0) (suc (length names)) ≡ (b || c)
among_by true c n names is = grind (arith, nat_tests)
among_by false c n names is = grind (arith, nat_tests, is)

among_place : (name : List ℕ) (names : List (List ℕ))
    → nat_lt (position_or_len (bytes_eq name) names) (length names) ≡ is_among name names
among_place name [] = refl
among_place name (one ∷ names) =
    among_by (bytes_eq name one) (is_among name names) (position_or_len (bytes_eq name) names) names
    (among_place name names)

pub place_marked : (name : List ℕ) (told known : List (List ℕ))
    → place_of name (marked told known)
    ≡ (if is_among name told then Some (position_or_len (bytes_eq name) told) else None)
place_marked name told known =
    ap (λ all. position (bytes_eq name) all) (marked_names told known)
    ∙ ap (λ b. if b then Some (position_or_len (bytes_eq name) told) else None) (among_place name told)

-- ---- the id of a name

id_step : (b : Bool) (id n : ℕ) → id ≡ n + 1 → (if b then 1 else id + 1) ≡ (if not b then 1 + n else 0) + 1
id_step true id n is = refl
id_step false id n is = omega (arith, is)

told_place : (name : List ℕ) (names : List (List ℕ))
    → id_told name names ≡ position_or_len (bytes_eq name) names + 1
told_place name [] = refl
told_place name (one ∷ names) =
    id_step (bytes_eq name one) (id_told name names) (position_or_len (bytes_eq name) names)
    (told_place name names)

id_by : (b : Bool) (n m : ℕ) → nat_lt n m ≡ b → n ≤ m
    → unwrap_or (let o : Option ℕ = if b then Some n else None in o) m + 1 ≡ n + 1
id_by true n m is within = refl
id_by false n m is within = grind (arith, nat_tests, is, within)

pub id_marked : (name : List ℕ) (told known : List (List ℕ))
    → id_for name (marked told known) ≡ id_told name told
id_marked name told known =
    rw (place_marked name told known, marked_length told known)
    (id_by (is_among name told) (position_or_len (bytes_eq name) told) (length told) (among_place name told)
    (prefix_len-le-length (λ one. not (bytes_eq name one)) told)
    ∙ sym (told_place name told))

-- a name without an id finds no room
none_if : (b : Bool) (n : ℕ) → is_none (let o : Option ℕ = if b then Some n else None in o) ≡ not b
none_if true n = refl
none_if false n = refl

most_by : (n m : ℕ) → nat_le m n ≡ not (nat_lt n m)
most_by n m = grind (arith, nat_tests)

pub full_marked : (name : List ℕ) (told known : List (List ℕ))
    → is_full_for name (marked told known)
    ≡ (not (is_among name told) && not (nat_lt (length told) MAX_TOPIC_IDS))
full_marked name told known =
    rw (
      place_marked name told known,
      marked_length told known,
      none_if (is_among name told) (position_or_len (bytes_eq name) told),
      most_by
          (length told) MAX_TOPIC_IDS,
    ) refl

-- ---- the id by which the client knows a name

entry_by : (name one : List ℕ) (told known : List (List ℕ)) (n : ℕ) (b : Bool) → bytes_eq name one ≡ b
    → (b || is_among name told) ≡ true
    → (is_among name told ≡ true → slice_get (marked told known) n ≡ Some (name, is_among name known))
    → slice_get (marked (one ∷ told) known) (if not b then 1 + n else 0) ≡ Some (name, is_among name known)
entry_by name one told known n true is among rest =
    let same : name ≡ one = same_means name one is in ap (λ o. Some (o, is_among o known)) (sym same)
entry_by name one told known n false is among rest =
    let next : 1 + n ≡ suc n = omega arith in rw next (rest among)

entry_marked : (name : List ℕ) (told known : List (List ℕ)) → is_among name told ≡ true
    → slice_get (marked told known) (position_or_len (bytes_eq name) told) ≡ Some (name, is_among name known)
entry_marked name [] known is = absurd cc
entry_marked name (one ∷ told) known is =
    entry_by name one told known (position_or_len (bytes_eq name) told) (bytes_eq name one) refl is
    (λ among. entry_marked name told known among)

known_if : (name : List ℕ) (told known : List (List ℕ)) (b : Bool) → is_among name told ≡ b
    → id_of name (marked told known) ≡ (if b && is_among name known then Some (id_told name told) else None)
known_if name told known true is =
    rw (place_marked name told known, is, entry_marked name told known is, told_place name told) refl
known_if name told known false is = rw (place_marked name told known, is) refl

pub known_marked : (name : List ℕ) (told known : List (List ℕ))
    → id_of name (marked told known)
    ≡ (if is_among name told && is_among name known then Some (id_told name told) else None)
known_marked name told known = known_if name told known (is_among name told) refl
