-- A granted filter that fits the candidates matches each name of a depth that it reaches which the asked
-- filter matches: where the granted one names a level, so does the asked one, and it is the same.
use Rattle.std.proofs.Common.{◌≡◌, ℕ, zero, suc, Bool, true, false, ◌&&◌, ◌||◌, List, [], ◌∷◌, length, refl}
use Rattle.std.proofs.Common.{sym, arith, ◌∙◌, eqb-true, inl, inr}
use Rattle.std.specs.Str.{bytes_eq}
use Rattle.std.proofs.lemmas.Slice.Eq.{bytes_eq-Decides}
use Rattle.std.proofs.lemmas.Bool.{and_parts, or_cases, both_ways}
use Rattle.sng_text.specs.Texts.{is_plus, is_hash, is_in_place, is_ordinary}
use Rattle.sng_text.specs.Matching.{item_of, items_of, has_rest, fits, match_items}
use Rattle.sng_cover.specs.Reaches.{fits_levels, reaches_depth}
use Rattle.sng_cover.proofs.Matched.{reaches_suc, reaches_none, rest_matches}

abbrev pub Matches : List (List ℕ) → List (List ℕ) → Type 0
Matches filter levels = match_items (items_of filter) (has_rest filter) levels ≡ true

abbrev pub Reaches : List (List ℕ) → List (List ℕ) → Type 0
Reaches filter levels = reaches_depth (length (items_of filter)) (has_rest filter) (length levels) ≡ true

nothing_left : (levels : List (List ℕ)) → Reaches [] levels → Matches [] levels
nothing_left [] reach = refl
nothing_left (found ∷ levels) reach =
    let none : suc (length levels) ≡ zero = eqb-true (suc (length levels)) zero reach in
    let bad : ⊥ = omega arith in absurd bad

-- one level more
step : (level : List ℕ) (granted : List (List ℕ)) (found : List ℕ) (levels : List (List ℕ))
    → is_hash level ≡ false
    → fits (item_of level) found ≡ true → (Reaches granted levels → Matches granted levels)
    → Reaches (level ∷ granted) (found ∷ levels) → Matches (level ∷ granted) (found ∷ levels)
step level granted found levels hash fit more reach =
    let further : reaches_depth (suc (length (items_of granted))) (has_rest granted) (suc (length levels))
    ≡ true = rw hash at reach in
    let left : Reaches granted levels =
    sym (reaches_suc (length (items_of granted)) (has_rest granted) (length levels)) ∙ further in
    rw (hash, fit) (more left)

-- there is a level for each of the filter's
too_few : (level : List ℕ) (granted : List (List ℕ)) → is_hash level ≡ false → Reaches (level ∷ granted) []
    → ⊥
too_few level granted hash reach =
    let none : reaches_depth (suc (length (items_of granted))) (has_rest granted) zero ≡ true =
    rw hash at reach in
    both_ways _ (reaches_none (length (items_of granted)) (has_rest granted)) none

plus_fits : (level found : List ℕ) → is_plus level ≡ true → fits (item_of level) found ≡ true
plus_fits level found plus = rw plus refl

abbrev AllPlus : List (List ℕ) → List (List ℕ) → Type 0
AllPlus granted levels = fits_levels [] granted ≡ true → Reaches granted levels → Matches granted levels

all_plus_by : (level : List ℕ) (granted levels : List (List ℕ)) (b : Bool) → is_hash level ≡ b
    → ((levels : List (List ℕ)) → AllPlus granted levels) → AllPlus (level ∷ granted) levels
all_plus_by level granted levels true hash more fit reach = rw (hash, rest_matches levels) refl
all_plus_by level granted [] false hash more fit reach = absurd (too_few level granted hash reach)
all_plus_by level granted (found ∷ levels) false hash more fit reach =
    let both : ((is_plus level || false) && fits_levels [] granted) ≡ true = rw hash at fit in
    let parts = and_parts (is_plus level || false) (fits_levels [] granted) both in
    elim (or_cases (is_plus level) false parts.0) [
      | inl plus ↦ step level granted found levels hash (plus_fits level found plus)
          (more levels parts.1) reach
      | inr never ↦ let e : false ≡ true = never in cc
    ]

-- a filter of `+` alone, and `#` perhaps, matches every name of the depth
all_plus : (granted levels : List (List ℕ)) → AllPlus granted levels
all_plus [] levels fit reach = nothing_left levels reach
all_plus (level ∷ granted) levels fit reach =
    all_plus_by level granted levels (is_hash level) refl
    (λ (levels : List (List ℕ)). all_plus granted levels) fit reach

head_fits : (level other found : List ℕ) → (is_plus level || bytes_eq level other) ≡ true
    → fits (item_of other) found ≡ true → fits (item_of level) found ≡ true
head_fits level other found either fit =
    elim (or_cases (is_plus level) (bytes_eq level other) either) [
      | inl plus ↦ plus_fits level found plus
      | inr same ↦ let e : level ≡ other = (bytes_eq-Decides level other).0 same in rw e fit
    ]

-- what stands after a `#` in its place is nothing
last_hash : (level : List ℕ) (asked : List (List ℕ)) → is_hash level ≡ true
    → is_in_place (level ∷ asked) ≡ true → asked ≡ []
last_hash level [] hash place = refl
last_hash level (next ∷ asked) hash place =
    let e : level ≡ 35 ∷ [] = (bytes_eq-Decides level (35 ∷ [])).0 hash in
    let ordinary : (is_ordinary (35 ∷ []) && is_in_place (next ∷ asked)) ≡ true = rw e at place in
    let bad : false ≡ true = ordinary in cc

pub still_in_place : (level : List ℕ) (asked : List (List ℕ)) → is_in_place (level ∷ asked) ≡ true
    → is_in_place asked ≡ true
still_in_place level [] place = refl
still_in_place level (next ∷ asked) place =
    (and_parts (is_ordinary level) (is_in_place (next ∷ asked)) place).1

abbrev pub Swaps : List (List ℕ) → List (List ℕ) → List (List ℕ) → Type 0
Swaps granted asked levels =
    is_in_place asked ≡ true → fits_levels asked granted ≡ true → Matches asked levels
    → Reaches granted levels → Matches granted levels

-- the asked filter's `#` leaves only `+` and `#` to the granted one
swap_rest : (level : List ℕ) (granted : List (List ℕ)) (own : List ℕ) (asked : List (List ℕ)) (found : List ℕ)
    (levels : List (List ℕ)) → is_hash level ≡ false → is_hash own ≡ true
    → is_in_place (own ∷ asked) ≡ true
    → ((is_plus level || bytes_eq level own) && fits_levels asked granted) ≡ true
    → Reaches (level ∷ granted) (found ∷ levels) → Matches (level ∷ granted) (found ∷ levels)
swap_rest level granted own asked found levels hash own_hash place both reach =
    let parts = and_parts (is_plus level || bytes_eq level own) (fits_levels asked granted) both in
    let fit : fits_levels [] granted ≡ true = rw (last_hash own asked own_hash place) at parts.1 in
    elim (or_cases (is_plus level) (bytes_eq level own) parts.0) [
      | inl plus ↦ step level granted found levels hash (plus_fits level found plus)
          (all_plus granted levels fit) reach
      | inr same ↦ let e : level ≡ own =
          (bytes_eq-Decides level own).0 same in absurd (both_ways (is_hash level) hash (rw e own_hash))
    ]

swap_by : (level : List ℕ) (granted : List (List ℕ)) (own : List ℕ) (asked : List (List ℕ)) (found : List ℕ)
    (levels : List (List ℕ)) (b : Bool) → is_hash own ≡ b → is_hash level ≡ false
    → ((asked levels : List (List ℕ)) → Swaps granted asked levels) → is_in_place (own ∷ asked) ≡ true
    → ((is_plus level || bytes_eq level own) && fits_levels asked granted) ≡ true
    → Matches (own ∷ asked) (found ∷ levels) → Reaches (level ∷ granted) (found ∷ levels)
    → Matches (level ∷ granted) (found ∷ levels)
swap_by level granted own asked found levels true own_hash hash more place both matching reach =
    swap_rest level granted own asked found levels hash own_hash place both reach
swap_by level granted own asked found levels false own_hash hash more place both matching reach =
    let parts = and_parts (is_plus level || bytes_eq level own) (fits_levels asked granted) both in
    let matching_both : (fits (item_of own) found && match_items (items_of asked) (has_rest asked) levels)
    ≡ true = rw own_hash at matching in
    let matches =
    and_parts (fits (item_of own) found)
    (match_items (items_of asked) (has_rest asked) levels) matching_both in
    step level granted found levels hash (head_fits level own found parts.0 matches.0)
    (more asked levels (still_in_place own asked place) parts.1 matches.1) reach

swap_level : (level : List ℕ) (granted asked levels : List (List ℕ)) (b : Bool) → is_hash level ≡ b
    → ((asked levels : List (List ℕ)) → Swaps granted asked levels) → Swaps (level ∷ granted) asked levels
swap_level level granted asked levels true hash more place fit matching reach =
    rw (hash, rest_matches levels) refl
swap_level level granted asked [] false hash more place fit matching reach =
    absurd (too_few level granted hash reach)
swap_level level granted [] (found ∷ levels) false hash more place fit matching reach =
    let e : false ≡ true = matching in cc
swap_level level granted (own ∷ asked) (found ∷ levels) false hash more place fit matching reach =
    swap_by level granted own asked found levels (is_hash own) refl hash more place
    (rw hash at fit) matching reach

pub swaps : (granted asked levels : List (List ℕ)) → Swaps granted asked levels
swaps [] asked levels place fit matching reach = nothing_left levels reach
swaps (level ∷ granted) asked levels place fit matching reach =
    swap_level level granted asked levels (is_hash level) refl
    (λ (asked levels : List (List ℕ)). swaps granted asked levels) place fit matching reach
