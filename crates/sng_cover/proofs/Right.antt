-- The answers on inclusion are right.
use Rattle.std.proofs.Common.{◌≡◌, ◌≤◌, ◌<◌, ◌==◌, max, nat_lt, ℕ, Bool, true, false, not, ◌&&◌, List, []}
use Rattle.std.proofs.Common.{◌∷◌, length, refl, ◌∙◌, sym, arith, if◌then◌else◌, inl, inr}
use Rattle.std.specs.Str.{bytes_eq}
use Rattle.std.proofs.lemmas.Slice.Eq.{bytes_eq-Decides}
use Rattle.std.proofs.lemmas.Bool.{and_parts, and_from, or_cases, or_left, or_right, false_from_ne_true}
use Rattle.std.proofs.lemmas.Bool.{le-ltb, eqb-true}
use Rattle.sng_text.specs.Levels.{levels_of, lengthen}
use Rattle.sng_text.specs.Texts.{is_filter, is_name, is_in_place}
use Rattle.sng_text.specs.Matching.{items_of, has_rest, begins_wild, is_reserved, match_items, matches}
use Rattle.sng_cover.specs.Inclusion.{is_granted}
use Rattle.sng_cover.specs.Candidates.{joined}
use Rattle.sng_cover.specs.Covering.{is_open, fixed_part, longest_fixed}
use Rattle.sng_cover.specs.Reaches.{fits, fits_levels, keeps_off, reaches, reaches_depth, any_reaches}
use Rattle.sng_cover.specs.Reached.{begins_empty}
use Rattle.sng_cover.specs.Gaps.{depth_of}
use Rattle.sng_cover.proofs.Joining.{joined_levels_of, HasLevel, some_level}
use Rattle.sng_cover.proofs.Filters.{AreFilters, filter_facts}
use Rattle.sng_cover.proofs.Matched.{reached}
use Rattle.sng_cover.proofs.Swapped.{swaps}
use Rattle.sng_cover.proofs.Reserved.{name_reserved}
use Rattle.sng_cover.proofs.Opened.{is_left, open_is_left, fits_own}

-- a granted filter matches what the asked filter matches, at the depths that it reaches
not_both : (wild asked name : Bool) → not (wild && asked) ≡ true → (name ≡ true → asked ≡ true)
    → not (wild && name) ≡ true
not_both true true name off follows = let e : false ≡ true = off in cc
not_both true false true off follows = follows refl
not_both true false false off follows = refl
not_both false asked name off follows = refl

reaches_name : (asked filter name : List ℕ) → is_in_place (levels_of asked) ≡ true → matches asked name ≡ true
    → reaches asked filter (depth_of name) ≡ true → matches filter name ≡ true
reaches_name asked filter name place matching reach =
    let outer =
    and_parts (fits asked filter)
    (reaches_depth (fixed_part filter) (has_rest (levels_of filter)) (depth_of name)) reach in
    let inner =
    and_parts (not (keeps_off asked filter)) (fits_levels (levels_of asked) (levels_of filter)) outer.0 in
    let own =
    and_parts (not (begins_wild (items_of (levels_of asked)) (has_rest (levels_of asked))
    && is_reserved name)) (match_items (items_of (levels_of asked)) (has_rest (levels_of asked))
    (levels_of name)) matching in
    let off : not (begins_wild (items_of (levels_of filter)) (has_rest (levels_of filter))
    && is_reserved name) ≡ true =
    not_both (begins_wild (items_of (levels_of filter)) (has_rest (levels_of filter))) (is_reserved asked)
    (is_reserved name) inner.0 (name_reserved asked name matching) in
    and_from _ _ off (swaps (levels_of filter) (levels_of asked) (levels_of name) place inner.1 own.1 outer.1)

granted_name : (asked : List ℕ) (granted : List (List ℕ)) (name : List ℕ)
    → is_in_place (levels_of asked) ≡ true → matches asked name ≡ true
    → any_reaches asked granted (depth_of name) ≡ true → is_granted granted name ≡ true
granted_name asked [] name place matching reach = reach
granted_name asked (filter ∷ granted) name place matching reach =
    elim (or_cases (reaches asked filter (depth_of name)) (any_reaches asked granted (depth_of name)) reach) [
      | inl here ↦ or_left (matches filter name) (is_granted granted name)
          (reaches_name asked filter name place matching here)
      | inr more ↦ or_right (matches filter name) (is_granted granted name)
          (granted_name asked granted name place matching more)
    ]

-- the asked filter reaches the depth of each name that it matches
own_depth : (asked name : List ℕ) → matches asked name ≡ true
    → reaches_depth (fixed_part asked) (has_rest (levels_of asked)) (depth_of name) ≡ true
own_depth asked name matching =
    let own =
    and_parts (not (begins_wild (items_of (levels_of asked)) (has_rest (levels_of asked))
    && is_reserved name)) (match_items (items_of (levels_of asked)) (has_rest (levels_of asked))
    (levels_of name)) matching in
    reached (levels_of asked) (levels_of name) own.1

one_level : (levels : List (List ℕ)) → HasLevel levels → 1 ≤ length levels
one_level [] some = absurd some
one_level (level ∷ levels) some = omega arith

pub some_depth : (name : List ℕ) → 1 ≤ depth_of name
some_depth name = one_level (levels_of name) (some_level name)

-- a name has a byte: where the asked filter's first level is empty, no name of one level fits it
first_empty_by : (b : ℕ) (slash : Bool) → (b == 47) ≡ slash → (levels : List (List ℕ)) → slash ≡ true
    → (if slash then [] ∷ levels else lengthen b levels) ≡ [] ∷ levels
first_empty_by b true is levels empty = refl
first_empty_by b false is levels empty = let e : false ≡ true = empty in cc

abbrev BeginsEmpty : List (List ℕ) → Type 0
BeginsEmpty levels = (more : List (List ℕ)) × (levels ≡ [] ∷ more)

first_empty : (asked : List ℕ) → begins_empty asked ≡ true → BeginsEmpty (levels_of asked)
first_empty [] empty = ([], refl)
first_empty (b ∷ text) empty = (levels_of text, first_empty_by b (b == 47) refl (levels_of text) empty)

no_text : (more levels : List (List ℕ))
    → match_items (items_of ([] ∷ more)) (has_rest ([] ∷ more)) levels ≡ true → length levels ≡ 1
    → joined levels ≡ []
no_text more [] matching one = refl
no_text more (level ∷ []) matching one =
    let parts = and_parts (bytes_eq [] level) _ matching in
    let e : [] ≡ level = (bytes_eq-Decides [] level).0 parts.0 in rw (← e) refl
no_text more (level ∷ next ∷ levels) matching one = let bad : ⊥ = omega arith in absurd bad

no_name : (asked name : List ℕ) → is_name name ≡ true → matches asked name ≡ true
    → ((depth_of name == 1) && begins_empty asked) ≡ true → ⊥
no_name asked name is matching both =
    let parts = and_parts (depth_of name == 1) (begins_empty asked) both in
    let first = first_empty asked parts.1 in
    let own =
    and_parts (not (begins_wild (items_of (levels_of asked)) (has_rest (levels_of asked))
    && is_reserved name)) (match_items (items_of (levels_of asked)) (has_rest (levels_of asked))
    (levels_of name)) matching in
    let empty : joined (levels_of name) ≡ [] =
    no_text first.0 (levels_of name) (rw first.1 at own.1) (eqb-true (depth_of name) 1 parts.0) in
    let nothing : name ≡ [] = sym (joined_levels_of name) ∙ empty in
    let e : false ≡ true = rw nothing at is in cc

left_over : (own empty reached : Bool) → ((own && not empty) && not reached) ≡ false → own ≡ true
    → empty ≡ false → reached ≡ true
left_over own empty true is mine text = refl
left_over own empty false is mine text = let e : true ≡ false = rw (mine, text) at is in cc

-- at a depth that is not open, each name that the asked filter matches is granted
pub closed : (asked : List ℕ) (granted : List (List ℕ)) (name : List ℕ) → is_filter asked ≡ true
    → AreFilters granted → is_name name ≡ true → matches asked name ≡ true
    → is_open asked granted (depth_of name) ≡ false → is_granted granted name ≡ true
closed asked granted name filter are is matching shut =
    let left : is_left asked granted (depth_of name) ≡ false =
    sym (open_is_left asked granted (depth_of name) are (some_depth name)) ∙ shut in
    let own : reaches asked asked (depth_of name) ≡ true =
    and_from _ _ (fits_own asked) (own_depth asked name matching) in
    let text : ((depth_of name == 1) && begins_empty asked) ≡ false =
    false_from_ne_true _ (no_name asked name is matching) in
    granted_name asked granted name (filter_facts asked filter).3 matching (left_over _ _ _ left own text)

-- past every fixed part, only filters with `#` reach a depth, and they reach all that follow
rest_goes_on : (fixed : ℕ) (rest : Bool) (bound depth : ℕ) → fixed < bound → bound ≤ depth
    → reaches_depth fixed rest bound ≡ true → reaches_depth fixed rest depth ≡ true
rest_goes_on fixed true bound depth past before reach =
    let e : nat_lt depth fixed ≡ false = le-ltb depth fixed (omega arith) in rw e refl
rest_goes_on fixed false bound depth past before reach =
    let e : bound ≡ fixed = eqb-true bound fixed reach in let bad : ⊥ = omega arith in absurd bad

goes_on : (asked : List ℕ) (granted : List (List ℕ)) (bound depth : ℕ) → longest_fixed granted < bound
    → bound ≤ depth → any_reaches asked granted bound ≡ true → any_reaches asked granted depth ≡ true
goes_on asked [] bound depth past before reach = reach
goes_on asked (filter ∷ granted) bound depth past before reach =
    let longest : max (fixed_part filter) (longest_fixed granted) < bound = past in
    elim (or_cases (reaches asked filter bound) (any_reaches asked granted bound) reach) [
      | inl here ↦
          let parts =
          and_parts (fits asked filter)
          (reaches_depth (fixed_part filter) (has_rest (levels_of filter)) bound) here in
          or_left (reaches asked filter depth) (any_reaches asked granted depth)
          (and_from _ _ parts.0 (rest_goes_on (fixed_part filter) (has_rest (levels_of filter)) bound depth
          (omega arith) before parts.1))
      | inr more ↦ or_right (reaches asked filter depth) (any_reaches asked granted depth)
          (goes_on asked granted bound depth (omega arith) before more)
    ]

-- a depth past the fixed part is reached where a greater one is
reach_below : (fixed : ℕ) (rest : Bool) (bound depth : ℕ) → fixed < bound → bound ≤ depth
    → reaches_depth fixed rest depth ≡ true → reaches_depth fixed rest bound ≡ true
reach_below fixed true bound depth past before reach =
    let e : nat_lt bound fixed ≡ false = le-ltb bound fixed (omega arith) in rw e refl
reach_below fixed false bound depth past before reach =
    let e : depth ≡ fixed = eqb-true depth fixed reach in let bad : ⊥ = omega arith in absurd bad

some_fixed : (asked : List ℕ) → begins_empty asked ≡ true → 1 ≤ fixed_part asked
some_fixed asked empty = let first = first_empty asked empty in rw first.1 (omega arith)

pub past_all : (asked : List ℕ) (granted : List (List ℕ)) (name : List ℕ) (bound : ℕ) → is_filter asked ≡ true
    → AreFilters granted → is_name name ≡ true → matches asked name ≡ true
    → longest_fixed (asked ∷ granted) < bound → bound ≤ depth_of name → is_open asked granted bound ≡ false
    → is_granted granted name ≡ true
past_all asked granted name bound filter are is matching past before shut =
    let longest : max (fixed_part asked) (longest_fixed granted) < bound = past in
    let some : 1 ≤ bound = omega arith in
    let left : is_left asked granted bound ≡ false = sym (open_is_left asked granted bound are some) ∙ shut in
    let own : reaches asked asked bound ≡ true =
    and_from _ _ (fits_own asked)
    (reach_below (fixed_part asked) (has_rest (levels_of asked)) bound (depth_of name)
    (omega arith) before (own_depth asked name matching)) in
    let text : ((bound == 1) && begins_empty asked) ≡ false =
    false_from_ne_true _ (λ (both : ((bound == 1) && begins_empty asked) ≡ true).
    let parts = and_parts (bound == 1) (begins_empty asked) both in
    let one : bound ≡ 1 = eqb-true bound 1 parts.0 in
    let more : 1 ≤ fixed_part asked = some_fixed asked parts.1 in
    let bad : ⊥ = omega arith in bad) in
    granted_name asked granted name (filter_facts asked filter).3 matching
    (goes_on asked granted bound (depth_of name) (omega arith) before (left_over _ _ _ left own text))
