-- The candidate of a depth is open exactly where the asked filter reaches the depth, no granted one does, and
-- it has a text.
use Rattle.std.proofs.Common.{◌≡◌, ◌≤◌, ◌==◌, ℕ, zero, suc, Bool, true, false, not, ◌||◌, ◌&&◌, List, [], ◌∷◌}
use Rattle.std.proofs.Common.{length, refl, ap, ◌∙◌, sym, arith, if◌then◌else◌, rules, tests}
use Rattle.std.specs.Str.{bytes_eq}
use Rattle.std.proofs.lemmas.Bool.{or_parts, and_right}
use Rattle.sng_text.specs.Levels.{levels_of, lengthen}
use Rattle.sng_text.specs.Texts.{is_plus, is_hash}
use Rattle.sng_text.specs.Matching.{has_rest, matches}
use Rattle.sng_cover.specs.Inclusion.{is_granted}
use Rattle.sng_cover.specs.Candidates.{joined, run, has_level, is_taken, is_wild, candidate_levels}
use Rattle.sng_cover.specs.Candidates.{fresh_level}
use Rattle.sng_cover.specs.Covering.{is_open, fixed_part}
use Rattle.sng_cover.specs.Reaches.{fits, fits_levels, keeps_off, reaches, any_reaches, after_first}
use Rattle.sng_cover.specs.Reaches.{shape_reaches}
use Rattle.sng_cover.specs.declared.shape.Shape.{Shape}
use Rattle.sng_cover.specs.Reached.{begins_empty}
use Rattle.sng_cover.proofs.Joining.{levels_of_joined}
use Rattle.sng_cover.proofs.Matched.{matched, matches_own, place, first_place, and_assoc, bytes_eq_refl}
use Rattle.sng_cover.proofs.Reserved.{candidate_reserved, own_reserved}
use Rattle.sng_cover.specs.Gaps.{IsShortest}
use Rattle.sng_cover.proofs.Fresh.{fresh_is}
use Rattle.sng_cover.proofs.Filters.{AreFilters}
use Rattle.sng_cover.proofs.Named.{candidate_lacks_slash, length_candidate}

-- the levels of a candidate are as it was made
pub levels_of_candidate : (asked : List ℕ) (depth count : ℕ)
    → levels_of (joined (candidate_levels (suc depth) (levels_of asked) (run count)))
    ≡ candidate_levels (suc depth) (levels_of asked) (run count)
levels_of_candidate asked depth count =
    let lacks =
    rw (first_place depth (levels_of asked) (run count)) at
    (candidate_lacks_slash asked (suc depth) count) in
    rw (first_place depth (levels_of asked) (run count))
    (levels_of_joined (place (levels_of asked) (run count)) _ lacks)

-- a granted filter matches the candidates that it reaches
pub matches_candidate : (asked filter : List ℕ) (depth count : ℕ)
    → has_level (run (suc count)) (levels_of filter) ≡ false
    → matches filter (joined (candidate_levels (suc depth) (levels_of asked) (run (suc count))))
    ≡ reaches asked filter (suc depth)
matches_candidate asked filter depth count new =
    rw (
      levels_of_candidate asked depth (suc count),
      candidate_reserved asked (run (suc count)) depth refl,
      matched (levels_of filter) (levels_of asked) (run (suc count)) (suc depth) new,
    )
    (and_assoc (not (keeps_off asked filter)) (fits_levels (levels_of asked) (levels_of filter)) _)

pub granted_candidate : (asked : List ℕ) (granted : List (List ℕ)) (depth count : ℕ)
    → is_taken granted (run (suc count)) ≡ false
    → is_granted granted (joined (candidate_levels (suc depth) (levels_of asked) (run (suc count))))
    ≡ any_reaches asked granted (suc depth)
granted_candidate asked [] depth count new = refl
granted_candidate asked (filter ∷ granted) depth count new =
    let parts =
    or_parts (has_level (run (suc count)) (levels_of filter)) (is_taken granted (run (suc count))) new in
    let here = matches_candidate asked filter depth count parts.0 in
    let more = granted_candidate asked granted depth count parts.1 in
    rw (here, more) refl

-- the asked filter fits its own candidates
always : (a b : Bool) → (a || ((b || true) && true)) ≡ true
always true b = refl
always false true = refl
always false false = refl

fits_itself : (levels : List (List ℕ)) → fits_levels levels levels ≡ true
fits_itself [] = refl
fits_itself (level ∷ levels) =
    rw (bytes_eq_refl level, fits_itself levels) (always (is_hash level) (is_plus level))

pub fits_own : (asked : List ℕ) → fits asked asked ≡ true
fits_own asked = rw (own_reserved asked, fits_itself (levels_of asked)) refl

pub own_candidate : (asked : List ℕ) (depth count : ℕ)
    → matches asked (joined (candidate_levels (suc depth) (levels_of asked) (run (suc count))))
    ≡ reaches asked asked (suc depth)
own_candidate asked depth count =
    rw (
      levels_of_candidate asked depth (suc count),
      candidate_reserved asked (run (suc count)) depth refl,
      own_reserved asked,
      matches_own (levels_of asked) (run (suc count)) (suc depth),
      fits_itself (levels_of asked),
    ) refl

-- the candidate has no text where it has one level, the asked filter's own, which is empty
empty_joined : (level : List ℕ) (levels : List (List ℕ))
    → bytes_eq (joined (level ∷ levels)) [] ≡ ((length (level ∷ levels) == 1) && bytes_eq level [])
empty_joined [] [] = refl
empty_joined [] (next ∷ levels) = search (rules, tests)
empty_joined (b ∷ level) levels = sym (and_right _ false refl)

some_by : (level : List ℕ) (b : ℕ) (count : ℕ) (wild : Bool)
    → bytes_eq (if wild then run (suc count) else b ∷ level) [] ≡ false
some_by level b count true = refl
some_by level b count false = refl

some_place : (b count : ℕ) (levels : List (List ℕ))
    → bytes_eq (place (lengthen b levels) (run (suc count))) [] ≡ false
some_place b count [] = some_by [] b count (is_wild (b ∷ []))
some_place b count (level ∷ levels) = some_by level b count (is_wild (b ∷ level))

empty_by : (b count : ℕ) (slash : Bool) (levels : List (List ℕ))
    → bytes_eq (place (if slash then [] ∷ levels else lengthen b levels) (run (suc count))) [] ≡ slash
empty_by b count true levels = refl
empty_by b count false levels = some_place b count levels

-- the first level of a candidate is empty where the asked filter's is
empty_place : (asked : List ℕ) (count : ℕ)
    → bytes_eq (place (levels_of asked) (run (suc count))) [] ≡ begins_empty asked
empty_place [] count = refl
empty_place (b ∷ text) count = empty_by b count (b == 47) (levels_of text)

empty_candidate : (asked : List ℕ) (depth count : ℕ)
    → bytes_eq (joined (candidate_levels (suc depth) (levels_of asked) (run (suc count)))) []
    ≡ ((suc depth == 1) && begins_empty asked)
empty_candidate asked depth count =
    let first = first_place depth (levels_of asked) (run (suc count)) in
    let size : length (place (levels_of asked) (run (suc count))
    ∷ candidate_levels depth (after_first (levels_of asked)) (run (suc count))) ≡ suc depth =
    ap length (sym first) ∙ length_candidate (suc depth) (levels_of asked) (run (suc count)) in
    rw first (empty_joined (place (levels_of asked) (run (suc count))) _
    ∙ rw (size, empty_place asked count) refl)

-- what the test of a depth comes to
abbrev pub is_left : List ℕ → List (List ℕ) → ℕ → Bool
is_left asked granted depth =
    (reaches asked asked depth && not ((depth == 1) && begins_empty asked))
    && not (any_reaches asked granted depth)

turned : (empty own reached : Bool)
    → (not empty && (own && not reached)) ≡ ((own && not empty) && not reached)
turned true true reached = refl
turned true false reached = refl
turned false true reached = refl
turned false false reached = refl

left_by : (asked : List ℕ) (granted : List (List ℕ)) (depth count : ℕ)
    → is_taken granted (run (suc count)) ≡ false → fresh_level granted ≡ run (suc count)
    → is_open asked granted (suc depth) ≡ is_left asked granted (suc depth)
left_by asked granted depth count new fresh =
    rw (
      fresh,
      empty_candidate asked depth count,
      own_candidate asked depth count,
      granted_candidate asked granted depth count new,
    )
    (turned ((suc depth == 1) && begins_empty asked) (reaches asked asked (suc depth))
    (any_reaches asked granted (suc depth)))

left_from : (asked : List ℕ) (granted : List (List ℕ)) (depth count : ℕ) → 1 ≤ depth
    → IsShortest granted count → fresh_level granted ≡ run count
    → is_open asked granted depth ≡ is_left asked granted depth
left_from asked granted zero count some short fresh = let bad : ⊥ = omega arith in absurd bad
left_from asked granted (suc depth) zero some short fresh =
    let one_or_more : 1 ≤ 0 = short.0 in let bad : ⊥ = omega arith in absurd bad
left_from asked granted (suc depth) (suc count) some short fresh =
    left_by asked granted depth count short.1 fresh

-- a depth is open exactly where it is left
pub open_is_left : (asked : List ℕ) (granted : List (List ℕ)) (depth : ℕ) → AreFilters granted → 1 ≤ depth
    → is_open asked granted depth ≡ is_left asked granted depth
open_is_left asked granted depth are some =
    let fresh = fresh_is granted are in left_from asked granted depth fresh.0 some fresh.1.0 fresh.1.2

-- the same by the shape of the asked filter
pub kept_is_open : (asked : List ℕ) (granted : List (List ℕ)) (own : Shape) (reached : Bool) (depth : ℕ)
    → AreFilters granted → 1 ≤ depth
    → own.fixed ≡ fixed_part asked → own.has_rest ≡ has_rest (levels_of asked)
    → reached ≡ any_reaches asked granted depth
    → ((shape_reaches own depth && not ((depth == 1) && begins_empty asked)) && not reached)
    ≡ is_open asked granted depth
kept_is_open asked granted own reached depth are some fixed rest any =
    rw (fixed, rest, any) (sym (open_is_left asked granted depth are some ∙ rw (fits_own asked) refl))
