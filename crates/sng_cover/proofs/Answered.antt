-- What is answered on inclusion is right, and nothing else is.
use Rattle.std.proofs.Common.{◌≡◌, ◌≤◌, ◌<◌, ◌+◌, ◌↔◌, ℕ, zero, suc, true, false, not, List, [], ◌∷◌, length}
use Rattle.std.proofs.Common.{refl, ap, ◌∙◌, sym, subst, arith, Some, None, inl, inr}
use Rattle.std.specs.declared.option.Option.{Option}
use Rattle.std.specs.Str.{bytes_eq}
use Rattle.std.proofs.lemmas.Bool.{and_parts, both_ways, not-true, cases_lt, cases_order}
use Rattle.sng_text.specs.declared.limits.TheConstants.{MAX_FILTER}
use Rattle.sng_text.specs.Levels.{levels_of}
use Rattle.sng_text.specs.Texts.{is_filter, is_name}
use Rattle.sng_text.specs.Matching.{matches}
use Rattle.sng_cover.specs.Inclusion.{is_granted, shows_gap, Included}
use Rattle.sng_cover.specs.Candidates.{joined, run, is_taken, candidate_levels, candidate, fresh_level}
use Rattle.sng_cover.specs.Covering.{is_open, fixed_part, longest_fixed, gap_depth, answer_at}
use Rattle.sng_cover.specs.Gaps.{depth_of, IsShortest, IsGap, IsRight}
use Rattle.sng_cover.specs.declared.answer.Cover.{Cover}
use Rattle.sng_cover.specs.declared.answer.Cover.TheVariants as answers
use Rattle.sng_cover.proofs.Joining.{joined_levels_of}
use Rattle.sng_cover.proofs.Least.{Searched, searched, least_found, least_never}
use Rattle.sng_cover.proofs.Filters.{AreFilters, few_of}
use Rattle.sng_cover.proofs.Fresh.{fresh_is}
use Rattle.sng_cover.proofs.Named.{candidate_is_name, length_candidate}
use Rattle.sng_cover.proofs.Opened.{levels_of_candidate}
use Rattle.sng_cover.proofs.Right.{closed, past_all, some_depth}

shows_parts : (asked : List ℕ) (granted : List (List ℕ)) (name : List ℕ) → shows_gap asked granted name ≡ true
    → (matches asked name ≡ true) × (is_granted granted name ≡ false)
shows_parts asked granted name shows =
    let parts = and_parts (matches asked name) (not (is_granted granted name)) shows in
    (parts.0, not-true (is_granted granted name) parts.1)

-- the most levels before `#`
pub longest_few : (filters : List (List ℕ)) → AreFilters filters → longest_fixed filters ≤ (MAX_FILTER + 1)
longest_few [] are = omega arith
longest_few (filter ∷ filters) are =
    let here : fixed_part filter < (MAX_FILTER + 2) = few_of filter are.0 in
    let more : longest_fixed filters ≤ (MAX_FILTER + 1) = longest_few filters are.1 in omega arith

-- nothing is open: every name is granted
included : (asked : List ℕ) (granted : List (List ℕ)) → is_filter asked ≡ true → AreFilters granted
    → Searched (is_open asked granted) (suc (longest_fixed (asked ∷ granted))) 1 None → Included asked granted
included asked granted filter are none name is matching =
    let bound = suc (longest_fixed (asked ∷ granted)) in
    elim (cases_lt (depth_of name) (suc bound)) [
      | inl within ↦ closed asked granted name filter are is matching
          (none (depth_of name) (some_depth name) (omega arith))
      | inr past ↦ past_all asked granted name bound filter are is matching (omega arith) (omega arith)
          (none bound (omega arith) (omega arith))
    ]

-- the levels of the candidate, and how many they are
candidate_facts : (asked : List ℕ) (granted : List (List ℕ)) (depth count : ℕ) → 1 ≤ depth
    → fresh_level granted ≡ run count
    → (levels_of (candidate asked granted depth) ≡ candidate_levels depth (levels_of asked) (run count))
    × (depth_of (candidate asked granted depth) ≡ depth)
candidate_facts asked granted zero count some fresh = let bad : ⊥ = omega arith in absurd bad
candidate_facts asked granted (suc depth) count some fresh =
    let levels : levels_of (candidate asked granted (suc depth))
    ≡ candidate_levels (suc depth) (levels_of asked) (run count) =
    rw fresh (levels_of_candidate asked depth count) in
    (levels, ap length levels ∙ length_candidate (suc depth) (levels_of asked) (run count))

-- no name that shows a gap has fewer levels
least_by : (asked : List ℕ) (granted : List (List ℕ)) (depth : ℕ) (other : List ℕ) → is_filter asked ≡ true
    → AreFilters granted
    → ((less : ℕ) → 1 ≤ less → less < depth → is_open asked granted less ≡ false) → is_name other ≡ true
    → shows_gap asked granted other ≡ true → depth ≤ depth_of other
least_by asked granted depth other filter are shut is shows =
    let parts = shows_parts asked granted other shows in
    elim (cases_lt (depth_of other) depth) [
      | inl less ↦
          let granted_is : is_granted granted other ≡ true =
          closed asked granted other filter are is parts.0
          (shut (depth_of other) (some_depth other) less) in
          absurd (both_ways (is_granted granted other) parts.1 granted_is)
      | inr most ↦ most
    ]

-- the first open candidate is the gap
pub first_is_gap : (asked : List ℕ) (granted : List (List ℕ)) (depth : ℕ) → is_filter asked ≡ true
    → AreFilters granted
    → Searched (is_open asked granted) (suc (longest_fixed (asked ∷ granted))) 1 (Some depth)
    → IsGap asked granted (candidate asked granted depth)
first_is_gap asked granted depth filter are found =
    let some : 1 ≤ depth = found.0 in
    let below : depth < 1 + suc (longest_fixed (asked ∷ granted)) = found.1 in
    let few : longest_fixed (asked ∷ granted) ≤ (MAX_FILTER + 1) =
    longest_few (asked ∷ granted) (filter, are) in
    let fresh = fresh_is granted are in
    let is : fresh_level granted ≡ run fresh.0 = fresh.1.2 in
    let facts = candidate_facts asked granted depth fresh.0 some is in
    let opened =
    and_parts (not (bytes_eq (candidate asked granted depth) []))
    (shows_gap asked granted (candidate asked granted depth)) found.2 in
    let text : bytes_eq (joined (candidate_levels depth (levels_of asked) (run fresh.0))) [] ≡ false =
    rw is at (not-true (bytes_eq (candidate asked granted depth) []) opened.0) in
    let named : is_name (candidate asked granted depth) ≡ true =
    rw is (candidate_is_name asked depth fresh.0 filter (omega arith) fresh.1.1 text) in (
      named,
      opened.1,
      λ other other_is other_shows. rw facts.1
          (least_by asked granted depth other filter are found.3 other_is other_shows),
      (
        fresh.0,
        (
          fresh.1.0,
          facts.0
              ∙ ap (λ (levels : ℕ). candidate_levels levels (levels_of asked) (run fresh.0)) (sym facts.1),
        ),
      ),
    )

-- there is one gap at most
same_count : (granted : List (List ℕ)) (a b : ℕ) → IsShortest granted a → IsShortest granted b → a ≡ b
same_count granted a b short other =
    elim (cases_order a b) [
      | inl same ↦ same
      | inr differ ↦ elim differ [
        | inl less ↦ absurd (both_ways (is_taken granted (run a)) short.1 (other.2 a short.0 less))
        | inr more ↦ absurd (both_ways (is_taken granted (run b)) other.1 (short.2 b other.0 more))
      ]
    ]

pub same_gap : (asked : List ℕ) (granted : List (List ℕ)) (a b : List ℕ) → IsGap asked granted a
    → IsGap asked granted b → a ≡ b
same_gap asked granted a b gap other =
    let down : depth_of a ≤ depth_of b = gap.2 b other.0 other.1 in
    let up : depth_of b ≤ depth_of a = other.2 a gap.0 gap.1 in
    let depths : depth_of a ≡ depth_of b = omega arith in
    let counts : gap.3.0 ≡ other.3.0 = same_count granted gap.3.0 other.3.0 gap.3.1.0 other.3.1.0 in
    let levels : levels_of a ≡ levels_of b =
    gap.3.1.1
    ∙ (ap (λ (depth : ℕ). candidate_levels depth (levels_of asked) (run gap.3.0)) depths
    ∙ (ap (λ (count : ℕ). candidate_levels (depth_of b) (levels_of asked) (run count)) counts
    ∙ sym other.3.1.1)) in
    sym (joined_levels_of a) ∙ (ap joined levels ∙ joined_levels_of b)

-- what a search by the depths left finds
pub found_depth : (asked : List ℕ) (granted : List (List ℕ)) (depth : ℕ) → is_filter asked ≡ true
    → AreFilters granted → 1 ≤ depth → depth < 1 + suc (longest_fixed (asked ∷ granted))
    → is_open asked granted depth ≡ true
    → ((less : ℕ) → 1 ≤ less → less < depth → is_open asked granted less ≡ false)
    → (gap_depth asked granted ≡ Some depth) × (is_name (candidate asked granted depth) ≡ true)
found_depth asked granted depth filter are some below opened shut = (
  least_found (is_open asked granted) (suc (longest_fixed (asked ∷ granted))) 1 depth some below opened shut,
  (first_is_gap asked granted depth filter are (some, below, opened, shut)).0,
)

pub no_depth : (asked : List ℕ) (granted : List (List ℕ))
    → ((less : ℕ) → 1 ≤ less → less < 1 + suc (longest_fixed (asked ∷ granted))
    → is_open asked granted less ≡ false)
    → gap_depth asked granted ≡ None
no_depth asked granted shut =
    least_never (is_open asked granted) (suc (longest_fixed (asked ∷ granted))) 1 shut

-- the name in an answer
name_in : Cover → List ℕ
name_in answers.Included = []
name_in (answers.Uncovered name) = name

abbrev RightAt : List ℕ → List (List ℕ) → Cover → Type 0
RightAt asked granted answer =
    ((answer ≡ answers.Included) ↔ Included asked granted)
    × ((name : List ℕ) → (answer ≡ answers.Uncovered name) ↔ IsGap asked granted name)

-- a gap and inclusion exclude each other
not_both : (asked : List ℕ) (granted : List (List ℕ)) (name : List ℕ) → Included asked granted
    → IsGap asked granted name → ⊥
not_both asked granted name all gap =
    let parts = shows_parts asked granted name gap.1 in
    both_ways (is_granted granted name) parts.1 (all name gap.0 parts.0)

right_by : (asked : List ℕ) (granted : List (List ℕ)) → is_filter asked ≡ true → AreFilters granted
    → (found : Option ℕ) → Searched (is_open asked granted) (suc (longest_fixed (asked ∷ granted))) 1 found
    → RightAt asked granted (answer_at asked granted found)
unfolding name_in
right_by asked granted filter are None none =
    let all : Included asked granted = included asked granted filter are none in (
      (λ is. all, λ _. refl),
      λ name. (
        λ (is : answers.Included ≡ answers.Uncovered name). cc,
        λ gap. absurd (not_both asked granted name all gap),
      ),
    )
right_by asked granted filter are (Some depth) found =
    let gap : IsGap asked granted (candidate asked granted depth) =
    first_is_gap asked granted depth filter are found in (
      (
        λ (is : answers.Uncovered (candidate asked granted depth) ≡ answers.Included). cc,
        λ all. absurd (not_both asked granted (candidate asked granted depth) all gap),
      ),
      λ name. (
        λ is. subst (λ (other : List ℕ). IsGap asked granted other) (ap name_in is) gap,
        λ other. ap answers.Uncovered (same_gap asked granted (candidate asked granted depth) name gap other),
      ),
    )

pub right : (asked : List ℕ) (granted : List (List ℕ)) → is_filter asked ≡ true → AreFilters granted
    → IsRight asked granted
right asked granted filter are =
    right_by asked granted filter are (gap_depth asked granted)
    (searched (is_open asked granted) (suc (longest_fixed (asked ∷ granted))) 1)
