-- A question after one more granted filter.
use Rattle.std.proofs.Common.{◌≡◌, ◌≤◌, ℕ, Bool, true, false, ◌||◌, max, List, [], ◌∷◌, ◌++◌, refl, arith}
use Rattle.std.specs.List.{All}
use Rattle.std.proofs.lemmas.List.Elements.{All-append, All-from_recursion}
use Rattle.sng_text.specs.Levels.{levels_of}
use Rattle.sng_text.specs.Texts.{is_filter}
use Rattle.sng_cover.specs.Candidates.{run, has_level, is_taken}
use Rattle.sng_cover.specs.Covering.{fixed_part, longest_fixed}
use Rattle.sng_cover.specs.Marks.{is_marked}
use Rattle.sng_cover.specs.Reaches.{any_reaches, reaches, shape_reaches, fits}
use Rattle.sng_cover.specs.Reached.{is_reached}
use Rattle.sng_cover.specs.Gathered.{ReachedBy, AreRunsOf, IsShape}
use Rattle.sng_cover.specs.declared.marks.Marks.{Marks}
use Rattle.sng_cover.specs.declared.shape.Shape.{Shape}
use Rattle.sng_cover.specs.declared.depths.Reached.{Reached}

swapped : (a b c : Bool) → (a || (b || c)) ≡ (b || (a || c))
swapped true true c = refl
swapped true false c = refl
swapped false b c = refl

any_reaches-one_more : (asked : List ℕ) (granted : List (List ℕ)) (filter : List ℕ) (depth : ℕ)
    → any_reaches asked (granted ++ filter ∷ []) depth
    ≡ (reaches asked filter depth || any_reaches asked granted depth)
any_reaches-one_more asked [] filter depth = refl
any_reaches-one_more asked (first ∷ granted) filter depth =
    rw (any_reaches-one_more asked granted filter depth)
    (swapped (reaches asked first depth) (reaches asked filter depth) (any_reaches asked granted depth))

is_taken-one_more : (granted : List (List ℕ)) (filter level : List ℕ)
    → is_taken (granted ++ filter ∷ []) level ≡ (has_level level (levels_of filter) || is_taken granted level)
is_taken-one_more [] filter level = refl
is_taken-one_more (first ∷ granted) filter level =
    rw (is_taken-one_more granted filter level)
    (swapped (has_level level (levels_of first)) (has_level level (levels_of filter))
    (is_taken granted level))

longest_fixed-one_more : (granted : List (List ℕ)) (filter : List ℕ)
    → longest_fixed (granted ++ filter ∷ []) ≡ max (fixed_part filter) (longest_fixed granted)
longest_fixed-one_more [] filter = refl
longest_fixed-one_more (first ∷ granted) filter =
    let more : longest_fixed (granted ++ filter ∷ []) ≡ max (fixed_part filter) (longest_fixed granted) =
    longest_fixed-one_more granted filter in
    omega arith

alone : (filter : List ℕ) → is_filter filter ≡ true → All (λ filter. is_filter filter ≡ true) (filter ∷ [])
alone filter is = All-from_recursion (λ (filter : List ℕ). is_filter filter ≡ true) (filter ∷ []) (is, tt)

-- one more filter that fits
pub reached_more : (asked filter : List ℕ) (granted : List (List ℕ)) (old new : Reached) (shape : Shape)
    → is_filter filter ≡ true
    → fits asked filter ≡ true → IsShape shape filter
    → ((depth : ℕ) → is_reached new depth ≡ (shape_reaches shape depth || is_reached old depth))
    → ReachedBy old asked granted → ReachedBy new asked (granted ++ filter ∷ [])
reached_more asked filter granted old new shape is fit own depths before = record {
  are =
      All-append (λ (filter : List ℕ). is_filter filter ≡ true) granted (filter ∷ []) before.are
      (alone filter is);
  depths =
      λ depth. rw (
        depths depth,
        own.fixed,
        own.has_rest,
        before.depths depth,
        any_reaches-one_more asked granted filter depth,
        fit,
      ) refl;
}

-- one more that does not
pub reached_same : (asked filter : List ℕ) (granted : List (List ℕ)) (old : Reached) → is_filter filter ≡ true
    → fits asked filter ≡ false
    → ReachedBy old asked granted → ReachedBy old asked (granted ++ filter ∷ [])
reached_same asked filter granted old is fit before = record {
  are =
      All-append (λ (filter : List ℕ). is_filter filter ≡ true) granted (filter ∷ []) before.are
      (alone filter is);
  depths = λ depth. rw (before.depths depth, any_reaches-one_more asked granted filter depth, fit) refl;
}

pub runs_more : (filter : List ℕ) (granted : List (List ℕ)) (old new : Marks)
    → ((count : ℕ) → 1 ≤ count → is_marked new count
    ≡ (has_level (run count) (levels_of filter) || is_marked old count)) → AreRunsOf old granted
    → AreRunsOf new (granted ++ filter ∷ [])
runs_more filter granted old new marked before count some =
    rw (marked count some, before count some, is_taken-one_more granted filter (run count)) refl

pub longest_more : (filter : List ℕ) (granted : List (List ℕ)) (fixed longest : ℕ) → fixed ≡ fixed_part filter
    → longest ≡ longest_fixed granted
    → max fixed longest ≡ longest_fixed (granted ++ filter ∷ [])
longest_more filter granted fixed longest is before =
    rw (is, before, longest_fixed-one_more granted filter) refl
