-- What a question of inclusion holds of the granted filters that were added to it, and what a profile holds
-- of them.
use Rattle.std.specs.Prelude.{ℕ, ◌≡◌, ◌+◌, ◌<◌, ◌≤◌, true, List}
use Rattle.std.specs.List.{All}
use Rattle.sng_text.specs.declared.limits.TheConstants.{MAX_FILTER}
use Rattle.sng_text.specs.Levels.{levels_of}
use Rattle.sng_text.specs.Matching.{has_rest}
use Rattle.sng_text.specs.Texts.{is_filter}
use Rattle.sng_cover.specs.Candidates.{run, is_taken}
use Rattle.sng_cover.specs.Covering.{fixed_part, longest_fixed}
use Rattle.sng_cover.specs.Marks.{is_marked}
use Rattle.sng_cover.specs.Reaches.{any_reaches}
use Rattle.sng_cover.specs.Reached.{is_reached}
use Rattle.sng_cover.specs.declared.marks.Marks.{Marks}
use Rattle.sng_cover.specs.declared.depths.Reached.{Reached}
use Rattle.sng_cover.specs.declared.profile.Profile.{Profile}
use Rattle.sng_cover.specs.declared.shape.Shape.{Shape}
use Rattle.sng_cover.specs.declared.question.Question.{Question}

-- the depths whose candidate one of these filters matches
pub record ReachedBy (reached : Reached) (asked : List ℕ) (granted : List (List ℕ)) : Type 0 where
  pub are : All (λ filter. is_filter filter ≡ true) granted
  pub depths : (depth : ℕ) → is_reached reached depth ≡ any_reaches asked granted depth

-- the lengths of the runs of `x` among their levels
abbrev pub AreRunsOf : Marks → List (List ℕ) → Type 0
AreRunsOf runs granted = (count : ℕ) → 1 ≤ count → is_marked runs count ≡ is_taken granted (run count)

-- what a gap depends on beside the asked filter and the depths that are reached
pub record IsProfile (profile : Profile) (granted : List (List ℕ)) : Type 0 where
  pub longest : profile.longest ≡ longest_fixed granted
  pub runs : AreRunsOf profile.runs granted

-- what is kept of a filter is its own
pub record IsShape (shape : Shape) (filter : List ℕ) : Type 0 where
  pub fixed : shape.fixed ≡ fixed_part filter
  pub few : shape.fixed < MAX_FILTER + 2
  pub has_rest : shape.has_rest ≡ has_rest (levels_of filter)

-- the question is whether the asked filter is included in these
pub record Gathered (question : Question) (asked : List ℕ) (granted : List (List ℕ)) : Type 0 where
  pub asked_is : question.asked.now ≡ asked
  pub filter : is_filter asked ≡ true
  pub own : IsShape question.own asked
  pub reached : ReachedBy question.reached asked granted
