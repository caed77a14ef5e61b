-- What is right of an answer on inclusion, in the words of MQTT 3.1.1, 4.7.
use Rattle.std.specs.Prelude.{ℕ, ◌≡◌, ◌≤◌, ◌<◌, ◌↔◌, true, false, List, length}
use Rattle.std.specs.List.{All}
use Rattle.sng_text.specs.Levels.{levels_of}
use Rattle.sng_text.specs.Texts.{is_name, is_filter}
use Rattle.sng_cover.specs.Inclusion.{Included, shows_gap}
use Rattle.sng_cover.specs.Candidates.{run, is_taken, candidate_levels}
use Rattle.sng_cover.specs.Covering.{cover_of}
use Rattle.sng_cover.specs.declared.answer.Cover.TheVariants as answers

-- the depth of a name is the number of its levels
abbrev pub depth_of : List ℕ → ℕ
depth_of name = length (levels_of name)

-- so many `x` are the shortest run that is no level of a granted filter
abbrev pub IsShortest : List (List ℕ) → ℕ → Type 0
IsShortest granted count =
    (1 ≤ count) × (is_taken granted (run count) ≡ false)
    × ((less : ℕ) → 1 ≤ less → less < count → is_taken granted (run less) ≡ true)

-- the gap: a name that shows one, of the least depth, with the asked filter's literal at each literal place
-- and the shortest run of `x` that is no level of a granted filter at every other place
abbrev pub IsGap : List ℕ → List (List ℕ) → List ℕ → Type 0
IsGap asked granted name =
    (is_name name ≡ true)
    × (shows_gap asked granted name ≡ true)
    × ((other : List ℕ) → is_name other ≡ true → shows_gap asked granted other ≡ true
    → depth_of name ≤ depth_of other)
    × ((count : ℕ) × (IsShortest granted count
    × (levels_of name ≡ candidate_levels (depth_of name) (levels_of asked) (run count))))

-- the filters that an answer speaks of
abbrev pub AreFilters : List ℕ → List (List ℕ) → Type 0
AreFilters asked granted = (is_filter asked ≡ true) × All (λ filter. is_filter filter ≡ true) granted

-- included is answered exactly where it holds, and a name exactly where it is the gap
abbrev pub IsRight : List ℕ → List (List ℕ) → Type 0
IsRight asked granted =
    ((cover_of asked granted ≡ answers.Included) ↔ Included asked granted)
    × ((name : List ℕ) → (cover_of asked granted ≡ answers.Uncovered name) ↔ IsGap asked granted name)
