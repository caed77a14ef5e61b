-- For each depth one name, the candidate: it shows a gap where any name of that depth does (MQTT 3.1.1, 4.7).
use Rattle.std.specs.Prelude.{◌+◌, ℕ, zero, suc, Bool, false, ◌||◌, not, List, [], ◌∷◌, ◌++◌, if◌then◌else◌}
use Rattle.std.specs.Prelude.{Some, None}
use Rattle.std.specs.declared.option.Option.{Option}
use Rattle.std.specs.Str.{bytes_eq}
use Rattle.sng_text.specs.declared.limits.TheConstants.{MAX_FILTER}
use Rattle.sng_text.specs.Levels.{levels_of}
use Rattle.sng_text.specs.Texts.{is_plus, is_hash}
use Rattle.sng_cover.specs.Search.{least}

-- the levels that follow the first, each after its slash
abbrev pub further : List (List ℕ) → List ℕ
further [] = []
further (level ∷ levels) = 47 ∷ (level ++ further levels)

-- the text with these levels (4.7.1.1)
abbrev pub joined : List (List ℕ) → List ℕ
joined [] = []
joined (level ∷ levels) = level ++ further levels

-- so many times `x`, byte 120
abbrev pub run : ℕ → List ℕ
run zero = []
run (suc count) = 120 ∷ run count

-- the level is one of these
abbrev pub has_level : List ℕ → List (List ℕ) → Bool
has_level level [] = false
has_level level (other ∷ levels) = bytes_eq level other || has_level level levels

-- the level is one of a granted filter
abbrev pub is_taken : List (List ℕ) → List ℕ → Bool
is_taken [] level = false
is_taken (filter ∷ granted) level = has_level level (levels_of filter) || is_taken granted level

-- no level of a filter has more bytes than a filter, so a longer run is a level of none
abbrev pub run_of : Option ℕ → List ℕ
run_of None = run (MAX_FILTER + 1)
run_of (Some count) = run count

-- the shortest run of `x`, of at least one, that is no level of a granted filter
abbrev pub fresh_level : List (List ℕ) → List ℕ
fresh_level granted = run_of (least (λ count. not (is_taken granted (run count))) MAX_FILTER 1)

-- the level stands for others: `+` for one, `#` for all that follow
abbrev pub is_wild : List ℕ → Bool
is_wild level = is_plus level || is_hash level

-- the levels of the candidate of a depth: the asked filter's own at each place where it names one, the fresh
-- one elsewhere
abbrev pub candidate_levels : ℕ → List (List ℕ) → List ℕ → List (List ℕ)
candidate_levels zero asked fresh = []
candidate_levels (suc depth) [] fresh = fresh ∷ candidate_levels depth [] fresh
candidate_levels (suc depth) (level ∷ asked) fresh =
    (if is_wild level then fresh else level) ∷ candidate_levels depth asked fresh

-- the candidate of a depth, for the asked filter and the granted ones
abbrev pub candidate : List ℕ → List (List ℕ) → ℕ → List ℕ
candidate asked granted depth = joined (candidate_levels depth (levels_of asked) (fresh_level granted))
