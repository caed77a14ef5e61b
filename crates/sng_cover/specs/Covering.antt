-- The answer on inclusion: included, or the candidate of the least depth that shows a gap.
use Rattle.std.specs.Prelude.{ℕ, suc, max, Bool, ◌&&◌, not, List, [], ◌∷◌, length, Some, None}
use Rattle.std.specs.declared.option.Option.{Option}
use Rattle.std.specs.Str.{bytes_eq}
use Rattle.sng_text.specs.Levels.{levels_of}
use Rattle.sng_text.specs.Matching.{items_of}
use Rattle.sng_cover.specs.Search.{least}
use Rattle.sng_cover.specs.Inclusion.{shows_gap}
use Rattle.sng_cover.specs.Candidates.{candidate}
use Rattle.sng_cover.specs.declared.answer.Cover.{Cover}
use Rattle.sng_cover.specs.declared.answer.Cover.TheVariants.{Included, Uncovered}

-- the candidate of the depth has a text, as each name has (4.7.3), and shows a gap
abbrev pub is_open : List ℕ → List (List ℕ) → ℕ → Bool
is_open asked granted depth =
    let name = candidate asked granted depth in not (bytes_eq name []) && shows_gap asked granted name

-- how many levels a filter has before its `#`, where it has one
abbrev pub fixed_part : List ℕ → ℕ
fixed_part filter = length (items_of (levels_of filter))

-- the most that one of the filters has
abbrev pub longest_fixed : List (List ℕ) → ℕ
longest_fixed [] = 0
longest_fixed (filter ∷ filters) = max (fixed_part filter) (longest_fixed filters)

-- the least depth with an open candidate; past one level more than the longest fixed part nothing new can
-- come
abbrev pub gap_depth : List ℕ → List (List ℕ) → Option ℕ
gap_depth asked granted = least (is_open asked granted) (suc (longest_fixed (asked ∷ granted))) 1

abbrev pub answer_at : List ℕ → List (List ℕ) → Option ℕ → Cover
answer_at asked granted None = Included
answer_at asked granted (Some depth) = Uncovered (candidate asked granted depth)

-- whether every name that the asked filter matches is matched by a granted one, else the gap
abbrev pub cover_of : List ℕ → List (List ℕ) → Cover
cover_of asked granted = answer_at asked granted (gap_depth asked granted)
