-- Which candidates one granted filter matches, read off the two filters alone.
use Rattle.std.specs.Prelude.{ℕ, Bool, true, false, ◌==◌, ◌&&◌, ◌||◌, not, nat_lt, List, [], ◌∷◌}
use Rattle.std.specs.Prelude.{if◌then◌else◌}
use Rattle.std.specs.Str.{bytes_eq}
use Rattle.sng_text.specs.Levels.{levels_of}
use Rattle.sng_text.specs.Texts.{is_plus, is_hash}
use Rattle.sng_text.specs.Matching.{items_of, has_rest, begins_wild, is_reserved}
use Rattle.sng_cover.specs.Covering.{fixed_part}
use Rattle.sng_cover.specs.declared.shape.Shape.{Shape}

-- the first of the levels is this one
abbrev pub begins_with : List ℕ → List (List ℕ) → Bool
begins_with level [] = false
begins_with level (other ∷ levels) = bytes_eq level other

-- all levels but the first
abbrev pub after_first : List (List ℕ) → List (List ℕ)
after_first [] = []
after_first (level ∷ levels) = levels

-- the levels of the granted filter, up to its `#`, fit the candidates: each is `+` or the asked filter's own
abbrev pub fits_levels : List (List ℕ) → List (List ℕ) → Bool
fits_levels asked [] = true
fits_levels asked (level ∷ granted) =
    is_hash level || ((is_plus level || begins_with level asked) && fits_levels (after_first asked) granted)

-- a granted filter with a wildcard first keeps off names that begin with `$`, as the asked filter's may
abbrev pub keeps_off : List ℕ → List ℕ → Bool
keeps_off asked granted = begins_wild (items_of (levels_of granted)) (has_rest (levels_of granted))
    && is_reserved asked

-- a filter of so many levels, and a rest or not, reaches the depth
abbrev pub reaches_depth : ℕ → Bool → ℕ → Bool
reaches_depth fixed rest depth = if rest then not (nat_lt depth fixed) else depth == fixed

abbrev pub fits : List ℕ → List ℕ → Bool
fits asked granted = not (keeps_off asked granted) && fits_levels (levels_of asked) (levels_of granted)

-- the granted filter matches the asked filter's candidate of the depth
abbrev pub reaches : List ℕ → List ℕ → ℕ → Bool
reaches asked granted depth = fits asked granted
    && reaches_depth (fixed_part granted) (has_rest (levels_of granted)) depth

-- some granted filter does
abbrev pub any_reaches : List ℕ → List (List ℕ) → ℕ → Bool
any_reaches asked [] depth = false
any_reaches asked (filter ∷ granted) depth = reaches asked filter depth || any_reaches asked granted depth

-- a filter of this shape reaches the depth
abbrev pub shape_reaches : Shape → ℕ → Bool
shape_reaches shape depth = reaches_depth shape.fixed shape.has_rest depth
