-- The depths that some granted filter reaches, as they are kept.
use Rattle.std.specs.Prelude.{ℕ, Bool, true, false, ◌||◌, ◌==◌, not, nat_lt, List, [], ◌∷◌, Some, None}
use Rattle.std.specs.declared.option.Option.{Option}
use Rattle.sng_cover.specs.Marks.{is_marked}
use Rattle.sng_cover.specs.declared.depths.Reached.{Reached}

-- the depth is not before the one from which on a filter with `#` matches, where there is one
abbrev pub is_from : Option ℕ → ℕ → Bool
is_from None depth = false
is_from (Some from) depth = not (nat_lt depth from)

abbrev pub is_reached : Reached → ℕ → Bool
is_reached reached depth = is_marked reached.ends depth || is_from reached.rest_from depth

-- the filter's first level is empty
abbrev pub begins_empty : List ℕ → Bool
begins_empty [] = true
begins_empty (byte ∷ text) = byte == 47
