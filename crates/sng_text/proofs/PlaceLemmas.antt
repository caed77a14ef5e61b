-- Whether wildcards are in place, level by level.
use Rattle.std.proofs.Common.{ℕ, Bool, true, false, List, [], ◌∷◌}
use Rattle.sng_text.specs.Texts.{is_in_place}

-- whether the levels may follow, where a `#` was among those before or not
abbrev pub goes_on : Bool → List (List ℕ) → Bool
goes_on true [] = true
goes_on true (level ∷ levels) = false
goes_on false levels = is_in_place levels
