-- The levels with which two texts begin alike, and what is left of each behind them.
use Rattle.std.specs.Prelude.{ℕ, ◌≡◌, Bool, false, List, [], ◌∷◌, ◌++◌}
use Rattle.std.specs.Str.{bytes_eq}

-- both begin with the same level
abbrev pub begin_alike : List (List ℕ) → List (List ℕ) → Bool
begin_alike [] others = false
begin_alike (level ∷ levels) [] = false
begin_alike (level ∷ levels) (other ∷ others) = bytes_eq level other

-- there is a first level, and it passes the test
abbrev pub first_is : (List ℕ → Bool) → List (List ℕ) → Bool
first_is passes [] = false
first_is passes (level ∷ levels) = passes level

-- of these levels and of those, these and those are left behind the ones with which both begin
pub record AreLeft (levels others left right : List (List ℕ)) : Type 0 where
  pub common : List (List ℕ)
  pub levels_are : levels ≡ common ++ left
  pub others_are : others ≡ common ++ right
  pub differ : begin_alike left right ≡ false
