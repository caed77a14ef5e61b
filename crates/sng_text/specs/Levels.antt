-- The levels of a text (MQTT 3.1.1, 4.7.1.1): the parts between its slashes, empty ones included.
use Rattle.std.specs.Prelude.{ℕ, ◌==◌, List, [], ◌∷◌, if◌then◌else◌, Some, None}
use Rattle.std.specs.declared.option.Option.{Option}
use Rattle.std.specs.Borrow.{Bor}

-- a byte joins the first level
abbrev pub lengthen : ℕ → List (List ℕ) → List (List ℕ)
lengthen b [] = (b ∷ []) ∷ []
lengthen b (level ∷ levels) = (b ∷ level) ∷ levels

-- a text with no slash, an empty one too, is its own only level; 47 is the slash
abbrev pub levels_of : List ℕ → List (List ℕ)
levels_of [] = [] ∷ []
levels_of (b ∷ text) = if b == 47 then [] ∷ levels_of text else lengthen b (levels_of text)

-- the levels of what may be left of a text
abbrev pub levels_left : Option (Bor (List ℕ)) → List (List ℕ)
levels_left None = []
levels_left (Some text) = levels_of text.now
