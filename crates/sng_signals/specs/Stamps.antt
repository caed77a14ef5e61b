-- A time with signs between its parts.
use Rattle.std.specs.Prelude.{ℕ, ◌++◌, List, take, drop}

-- what stands at these places: so many behind the first so many
abbrev pub part : ℕ → ℕ → List ℕ → List ℕ
part from count text = take count (drop from text)

-- the time without the signs
abbrev pub digits_of : List ℕ → List ℕ
digits_of text = part 0 4 text ++ part 5 2 text ++ part 8 5 text ++ part 14 2 text ++ part 17 3 text

-- the signs
abbrev pub signs_of : List ℕ → List ℕ
signs_of text = part 4 1 text ++ part 7 1 text ++ part 13 1 text ++ part 16 1 text
