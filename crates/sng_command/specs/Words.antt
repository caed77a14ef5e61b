-- The words of the command line of `sng cover`.
use Rattle.std.specs.Prelude.{ℕ, Bool, List, drop, remove, position, codes}
use Rattle.std.specs.Prelude.{Option, Some, None}
use Rattle.std.specs.Str.{bytes_eq}

-- `--`, behind which a word that begins with a dash is no option
abbrev pub is_escape : List ℕ → Bool
is_escape word = bytes_eq word (codes "--")

abbrev pub without_place : Option ℕ → List (List ℕ) → List (List ℕ)
without_place None words = words
without_place (Some at) words = remove words at

-- the words without the first `--` among them
abbrev pub without_escape : List (List ℕ) → List (List ℕ)
without_escape words = without_place (position is_escape words) words

-- the filters: all words but the program's name, `cover` and the first `--` behind them
abbrev pub filters_of : List (List ℕ) → List (List ℕ)
filters_of words = without_escape (drop 2 words)
