-- The two ways in which the bytes of a text are kept.
use Rattle.std.specs.Prelude.{◌≡◌, ℕ, ◌<◌, ◌≤◌, List, take, slice_index, vec_len}
use Rattle.std.specs.Int.{w128, from_be_bytes}
use Rattle.sng_text.specs.declared.kept.TheConstants.{MOST_SHORT}
use Rattle.sng_text.specs.declared.kept.Kept.{Kept}
use Rattle.sng_text.specs.declared.kept.Kept.TheVariants.{Short, Long}

-- the bytes that are kept
abbrev pub bytes_of : Kept → List ℕ
bytes_of (Short count bytes) = take count bytes
bytes_of (Long bytes) = bytes.items

-- there are as many in line as are said to be, with zeros behind them, and more where they lie elsewhere
abbrev pub IsFit : Kept → Type 0
IsFit (Short count bytes) = (count ≤ MOST_SHORT) × ((k : ℕ) → count ≤ k → slice_index bytes k ≡ 0)
IsFit (Long bytes) = MOST_SHORT < vec_len bytes

-- the number that the first sixteen bytes are, the first one high, with zeros behind fewer of them
unfoldable pub front_of : List ℕ → ℕ
front_of bytes = from_be_bytes w128 bytes
