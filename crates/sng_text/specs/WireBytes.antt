-- The two ways in which the bytes of a datagram or a packet are kept.
use Rattle.std.specs.Prelude.{ℕ, ◌≤◌, List, ⊤, take}
use Rattle.sng_text.specs.declared.wire_bytes.TheConstants.{MOST_WIRE_BYTES}
use Rattle.sng_text.specs.declared.wire_bytes.Kept.{Kept}
use Rattle.sng_text.specs.declared.wire_bytes.Kept.TheVariants.{Short, Long}

-- the bytes that are kept
abbrev pub bytes_of : Kept → List ℕ
bytes_of (Short count bytes) = take count bytes
bytes_of (Long bytes) = bytes.items

-- there are as many in line as are said to be
abbrev pub IsFit : Kept → Type 0
IsFit (Short count bytes) = count ≤ MOST_WIRE_BYTES
IsFit (Long bytes) = ⊤
