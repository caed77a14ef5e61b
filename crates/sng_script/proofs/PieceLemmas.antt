-- Which texts spell bytes in hex digits.
use Rattle.std.proofs.Common.{◌≡◌, ℕ, ◌%◌, Bool, true, false, List, [], ◌∷◌, length, Result, Ok, Err}
use Rattle.std.proofs.Common.{refl}
use Rattle.std.specs.List.{AllPass}
use Rattle.std.specs.Str.{bytes_eq}
use Rattle.hex.specs.Hex.{decode_of, is_hex_digit}
use Rattle.hex.specs.declared.error.FromHexError.{FromHexError}
use Rattle.hex.proofs.HexLemmas.{decode_of-digits, decode_of-odd, decode_of-ok}
use Rattle.sng_script.specs.Lines.{piece_of}
use Rattle.sng_script.specs.Obstacles.{fault_of}
use Rattle.sng_script.specs.declared.script.LineFault.TheVariants.{Memory, Unreadable}

odd_by : (text : List ℕ) (empty : Bool) → bytes_eq text [] ≡ empty → length text % 2 ≡ 1
    → fault_of (piece_of text) ≡ Unreadable
odd_by text true is odd = rw is refl
odd_by text false is odd = rw (is, decode_of-odd text odd) refl

pub odd_piece : (text : List ℕ) → length text % 2 ≡ 1 → fault_of (piece_of text) ≡ Unreadable
odd_piece text odd = odd_by text (bytes_eq text []) refl odd

other_by : (text : List ℕ) (empty : Bool) (bytes : Result (List ℕ) FromHexError) → bytes_eq text [] ≡ empty
    → decode_of text ≡ bytes → (AllPass is_hex_digit text → ⊥) → fault_of (piece_of text) ≡ Unreadable
other_by text true bytes is decoded other = rw is refl
other_by text false (Ok bytes) is decoded other = absurd (other (decode_of-ok text bytes decoded).1)
other_by text false (Err fault) is decoded other = rw (is, decoded) refl

-- a byte that is no digit
pub other_piece : (text : List ℕ) → (AllPass is_hex_digit text → ⊥) → fault_of (piece_of text) ≡ Unreadable
other_piece text other = other_by text (bytes_eq text []) (decode_of text) refl refl other

some_bytes : (text : List ℕ) → (text ≡ [] → ⊥) → bytes_eq text [] ≡ false
some_bytes [] some = absurd (some refl)
some_bytes (b ∷ text) some = refl

pub digit_piece : (text : List ℕ) → (text ≡ [] → ⊥) → length text % 2 ≡ 0 → AllPass is_hex_digit text
    → fault_of (piece_of text) ≡ Memory
digit_piece text some even digits =
    let bytes = decode_of-digits text even digits in rw (some_bytes text some, bytes.1) refl
