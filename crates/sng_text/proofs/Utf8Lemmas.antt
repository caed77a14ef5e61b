-- Bytes that are not UTF-8 fail its test.
use Rattle.std.proofs.Common.{◌≡◌, Bool, true, false, List, ℕ, refl}
use Rattle.std.specs.Str.{is_utf8, IsUtf8}
use Rattle.std.proofs.lemmas.Str.{IsUtf8-from_is_utf8}

untrue : (b : Bool) (bs : List ℕ) → is_utf8 bs ≡ b → (IsUtf8 bs → ⊥) → b ≡ false
untrue true bs is none = absurd (none (IsUtf8-from_is_utf8 bs is))
untrue false bs is none = refl

pub is_utf8-false : (bs : List ℕ) → (IsUtf8 bs → ⊥) → is_utf8 bs ≡ false
is_utf8-false bs none = untrue (is_utf8 bs) bs refl none
