-- The first place of a byte.
use Rattle.std.proofs.Common.{◌≡◌, ℕ, ◌==◌, Bool, true, false, List, length, Option, None, Some, position}
use Rattle.std.proofs.Common.{refl, arith}
use Rattle.std.proofs.lemmas.Grind.{common_steps}
use Rattle.std.proofs.lemmas.List.Sums.{position_or_len_is}
use Rattle.std.specs.List.{position_or_len}
use Rattle.memchr.specs.Find.{IsFirstByte, is_byte}

not_true : (b : Bool) → (b ≡ true → ⊥) → b ≡ false
not_true true never = absurd (never refl)
not_true false never = refl

-- it is where `position` finds it
pub first_byte : (byte : ℕ) (bytes : List ℕ) (found : Option ℕ) → IsFirstByte (is_byte byte) bytes found
    → found ≡ position (λ b. b == byte) bytes
first_byte byte bytes None nowhere =
    let at : position_or_len (λ b. b == byte) bytes ≡ length bytes =
    position_or_len_is (λ b. b == byte) bytes (length bytes) 0 (omega arith)
    (λ k before. not_true _ (nowhere k (omega arith) before)) (λ within. absurd (omega (arith, within))) in
    grind (arith, common_steps)
first_byte byte bytes (Some k) first =
    let at : position_or_len (λ b. b == byte) bytes ≡ k =
    position_or_len_is (λ b. b == byte) bytes k 0 (omega (arith, first.0.high))
    (λ j before. not_true _ (first.0.before j (omega arith) before)) (λ within. first.1) in
    let within = first.0.high in
    grind (arith, common_steps)
