-- A pair of digits as the hex library reads it.
use Rattle.std.proofs.Common.{◌≡◌, ℕ, ◌+◌, ◌*◌, Option, Some, None, Result, Ok, Err, option_and_then, refl, arith}
use Rattle.std.proofs.lemmas.Grind.{common_steps}
use Rattle.hex.specs.Hex.{hex_digit_value, digit_or_error, pair_value, ◌>>=◌}
use Rattle.hex.specs.declared.error.FromHexError.{FromHexError}
use Rattle.sng_script.specs.Digits.{pair_of}

abbrev either : Option ℕ → Option ℕ → Option ℕ
either high low = option_and_then (λ h. option_and_then (λ l. Some (h * 16 + l)) low) high

abbrev read : ℕ → ℕ → ℕ → Option ℕ → Option ℕ → Result ℕ FromHexError
read a b i high low = digit_or_error a i high >>= (λ h. digit_or_error b (i + 1) low >>= (λ l. Ok (h * 16 + l)))

some_read : (a b i v : ℕ) (high low : Option ℕ) → either high low ≡ Some v → read a b i high low ≡ Ok v
some_read a b i v (Some h) (Some l) is = grind (arith, common_steps, is)
some_read a b i v (Some h) None is = grind (arith, common_steps, is)
some_read a b i v None low is = grind (arith, common_steps, is)

none_read : (a b i : ℕ) (high low : Option ℕ) → either high low ≡ None
    → (e : FromHexError) × (read a b i high low ≡ Err e)
none_read a b i (Some h) (Some l) is = grind (arith, common_steps, is)
none_read a b i (Some h) None is = (_, refl)
none_read a b i None low is = (_, refl)

-- a pair that spells a byte is read as it
pub pair_some : (a b i v : ℕ) → pair_of a b ≡ Some v → pair_value a b i ≡ Ok v
pair_some a b i v is = some_read a b i v (hex_digit_value a) (hex_digit_value b) is

-- a pair that spells none is an error
pub pair_none : (a b i : ℕ) → pair_of a b ≡ None → (e : FromHexError) × (pair_value a b i ≡ Err e)
pair_none a b i is = none_read a b i (hex_digit_value a) (hex_digit_value b) is
