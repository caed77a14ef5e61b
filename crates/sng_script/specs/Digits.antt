-- Two hex digits as a byte.
use Rattle.std.specs.Prelude.{ℕ, ◌+◌, ◌*◌, Option, Some, option_and_then}
use Rattle.hex.specs.Hex.{hex_digit_value}

-- the byte of two digits, where both are digits
abbrev pub pair_of : ℕ → ℕ → Option ℕ
pair_of high low =
    option_and_then (λ h. option_and_then (λ l. Some (h * 16 + l)) (hex_digit_value low)) (hex_digit_value high)
