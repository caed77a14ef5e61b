-- The Remaining Length (MQTT 3.1.1, 2.2.3).
use Rattle.std.specs.Prelude.{ℕ, zero, suc, ◌+◌, ◌/◌, ◌%◌, nat_lt, List, [], ◌∷◌, if◌then◌else◌}

-- the bytes of a number, of which at most so many stand before the last
abbrev pub groups : ℕ → ℕ → List ℕ
groups zero n = n ∷ []
groups (suc most) n = if nat_lt n 128 then n ∷ [] else (n % 128 + 128) ∷ groups most (n / 128)

-- the bytes of a number: seven bits to a byte, the low ones first, and 128 more in each byte that another one
-- follows.
-- A number has fewer groups of seven bits than its value
unfoldable pub remaining_length : ℕ → List ℕ
remaining_length n = groups n n
