-- IPv4 addresses as texts: four decimal numbers from 0 to 255 without leading zeros, parted by points (RFC
-- 3986, 3.2.2).
use Rattle.std.specs.Prelude.{◌≡◌, ◌<◌, length, All, ℕ, ◌+◌, ◌-◌, ◌*◌, Bool, ◌==◌, ◌&&◌, nat_le, List, []}
use Rattle.std.specs.Prelude.{◌∷◌, if◌then◌else◌, Option, Some, None, option_and_then}
use Rattle.std.specs.List.{slice_split}

infixl 10 ◌>>=◌
abbrev ◌>>=◌ : {A B : Type 0} → Option A → (A → Option B) → Option B
o >>= next = option_and_then next o

-- `0` to `9`, bytes 48 to 57
abbrev pub is_digit : ℕ → Bool
is_digit b = nat_le 48 b && nat_le b 57

-- `1` to `9`
abbrev pub is_leading : ℕ → Bool
is_leading b = nat_le 49 b && nat_le b 57

-- the number from 0 to 255 that the digits write: one digit, or more of which the first is no 0
abbrev pub octet_of : List ℕ → Option ℕ
octet_of (a ∷ []) = if is_digit a then Some (a - 48) else None
octet_of (a ∷ b ∷ []) = if is_leading a && is_digit b then Some (10 * (a - 48) + (b - 48)) else None
octet_of (a ∷ b ∷ c ∷ []) =
    if is_leading a && is_digit b && is_digit c && nat_le (100 * (a - 48) + 10 * (b - 48) + (c - 48)) 255
    then Some (100 * (a - 48) + 10 * (b - 48) + (c - 48))
    else None
octet_of _ = None

-- the numbers of exactly four parts
abbrev pub four_of : List (List ℕ) → Option (List ℕ)
four_of (a ∷ b ∷ c ∷ d ∷ []) = do
  first ← octet_of a
  second ← octet_of b
  third ← octet_of c
  fourth ← octet_of d
  Some (first ∷ second ∷ third ∷ fourth ∷ [])
four_of _ = None

-- the parts between the points, byte 46
abbrev pub parts_of : List ℕ → List (List ℕ)
parts_of text = slice_split (λ b. b == 46) text

-- the four numbers of an address text
abbrev pub ipv4_of : List ℕ → Option (List ℕ)
ipv4_of text = four_of (parts_of text)

-- four octets
abbrev pub IsAddress : List ℕ → Type 0
IsAddress octets = (length octets ≡ 4) × All (λ octet. octet < 256) octets
