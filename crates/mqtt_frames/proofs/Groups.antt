-- A number's bytes, one after another (MQTT 3.1.1, 2.2.3).
use Rattle.std.proofs.Common.{◌≡◌, ℕ, ◌+◌, ◌/◌, ◌%◌, ◌<◌, ◌≤◌, List, [], ◌∷◌, ◌++◌, append_assoc, length}
use Rattle.std.proofs.Common.{zero, suc, refl, ap, sym, ◌∙◌, inl, inr, arith}
use Rattle.std.proofs.lemmas.Bool.{cases_lt, lt-ltb, le-ltb}
use Rattle.mqtt_frames.specs.RemainingLength.{groups, remaining_length}

pub groups-last : (most n : ℕ) → n < 128 → groups most n ≡ n ∷ []
groups-last zero n small = refl
groups-last (suc most) n small = rw (lt-ltb n 128 small) refl

pub groups-next : (most n : ℕ) → 128 ≤ n → groups (suc most) n ≡ (n % 128 + 128) ∷ groups most (n / 128)
groups-next most n large = rw (le-ltb n 128 large) refl

-- room for more bytes than there are changes nothing
groups-room : (most least n : ℕ) → n ≤ least → least ≤ most → groups most n ≡ groups least n
groups-room zero least n fits below = sym (groups-last least n (omega arith))
groups-room (suc most) zero n fits below = groups-last (suc most) n (omega arith)
groups-room (suc most) (suc least) n fits below =
    elim (cases_lt n 128) [
      | inl small ↦ groups-last (suc most) n small ∙ sym (groups-last (suc least) n small)
      | inr large ↦ groups-next most n large
          ∙ ap (λ bytes. (n % 128 + 128) ∷ bytes)
          (groups-room most least (n / 128) (omega arith) (omega arith))
          ∙ sym (groups-next least n large)
    ]

-- a number below 128 is its own only byte
pub remaining_length-last : (n : ℕ) → n < 128 → remaining_length n ≡ n ∷ []
unfolding remaining_length
remaining_length-last n small = groups-last n n small

-- a larger one is the low seven bits, and the bytes of the others
pub remaining_length-next : (n : ℕ) → 128 ≤ n
    → remaining_length n ≡ (n % 128 + 128) ∷ remaining_length (n / 128)
unfolding remaining_length
remaining_length-next zero large = absurd (omega arith)
remaining_length-next (suc n) large =
    groups-next n (suc n) large
    ∙ ap (λ bytes. (suc n % 128 + 128) ∷ bytes)
    (groups-room n (suc n / 128) (suc n / 128) (omega arith) (omega arith))

length-groups : (most n : ℕ) → length (groups most n) ≤ most + 1
length-groups zero n = omega arith
length-groups (suc most) n =
    elim (cases_lt n 128) [
      | inl small ↦ rw (groups-last (suc most) n small) (omega arith)
      | inr large ↦ rw (groups-next most n large) (omega (arith, length-groups most (n / 128)))
    ]

-- there are not many bytes
pub length-remaining_length : (n : ℕ) → length (remaining_length n) ≤ n / 128 + 2
unfolding remaining_length
length-remaining_length n =
    elim (cases_lt n 128) [
      | inl small ↦ rw (remaining_length-last n small) (omega arith)
      | inr large ↦ rw (remaining_length-next n large) (omega (arith, length-groups (n / 128) (n / 128)))
    ]

-- one byte after another, in a count and behind other bytes
pub length-remaining_length-next : (n : ℕ) → 128 ≤ n
    → length (remaining_length n) ≡ length (remaining_length (n / 128)) + 1
length-remaining_length-next n large = rw (remaining_length-next n large) (omega arith)

pub length-remaining_length-last : (n : ℕ) → n < 128 → length (remaining_length n) ≡ 1
length-remaining_length-last n small = rw (remaining_length-last n small) (omega arith)

pub append-remaining_length-next : (front : List ℕ) (n : ℕ) → 128 ≤ n
    → (front ++ (n % 128 + 128) ∷ []) ++ remaining_length (n / 128) ≡ front ++ remaining_length n
append-remaining_length-next front n large = rw (remaining_length-next n large, append_assoc) refl
