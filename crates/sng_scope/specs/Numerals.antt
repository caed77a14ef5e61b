-- Topic ids as texts: decimal numbers from 1 to 65534 without leading zeros.
use Rattle.std.specs.Prelude.{ℕ, ◌+◌, ◌-◌, ◌*◌, Bool, true, false, ◌&&◌, nat_le, List, [], ◌∷◌, if◌then◌else◌}
use Rattle.std.specs.Prelude.{Option, Some, None}
use Rattle.sng_text.specs.Ipv4.{is_digit, is_leading}

-- each byte is a digit
abbrev pub are_digits : List ℕ → Bool
are_digits [] = true
are_digits (b ∷ bs) = is_digit b && are_digits bs

-- digits, of which there is a first and that is no 0
abbrev pub is_numeral : List ℕ → Bool
is_numeral [] = false
is_numeral (b ∷ bs) = is_leading b && are_digits bs

-- the number that digits write behind a number
abbrev pub number_onto : ℕ → List ℕ → ℕ
number_onto n [] = n
number_onto n (b ∷ bs) = number_onto (10 * n + (b - 48)) bs

-- the topic id of a text; 0 and 65535 are reserved (MQTT-SN 1.2, 5.3.11)
abbrev pub topic_id_of : List ℕ → Option ℕ
topic_id_of text =
    if is_numeral text && nat_le (number_onto 0 text) 65534 then Some (number_onto 0 text) else None
