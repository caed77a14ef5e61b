-- Which bytes of the broker's stream may reach devices, read off the fixed headers of its packets alone
-- (MQTT 3.1.1, 2.2).
use Rattle.std.specs.Prelude.{ℕ, zero, suc, ◌+◌, ◌-◌, ◌*◌, ◌/◌, ◌%◌, ◌^◌, ◌==◌, ◌||◌, min, not, nat_lt, Bool, false}
use Rattle.std.specs.Prelude.{List, [], ◌∷◌, if◌then◌else◌}
use Rattle.sng_signals.specs.declared.reach.Place.{Place}
use Rattle.sng_signals.specs.declared.reach.Place.TheVariants.{Between, Head, Body}
use Rattle.sng_signals.specs.declared.reach.Reach.{Reach}

-- a packet of each kind may let something out to devices but PUBACK, SUBACK, UNSUBACK and PINGRESP, which is
-- the upper half of its first byte
abbrev pub may_reach : ℕ → Bool
may_reach first = not ((first / 16 == 4) || (first / 16 == 9) || (first / 16 == 11) || (first / 16 == 13))

-- so many bytes before the end of a packet
abbrev pub before_end : ℕ → Place
before_end zero = Between
before_end (suc left) = Body (suc left)

-- what a Remaining Length says with one more byte: seven bits to a byte, the low ones first (2.2.3)
abbrev pub more_length : ℕ → ℕ → ℕ → ℕ
more_length byte bytes value = min (value + byte % 128 * 128 ^ bytes) (2 ^ 64 - 1)

-- behind one more byte of a Remaining Length, which had so many that say so much: it is the last one where it
-- is less than 128. Behind a fifth one nothing is a packet any more
abbrev pub behind_length : ℕ → ℕ → ℕ → Place
behind_length byte bytes value =
    if nat_lt bytes 4
    then (if nat_lt byte 128
    then before_end (more_length byte bytes value)
    else Head (bytes + 1) (more_length byte bytes value))
    else Body (2 ^ 64 - 1)

-- behind one more byte of the stream
abbrev pub next : Place → Bool → ℕ → Reach
next Between reaches byte = record { place = Head 0 0; reaches = may_reach byte }
next (Head bytes value) reaches byte = record { place = behind_length byte bytes value; reaches = reaches }
next (Body left) reaches byte = record { place = before_end (left - 1); reaches = reaches }

-- behind more bytes of the stream
abbrev pub after : Reach → List ℕ → Reach
after r [] = r
after r (byte ∷ bytes) = after (next r.place r.reaches byte) bytes

-- one of these bytes is of a packet that may reach devices
abbrev pub one_reaches : Reach → List ℕ → Bool
one_reaches r [] = false
one_reaches r (byte ∷ bytes) =
    (next r.place r.reaches byte).reaches || one_reaches (next r.place r.reaches byte) bytes
