-- The lines of a script: words parted by one space.
use Rattle.std.specs.Prelude.{ℕ, ◌+◌, ◌-◌, ◌*◌, ◌^◌, ◌==◌, ◌&&◌, nat_lt, codes, List, [], ◌∷◌, take, drop}
use Rattle.std.specs.Prelude.{position, if◌then◌else◌, Option, Some, None, option_map, option_and_then}
use Rattle.std.specs.Prelude.{Result, Ok, Err}
use Rattle.std.specs.Str.{bytes_eq}
use Rattle.std.specs.Result.{result_ok}
use Rattle.hex.specs.Hex.{decode_of}
use Rattle.sng_text.specs.Ipv4.{is_digit, ipv4_of}
use Rattle.sng_grants.specs.declared.policy.Policy.{Policy}
use Rattle.sng_scope.specs.Policies.{policy_of}
use Rattle.sng_scope.specs.declared.fault.PolicyFault.{PolicyFault}
use Rattle.sng_book.specs.declared.address.Address.{Address}
use Rattle.sng_book.specs.declared.event.Event.TheVariants.{Datagram, Up, Down, Take, Replace, Tick}
use Rattle.sng_script.specs.declared.script.Line.{Line}
use Rattle.sng_script.specs.declared.script.Line.TheVariants.{Empty, Event, Refused, Broker}

infixl 10 ◌>>=◌
abbrev ◌>>=◌ : {A B : Type 0} → Option A → (A → Option B) → Option B
o >>= next = option_and_then next o

-- what stands before the first byte of this value and what stands behind it, where there is one
abbrev pub parted : ℕ → List ℕ → Option (List ℕ × List ℕ)
parted byte text = option_map (λ at. (take at text, drop (at + 1) text)) (position (λ b. b == byte) text)

-- the number of 64 bits that decimal digits write behind a number
abbrev pub digits_onto : ℕ → List ℕ → Option ℕ
digits_onto n [] = Some n
digits_onto n (b ∷ bs) =
    if is_digit b && nat_lt (10 * n + (b - 48)) (2 ^ 64)
    then digits_onto (10 * n + (b - 48)) bs
    else None

-- the number that a text writes: one decimal digit or more
abbrev pub number_of : List ℕ → Option ℕ
number_of [] = None
number_of (b ∷ bs) = digits_onto 0 (b ∷ bs)

-- the port that a text names: such a number of 16 bits
abbrev pub port_of : List ℕ → Option ℕ
port_of text = number_of text >>= (λ n. if nat_lt n (2 ^ 16) then Some n else None)

-- the address that `IP:PORT` names; byte 58 is `:`
abbrev pub address_of : List ℕ → Option Address
address_of word = do
  parts ← parted 58 word
  ip ← ipv4_of parts.0
  port ← port_of parts.1
  Some (record { ip = ip; port = port })

-- the bytes that a word spells, one or more: two hex digits for each, of either case
abbrev pub piece_of : List ℕ → Option (List ℕ)
piece_of word = if bytes_eq word [] then None else result_ok (decode_of word)

-- the bytes of a datagram: the same, and no byte where the word is `-`
abbrev pub datagram_of : List ℕ → Option (List ℕ)
datagram_of word = if bytes_eq word (codes "-") then Some [] else piece_of word

-- the policy is in force from now on, or it is refused
abbrev pub policy_line : Result Policy PolicyFault → Line
policy_line (Ok policy) = Event (Replace policy)
policy_line (Err fault) = Refused fault

-- `IP:PORT HEX`: a datagram came from the address; byte 32 is the space
abbrev pub from_line : List ℕ → Option Line
from_line words = do
  parts ← parted 32 words
  address ← address_of parts.0
  datagram ← datagram_of parts.1
  Some (Event (Datagram address datagram))

-- `HEX`: these bytes came from the broker
abbrev pub broker_line : List ℕ → Option Line
broker_line word = do
  piece ← piece_of word
  Some (Broker piece)

-- `MS`: the clock is at this many ms
abbrev pub tick_line : List ℕ → Option Line
tick_line word = do
  clock ← number_of word
  Some (Event (Tick clock))

-- the lines without a space
abbrev pub word_line : List ℕ → Option Line
word_line word =
    if bytes_eq word []
    then Some Empty
    else (if bytes_eq word (codes "up")
    then Some (Event Up)
    else (if bytes_eq word (codes "down")
    then Some (Event Down)
    else (if bytes_eq word (codes "take") then Some (Event Take) else None)))

-- the lines with one, by the word before the first of them and what stands behind it
abbrev pub words_line : List ℕ → List ℕ → Option Line
words_line word rest =
    if bytes_eq word (codes "policy")
    then Some (policy_line (policy_of rest))
    else (if bytes_eq word (codes "from")
    then from_line rest
    else (if bytes_eq word (codes "broker")
    then broker_line rest
    else (if bytes_eq word (codes "tick") then tick_line rest else None)))

abbrev pub line_by : List ℕ → Option (List ℕ × List ℕ) → Option Line
line_by line None = word_line line
line_by line (Some parts) = words_line parts.0 parts.1

-- what a line says, without its line feed; there is nothing else that can be read
abbrev pub line_of : List ℕ → Option Line
line_of line = line_by line (parted 32 line)
