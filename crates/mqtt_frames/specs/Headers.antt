-- The fixed header at the front of bytes (MQTT 3.1.1, 2.2): first byte and Remaining Length.
use Rattle.std.specs.Prelude.{ℕ, zero, suc, ◌+◌, ◌-◌, ◌*◌, ◌<◌, ◌≤◌, nat_lt, List, [], ◌∷◌, if◌then◌else◌, Ok}
use Rattle.std.specs.Prelude.{Err}
use Rattle.std.specs.declared.result.Result.{Result}
use Rattle.mqtt_frames.specs.declared.limits.TheConstants.{MAX_REMAINING}
use Rattle.mqtt_frames.specs.declared.fault.PacketFault.{PacketFault}
use Rattle.mqtt_frames.specs.declared.fault.PacketFault.TheVariants.{Malformed}
use Rattle.mqtt_frames.specs.declared.kind.Kind.{Kind}
use Rattle.mqtt_frames.specs.declared.header.Length.{Length}
use Rattle.mqtt_frames.specs.declared.header.Length.TheVariants as lengths
use Rattle.mqtt_frames.specs.declared.header.Header.{Header}
use Rattle.mqtt_frames.specs.declared.header.Header.TheVariants as header
use Rattle.mqtt_frames.specs.Kinds.{kind_of}

-- a group of seven bits, which has 128 more because others follow it
abbrev pub behind_group : ℕ → Length → Length
behind_group byte lengths.Unfinished = lengths.Unfinished
behind_group byte lengths.Overlong = lengths.Overlong
behind_group byte (lengths.Known value size) = lengths.Known (byte - 128 + 128 * value) (size + 1)

-- groups of seven bits, the low ones first, of which there are at most so many (2.2.3)
abbrev pub length_at : ℕ → List ℕ → Length
length_at zero bytes = lengths.Overlong
length_at (suc most) [] = lengths.Unfinished
length_at (suc most) (byte ∷ bytes) =
    if nat_lt byte 128 then lengths.Known byte 1 else behind_group byte (length_at most bytes)

abbrev pub with_kind : Result Kind PacketFault → ℕ → ℕ → Header
with_kind (Ok kind) size value = header.Known kind size value
with_kind (Err fault) size value = header.Faulty fault

abbrev pub with_length : ℕ → Length → Header
with_length first lengths.Unfinished = header.Unfinished
with_length first lengths.Overlong = header.Faulty Malformed
with_length first (lengths.Known value size) = with_kind (kind_of first) (1 + size) value

-- the first byte, and a Remaining Length of at most four bytes
abbrev pub header_at : List ℕ → Header
header_at [] = header.Unfinished
header_at (first ∷ rest) = with_length first (length_at 4 rest)

-- the value of four groups is less than 2 ^ 28
abbrev pub IsSmall : Length → Type 0
IsSmall (lengths.Known value size) = (value ≤ MAX_REMAINING) × (0 < size) × (size ≤ 4)
IsSmall _ = Unit {0}

-- a header has two to five bytes
abbrev pub IsBrief : Header → Type 0
IsBrief (header.Known kind size value) = (value ≤ MAX_REMAINING) × (1 < size) × (size ≤ 5)
IsBrief _ = Unit {0}
