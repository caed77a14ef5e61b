-- The packet or the fault at the front of bytes (MQTT 3.1.1, sections 2 and 3).
use Rattle.std.specs.Prelude.{ℕ, ◌+◌, ◌<◌, ◌≤◌, ◌==◌, nat_lt, List, ◌∷◌, length, take, drop, if◌then◌else◌}
use Rattle.std.specs.Prelude.{Some, None, Ok, Err}
use Rattle.std.specs.declared.option.Option.{Option}
use Rattle.std.specs.declared.result.Result.{Result}
use Rattle.mqtt_frames.specs.declared.limits.TheConstants.{MAX_PACKET}
use Rattle.mqtt_frames.specs.declared.fault.PacketFault.{PacketFault}
use Rattle.mqtt_frames.specs.declared.fault.PacketFault.TheVariants.{TooLong}
use Rattle.mqtt_frames.specs.declared.packet.Packet.{Packet}
use Rattle.mqtt_frames.specs.declared.header.Header.{Header}
use Rattle.mqtt_frames.specs.declared.header.Header.TheVariants as header
use Rattle.mqtt_frames.specs.declared.wire.decode.Front.{Front}
use Rattle.mqtt_frames.specs.declared.wire.decode.Front.TheVariants as front
use Rattle.mqtt_frames.specs.Reading.{number, body_of}
use Rattle.mqtt_frames.specs.Headers.{header_at}

-- a packet of so many bytes
abbrev pub sized : ℕ → Result Packet PacketFault → Front
sized size (Ok packet) = front.Whole packet size
sized size (Err fault) = front.Faulty fault

-- a packet has at most MAX_PACKET bytes, of which its header tells; all other faults are reported with the
-- packet's last byte
abbrev pub behind_header : Header → List ℕ → Front
behind_header header.Unfinished bytes = front.Waiting
behind_header (header.Faulty fault) bytes = front.Faulty fault
behind_header (header.Known kind start rest) bytes =
    if nat_lt MAX_PACKET (start + rest)
    then front.Faulty TooLong
    else (if nat_lt (length bytes) (start + rest)
    then front.Waiting
    else sized (start + rest) (body_of kind (take rest (drop start bytes))))

abbrev pub decode : List ℕ → Front
decode bytes = behind_header (header_at bytes) bytes

-- a packet has one byte at least, and no more than there are
abbrev pub IsWithin : ℕ → Front → Type 0
IsWithin most (front.Whole packet size) = (0 < size) × (size ≤ most)
IsWithin most _ = Unit {0}

-- the packet identifier of the PUBACK that begins the bytes, where it is spelled in four bytes (3.4)
abbrev pub publish_ack_at : List ℕ → Option ℕ
publish_ack_at (first ∷ rest ∷ high ∷ low ∷ behind) =
    if first == 0x40
    then (if rest == 2 then (if number high low == 0 then None else Some (number high low)) else None)
    else None
publish_ack_at _ = None
