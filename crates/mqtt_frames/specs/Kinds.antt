-- What the first byte of a packet says (MQTT 3.1.1, 2.2): its type and its flags.
use Rattle.std.specs.Prelude.{ℕ, ◌/◌, ◌%◌, ◌==◌, ◌||◌, Bool, true, false, if◌then◌else◌, Ok, Err}
use Rattle.std.specs.declared.result.Result.{Result}
use Rattle.mqtt_frames.specs.declared.fault.PacketFault.{PacketFault}
use Rattle.mqtt_frames.specs.declared.fault.PacketFault.TheVariants.{Malformed, NotSupported}
use Rattle.mqtt_frames.specs.declared.kind.PublishFlags.{PublishFlags}
use Rattle.mqtt_frames.specs.declared.kind.Kind.{Kind}
use Rattle.mqtt_frames.specs.declared.kind.Kind.TheVariants as kinds

abbrev pub publish_flags : ℕ → Bool → PublishFlags
publish_flags bits identified =
    record { dup = bits / 8 == 1; identified = identified; retain = bits % 2 == 1 }

-- a PUBLISH by its low four bits, DUP, two of QoS, RETAIN (3.3.1). Of QoS 0 and 1 it is read, QoS 2 is not
-- supported, and 3 is none
abbrev pub publish_kind : ℕ → Result Kind PacketFault
publish_kind bits =
    if bits / 2 % 4 == 0
    then Ok (kinds.Publish (publish_flags bits false))
    else (if bits / 2 % 4 == 1
    then Ok (kinds.Publish (publish_flags bits true))
    else (if bits / 2 % 4 == 2 then Err NotSupported else Err Malformed))

-- PUBREC, PUBREL and PUBCOMP (3.5 to 3.7), which go with QoS 2 alone
abbrev pub is_of_qos_2 : ℕ → Bool
is_of_qos_2 first = (first == 0x50) || (first == 0x62) || (first == 0x70)

-- the kind of packet that begins with the byte (2.2.1 and 2.2.2)
abbrev pub kind_of : ℕ → Result Kind PacketFault
kind_of first =
    if first == 0x10 then Ok kinds.Connect
    else (if first == 0x20 then Ok kinds.ConnectAck
    else (if first == 0x40 then Ok kinds.PublishAck
    else (if is_of_qos_2 first then Err NotSupported
    else (if first == 0x82 then Ok kinds.Subscribe
    else (if first == 0x90 then Ok kinds.SubscribeAck
    else (if first == 0xa2 then Ok kinds.Unsubscribe
    else (if first == 0xb0 then Ok kinds.UnsubscribeAck
    else (if first == 0xc0 then Ok kinds.PingRequest
    else (if first == 0xd0 then Ok kinds.PingResponse
    else (if first == 0xe0 then Ok kinds.Disconnect
    else (if first / 16 == 3 then publish_kind (first % 16) else Err Malformed)))))))))))
