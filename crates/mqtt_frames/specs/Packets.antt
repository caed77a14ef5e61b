-- The bytes of a packet with the shortest Remaining Length (MQTT 3.1.1, sections 2 and 3).
use Rattle.std.specs.Prelude.{ℕ, ◌+◌, ◌/◌, ◌%◌, Bool, List, [], ◌∷◌, ◌++◌, length, if◌then◌else◌, Some, None}
use Rattle.std.specs.declared.option.Option.{Option}
use Rattle.mqtt_frames.specs.declared.packet.RequestedQos.{RequestedQos}
use Rattle.mqtt_frames.specs.declared.packet.RequestedQos.TheVariants.{AtMostOnce, AtLeastOnce, ExactlyOnce}
use Rattle.mqtt_frames.specs.declared.packet.Publish.{Publish}
use Rattle.mqtt_frames.specs.declared.packet.Request.{Request}
use Rattle.mqtt_frames.specs.declared.packet.SubscribeCode.{SubscribeCode}
use Rattle.mqtt_frames.specs.declared.packet.SubscribeCode.TheVariants.{Granted, Refused}
use Rattle.mqtt_frames.specs.declared.packet.Packet.{Packet}
use Rattle.mqtt_frames.specs.declared.packet.Packet.TheVariants as variants
use Rattle.mqtt_frames.specs.RemainingLength.{remaining_length}

-- a flag, by its weight in its byte
abbrev pub flag : Bool → ℕ → ℕ
flag is_set weight = if is_set then weight else 0

-- QoS in bits 2 and 1 of the first byte of a PUBLISH: 1 with a packet identifier, 0 without one
abbrev pub qos_bits : Option ℕ → ℕ
qos_bits None = 0
qos_bits (Some id) = 2

-- packet type 3, DUP, QoS and RETAIN (3.3.1)
abbrev pub publish_byte : Publish → ℕ
publish_byte p = 0x30 + flag p.dup 8 + qos_bits p.packet_id + flag p.retain 1

-- the packet type in the high four bits, and the flags (2.2)
abbrev pub first_byte : Packet → ℕ
first_byte (variants.Connect c) = 0x10
first_byte (variants.ConnectAck a) = 0x20
first_byte (variants.Publish p) = publish_byte p
first_byte (variants.PublishAck id) = 0x40
first_byte (variants.Subscribe s) = 0x82
first_byte (variants.SubscribeAck a) = 0x90
first_byte (variants.Unsubscribe u) = 0xa2
first_byte (variants.UnsubscribeAck id) = 0xb0
first_byte variants.PingRequest = 0xc0
first_byte variants.PingResponse = 0xd0
first_byte variants.Disconnect = 0xe0

-- a number of two bytes, the high one first (1.5.2)
abbrev pub number_bytes : ℕ → List ℕ
number_bytes n = n / 256 % 256 ∷ n % 256 ∷ []

-- a text behind its length (1.5.3)
abbrev pub text_bytes : List ℕ → List ℕ
text_bytes text = number_bytes (length text) ++ text

-- the protocol name and level that every CONNECT begins with: 0 4 `MQTT` 4 (3.1.2.1 and 3.1.2.2)
abbrev pub protocol : List ℕ
protocol = 0 ∷ 4 ∷ 77 ∷ 81 ∷ 84 ∷ 84 ∷ 4 ∷ []

-- the packet identifier of a PUBLISH; none at QoS 0 (3.3.2.2)
abbrev pub id_bytes : Option ℕ → List ℕ
id_bytes None = []
id_bytes (Some id) = number_bytes id

-- the byte of a level (3.8.3.1)
abbrev pub qos_byte : RequestedQos → ℕ
qos_byte AtMostOnce = 0
qos_byte AtLeastOnce = 1
qos_byte ExactlyOnce = 2

-- topic filters, each with its level (3.8.3)
abbrev pub requests_bytes : List Request → List ℕ
requests_bytes [] = []
requests_bytes (r ∷ requests) = text_bytes r.filter ++ (qos_byte r.qos ∷ requests_bytes requests)

-- topic filters (3.10.3)
abbrev pub filters_bytes : List (List ℕ) → List ℕ
filters_bytes [] = []
filters_bytes (filter ∷ filters) = text_bytes filter ++ filters_bytes filters

-- the byte of an answer: the level, or 128 for a failure (3.9.3)
abbrev pub code_byte : SubscribeCode → ℕ
code_byte (Granted qos) = qos_byte qos
code_byte Refused = 128

abbrev pub codes_bytes : List SubscribeCode → List ℕ
codes_bytes [] = []
codes_bytes (code ∷ codes) = code_byte code ∷ codes_bytes codes

-- the variable header and the payload (2.3 and 2.4). Of the flags of a CONNECT only CleanSession is ever set,
-- of weight 2 (3.1.2.3)
abbrev pub body : Packet → List ℕ
body (variants.Connect c) =
    protocol ++ (flag c.clean_session 2 ∷ (number_bytes c.keep_alive ++ text_bytes c.client_id))
body (variants.ConnectAck a) = flag a.session_present 1 ∷ a.code ∷ []
body (variants.Publish p) = text_bytes p.name ++ (id_bytes p.packet_id ++ p.payload)
body (variants.PublishAck id) = number_bytes id
body (variants.Subscribe s) = number_bytes s.packet_id ++ requests_bytes s.requests
body (variants.SubscribeAck a) = number_bytes a.packet_id ++ codes_bytes a.codes
body (variants.Unsubscribe u) = number_bytes u.packet_id ++ filters_bytes u.filters
body (variants.UnsubscribeAck id) = number_bytes id
body variants.PingRequest = []
body variants.PingResponse = []
body variants.Disconnect = []

-- the Remaining Length counts all that follows it (2.2.3)
abbrev pub written : Packet → List ℕ
written p = first_byte p ∷ (remaining_length (length (body p)) ++ body p)
