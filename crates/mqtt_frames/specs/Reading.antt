-- Which packet the bytes behind a Remaining Length are (MQTT 3.1.1, section 3).
use Rattle.std.specs.Prelude.{◌≡◌, ℕ, zero, suc, ◌+◌, ◌*◌, ◌==◌, nat_lt, Bool, true, false, List, [], ◌∷◌}
use Rattle.std.specs.Prelude.{length, take, drop, if◌then◌else◌, Some, None, Ok, Err}
use Rattle.std.specs.declared.option.Option.{Option}
use Rattle.std.specs.declared.result.Result.{Result}
use Rattle.std.specs.Str.{bytes_eq}
use Rattle.mqtt_frames.specs.declared.fault.PacketFault.{PacketFault}
use Rattle.mqtt_frames.specs.declared.fault.PacketFault.TheVariants.{Malformed, NotSupported}
use Rattle.mqtt_frames.specs.declared.read_fault.ReadFault.{ReadFault}
use Rattle.mqtt_frames.specs.declared.read_fault.ReadFault.TheVariants as reads
use Rattle.mqtt_frames.specs.declared.packet.RequestedQos.{RequestedQos}
use Rattle.mqtt_frames.specs.declared.packet.RequestedQos.TheVariants.{AtMostOnce, AtLeastOnce, ExactlyOnce}
use Rattle.mqtt_frames.specs.declared.packet.Request.{Request}
use Rattle.mqtt_frames.specs.declared.packet.SubscribeCode.{SubscribeCode}
use Rattle.mqtt_frames.specs.declared.packet.SubscribeCode.TheVariants.{Granted, Refused}
use Rattle.mqtt_frames.specs.declared.packet.Packet.{Packet}
use Rattle.mqtt_frames.specs.declared.packet.Packet.TheVariants as variants
use Rattle.mqtt_frames.specs.declared.kind.PublishFlags.{PublishFlags}
use Rattle.mqtt_frames.specs.declared.kind.Kind.{Kind}
use Rattle.mqtt_frames.specs.declared.kind.Kind.TheVariants as kinds
use Rattle.mqtt_frames.specs.Packets.{protocol}

infixl 10 ◌>>=◌
-- one reading behind another: the first fault stands
abbrev pub ◌>>=◌ : {A B : Type 0} → Result A PacketFault → (A → Result B PacketFault) → Result B PacketFault
(Ok x) >>= f = f x
(Err e) >>= f = Err e

-- what a function answered, seen by view, is what is read
abbrev pub Reads : {A B : Type 0} → (A → B) → Result A PacketFault → Result B PacketFault → Type 0
Reads view (Ok x) read = read ≡ Ok (view x)
Reads view (Err fault) read = read ≡ Err fault

-- the same of a function that takes memory, unless an allocation failed
abbrev pub Fails : {B : Type 0} → ReadFault → Result B PacketFault → Type 0
Fails (reads.Packet fault) read = read ≡ Err fault
Fails reads.Memory read = Unit {0}

abbrev pub Gives : {A B : Type 0} → (A → B) → Result A ReadFault → Result B PacketFault → Type 0
Gives view (Ok x) read = read ≡ Ok (view x)
Gives view (Err e) read = Fails e read

-- two bytes as a number, the high one first (1.5.2)
abbrev pub number : ℕ → ℕ → ℕ
number high low = high * 256 + low

-- a number, and what stands behind it
abbrev pub number_at : List ℕ → Result (ℕ × List ℕ) PacketFault
number_at (high ∷ low ∷ rest) = Ok (number high low, rest)
number_at _ = Err Malformed

-- a packet identifier, which is not 0 (2.3.1)
abbrev pub id_at : List ℕ → Result (ℕ × List ℕ) PacketFault
id_at bytes = do
  id ← number_at bytes
  if id.0 == 0 then Err Malformed else Ok id

-- a text, behind the number of its bytes (1.5.3)
abbrev pub text_at : List ℕ → Result (List ℕ × List ℕ) PacketFault
text_at bytes = do
  count ← number_at bytes
  if nat_lt (length count.1) count.0 then Err Malformed else Ok (take count.0 count.1, drop count.0 count.1)

-- nothing may stand behind the last field
abbrev pub at_end : {A : Type 0} → A → List ℕ → Result A PacketFault
at_end x [] = Ok x
at_end x (b ∷ bytes) = Err Malformed

-- keep alive and client identifier (3.1.2.10 and 3.1.3.1)
abbrev pub connect_rest : Bool → List ℕ → Result Packet PacketFault
connect_rest clean_session bytes = do
  keep_alive ← number_at bytes
  client_id ← text_at keep_alive.1
  at_end (variants.Connect (record {
    clean_session = clean_session;
    keep_alive = keep_alive.0;
    client_id = client_id.0;
  })) client_id.1

-- the flags of a CONNECT: those with a will, a user name or a password, and reserved ones, are not supported
-- (3.1.2.3)
abbrev pub connect_behind : List ℕ → Result Packet PacketFault
connect_behind [] = Err Malformed
connect_behind (flags ∷ rest) =
    if flags == 0 then connect_rest false rest
    else (if flags == 2 then connect_rest true rest else Err NotSupported)

-- a CONNECT begins with the protocol's name and level (3.1.2)
abbrev pub connect_of : List ℕ → Result Packet PacketFault
connect_of body = if bytes_eq (take 7 body) protocol then connect_behind (drop 7 body) else Err Malformed

-- whether there is a session, as the one bit that may be set, and the return code (3.2.2)
abbrev pub session_of : ℕ → Result Bool PacketFault
session_of flags = if flags == 0 then Ok false else (if flags == 1 then Ok true else Err Malformed)

abbrev pub connect_ack_of : List ℕ → Result Packet PacketFault
connect_ack_of (flags ∷ code ∷ []) = do
  session_present ← session_of flags
  Ok (variants.ConnectAck (record { session_present = session_present; code = code }))
connect_ack_of _ = Err Malformed

-- the packet identifier of a PUBLISH, at QoS 1 (3.3.2.2)
abbrev pub optional_id_at : Bool → List ℕ → Result (Option ℕ × List ℕ) PacketFault
optional_id_at false bytes = Ok (None, bytes)
optional_id_at true bytes = do
  id ← id_at bytes
  Ok (Some id.0, id.1)

-- the name, the packet identifier, the message (3.3.2 and 3.3.3)
abbrev pub publish_of : PublishFlags → List ℕ → Result Packet PacketFault
publish_of flags body = do
  name ← text_at body
  id ← optional_id_at flags.identified name.1
  Ok (variants.Publish (record {
    dup = flags.dup;
    retain = flags.retain;
    packet_id = id.0;
    name = name.0;
    payload = id.1;
  }))

-- nothing but a packet identifier
abbrev pub whole_id : List ℕ → Result ℕ PacketFault
whole_id body = do
  id ← id_at body
  at_end id.0 id.1

-- a level (3.8.3.1)
abbrev pub qos_of : ℕ → Result RequestedQos PacketFault
qos_of byte =
    if byte == 0 then Ok AtMostOnce
    else (if byte == 1 then Ok AtLeastOnce else (if byte == 2 then Ok ExactlyOnce else Err Malformed))

-- the level behind a topic filter
abbrev pub qos_behind : List ℕ → List ℕ → Result (Request × List ℕ) PacketFault
qos_behind filter [] = Err Malformed
qos_behind filter (byte ∷ rest) = do
  qos ← qos_of byte
  Ok (record { filter = filter; qos = qos }, rest)

-- a topic filter and its level (3.8.3)
abbrev pub request_at : List ℕ → Result (Request × List ℕ) PacketFault
request_at bytes = do
  filter ← text_at bytes
  qos_behind filter.0 filter.1

-- items up to the last byte, of which there are at most so many
abbrev pub items_within : {A : Type 0} → (List ℕ → Result (A × List ℕ) PacketFault) → ℕ → List ℕ
    → Result (List A) PacketFault
items_within item_at most [] = Ok []
items_within item_at zero (b ∷ bytes) = Err Malformed
items_within item_at (suc most) (b ∷ bytes) = do
  item ← item_at (b ∷ bytes)
  items ← items_within item_at most item.1
  Ok (item.0 ∷ items)

-- each item has a byte or more
abbrev pub items_of : {A : Type 0} → (List ℕ → Result (A × List ℕ) PacketFault) → List ℕ
    → Result (List A) PacketFault
items_of item_at bytes = items_within item_at (length bytes) bytes

-- an answer to a request (3.9.3)
abbrev pub code_of : ℕ → Result SubscribeCode PacketFault
code_of byte = if byte == 128 then Ok Refused else (qos_of byte >>= λ qos. Ok (Granted qos))

abbrev pub codes_of : List ℕ → Result (List SubscribeCode) PacketFault
codes_of [] = Ok []
codes_of (byte ∷ bytes) = do
  code ← code_of byte
  codes ← codes_of bytes
  Ok (code ∷ codes)

-- there is one thing at least (3.8.3, 3.9.3 and 3.10.3)
abbrev pub some_of : {A : Type 0} → (List ℕ → Result (List A) PacketFault) → List ℕ
    → Result (List A) PacketFault
some_of all_of [] = Err Malformed
some_of all_of (b ∷ bytes) = all_of (b ∷ bytes)

abbrev pub subscribe_of : List ℕ → Result Packet PacketFault
subscribe_of body = do
  id ← id_at body
  requests ← some_of (items_of request_at) id.1
  Ok (variants.Subscribe (record { packet_id = id.0; requests = requests }))

abbrev pub subscribe_ack_of : List ℕ → Result Packet PacketFault
subscribe_ack_of body = do
  id ← id_at body
  codes ← some_of codes_of id.1
  Ok (variants.SubscribeAck (record { packet_id = id.0; codes = codes }))

abbrev pub unsubscribe_of : List ℕ → Result Packet PacketFault
unsubscribe_of body = do
  id ← id_at body
  filters ← some_of (items_of text_at) id.1
  Ok (variants.Unsubscribe (record { packet_id = id.0; filters = filters }))

-- the packet of a kind with that variable header and payload
abbrev pub body_of : Kind → List ℕ → Result Packet PacketFault
body_of kinds.Connect body = connect_of body
body_of kinds.ConnectAck body = connect_ack_of body
body_of (kinds.Publish flags) body = publish_of flags body
body_of kinds.PublishAck body = whole_id body >>= λ id. Ok (variants.PublishAck id)
body_of kinds.Subscribe body = subscribe_of body
body_of kinds.SubscribeAck body = subscribe_ack_of body
body_of kinds.Unsubscribe body = unsubscribe_of body
body_of kinds.UnsubscribeAck body = whole_id body >>= λ id. Ok (variants.UnsubscribeAck id)
body_of kinds.PingRequest body = at_end variants.PingRequest body
body_of kinds.PingResponse body = at_end variants.PingResponse body
body_of kinds.Disconnect body = at_end variants.Disconnect body
