-- What a broker answers to each packet, and what is left (MQTT 3.1.1, 3).
use Rattle.std.specs.Prelude.{ℕ, Bool, true, false, ◌&&◌, ◌∷◌, [], ◌++◌, List, map, if◌then◌else◌, Some, None}
use Rattle.std.specs.declared.option.Option.{Option}
use Rattle.std.specs.List.{list_any, filter_map, flat_map}
use Rattle.sng_text.specs.Texts.{name_fault, filter_fault}
use Rattle.sng_text.specs.Matching.{matches}
use Rattle.sng_text.specs.declared.qos.Qos.{Qos}
use Rattle.sng_text.specs.declared.qos.Qos.TheVariants as qos
use Rattle.mqtt_frames.specs.declared.packet.Packet.{Packet}
use Rattle.mqtt_frames.specs.declared.packet.Packet.TheVariants as packet
use Rattle.mqtt_frames.specs.declared.packet.Publish.{Publish}
use Rattle.mqtt_frames.specs.declared.packet.Request.{Request}
use Rattle.mqtt_frames.specs.declared.packet.RequestedQos.{RequestedQos}
use Rattle.mqtt_frames.specs.declared.packet.RequestedQos.TheVariants as asked
use Rattle.mqtt_frames.specs.declared.packet.Subscribe.{Subscribe}
use Rattle.mqtt_frames.specs.declared.packet.SubscribeCode.{SubscribeCode}
use Rattle.mqtt_frames.specs.declared.packet.SubscribeCode.TheVariants as code
use Rattle.mqtt_frames.specs.declared.packet.Unsubscribe.{Unsubscribe}
use Rattle.sng_broker.specs.declared.parts.Message.{Message}
use Rattle.sng_broker.specs.declared.parts.Peer.{Peer}
use Rattle.sng_broker.specs.declared.parts.Subscription.{Subscription}
use Rattle.sng_broker.specs.Brokers.{Broker, is_peer, is_open, next_id, identified, is_at_least_once, fits}
use Rattle.sng_broker.specs.Brokers.{fits_surely, let_stand, ended, forgotten, retained}

-- a copy has a packet identifier at QoS 1, and none at QoS 0
abbrev pub id_for : Bool → ℕ → Option ℕ
id_for true last = Some (next_id last)
id_for false last = None

-- the last packet identifier that is used then
abbrev pub last_after : Bool → ℕ → ℕ
last_after true last = next_id last
last_after false last = last

-- a copy of a message
abbrev pub packet_of : Bool → Option ℕ → Message → Packet
packet_of retain id m =
    packet.Publish (record {
      dup = false;
      retain = retain;
      packet_id = id;
      name = m.name;
      payload = m.payload;
    })

-- some filter of the connection matches the message's name
abbrev pub gets : List Subscription → Message → ℕ → Bool
gets standing m conn = list_any (fits conn m.name) standing

-- the smaller of the message's QoS and of the greatest one granted among the filters that match is 1
abbrev pub gets_surely : List Subscription → Message → ℕ → Bool
gets_surely standing m conn = is_at_least_once m.qos && list_any (fits_surely conn m.name) standing

-- what a connection gets of a message
abbrev pub copy_for : List Subscription → Message → Peer → List (ℕ × Packet)
copy_for standing m peer =
    if gets standing m peer.conn
    then (peer.conn, packet_of false (id_for (gets_surely standing m peer.conn) peer.last_id) m) ∷ []
    else []

-- what all connections get of it
abbrev pub fan_out : List Subscription → Message → List Peer → List (ℕ × Packet)
fan_out standing m peers = flat_map (copy_for standing m) peers

-- the connection after its copy
abbrev pub counted : List Subscription → Message → Peer → Peer
counted standing m peer = record peer { last_id = last_after (gets_surely standing m peer.conn) peer.last_id }

-- what goes to one connection, with the last packet identifier that is used
pub record Outgoing : Type 0 where
  pub last_id : ℕ
  pub outs : List (ℕ × Packet)

-- a retained message, where the new filter matches its name (3.3.1.3)
abbrev pub replay_one : Subscription → Outgoing → Message → Outgoing
replay_one s sending m =
    let surely = is_at_least_once s.qos && is_at_least_once m.qos in
    if matches s.filter m.name
    then record {
      last_id = last_after surely sending.last_id;
      outs = sending.outs ++ (s.conn, packet_of true (id_for surely sending.last_id) m) ∷ [];
    }
    else sending

-- all retained messages for a new filter
abbrev pub replay : Subscription → Outgoing → List Message → Outgoing
replay s sending [] = sending
replay s sending (m ∷ kept) = replay s (replay_one s sending m) kept

-- the same for all new filters
abbrev pub replay_all : List Message → Outgoing → List Subscription → Outgoing
replay_all kept sending [] = sending
replay_all kept sending (s ∷ granted) = replay_all kept (replay s sending kept) granted

-- QoS 2 is granted as 1
abbrev pub granted_qos : RequestedQos → Qos
granted_qos asked.AtMostOnce = qos.AtMostOnce
granted_qos asked.AtLeastOnce = qos.AtLeastOnce
granted_qos asked.ExactlyOnce = qos.AtLeastOnce

abbrev pub told_qos : Qos → RequestedQos
told_qos qos.AtMostOnce = asked.AtMostOnce
told_qos qos.AtLeastOnce = asked.AtLeastOnce

-- what is granted for a request: nothing where it has no topic filter
abbrev pub granted : ℕ → Request → Option Subscription
granted conn r = elim (filter_fault r.filter) [
  | None ↦ Some (record { conn = conn; filter = r.filter; qos = granted_qos r.qos })
  | Some fault ↦ None
]

abbrev pub code_for : Option Subscription → SubscribeCode
code_for None = code.Refused
code_for (Some s) = code.Granted (told_qos s.qos)

-- what is granted for all requests
abbrev pub all_granted : ℕ → List Request → List Subscription
all_granted conn requests = filter_map (granted conn) requests

-- the answers to them (3.9.3)
abbrev pub codes_for : ℕ → List Request → List SubscribeCode
codes_for conn requests = map (λ r. code_for (granted conn r)) requests

abbrev pub all_stand : List Subscription → List Subscription → List Subscription
all_stand standing [] = standing
all_stand standing (s ∷ granted) = all_stand (let_stand standing s) granted

abbrev pub all_ended : ℕ → List Subscription → List (List ℕ) → List Subscription
all_ended conn standing [] = standing
all_ended conn standing (text ∷ texts) = all_ended conn (ended conn standing text) texts

-- the packet identifier that the connection used last
abbrev pub last_of : List Peer → ℕ → ℕ
last_of [] conn = 0
last_of (peer ∷ peers) conn = if is_peer conn peer then peer.last_id else last_of peers conn

pub record Stepped : Type 0 where
  pub broker : Broker
  pub outs : List (ℕ × Packet)

-- nothing is answered, and the connection is to be closed (4.8.0)
abbrev pub dropped : Broker → ℕ → Stepped
dropped b conn = record { broker = forgotten b conn; outs = [] }

abbrev pub answered : Broker → ℕ → Packet → Stepped
answered b conn p = record { broker = b; outs = (conn, p) ∷ [] }

abbrev pub silent : Broker → Stepped
silent b = record { broker = b; outs = [] }

-- a CONNECT is accepted (3.2)
abbrev pub accepted : Packet
accepted = packet.ConnectAck (record { session_present = false; code = 0 })

abbrev pub welcomed : Broker → ℕ → Stepped
welcomed b conn = record {
  broker = record b { peers = b.peers ++ record { conn = conn; last_id = 0 } ∷ [] };
  outs = (conn, accepted) ∷ [];
}

abbrev pub qos_of : Option ℕ → Qos
qos_of None = qos.AtMostOnce
qos_of (Some id) = qos.AtLeastOnce

abbrev pub message_of : Publish → Message
message_of p = record { name = p.name; payload = p.payload; qos = qos_of p.packet_id }

-- a PUBLISH at QoS 1 is acknowledged (3.4)
abbrev pub acknowledged : ℕ → Option ℕ → List (ℕ × Packet)
acknowledged conn None = []
acknowledged conn (Some id) = (conn, packet.PublishAck id) ∷ []

abbrev pub delivered : Broker → ℕ → Publish → Stepped
delivered b conn p = record {
  broker = record b {
    peers = map (counted b.standing (message_of p)) b.peers;
    kept = if p.retain then retained b.kept (message_of p) else b.kept;
  };
  outs = fan_out b.standing (message_of p) b.peers ++ acknowledged conn p.packet_id;
}

-- a PUBLISH: one whose name is no topic name breaks the protocol (3.3.2.1)
abbrev pub published : Broker → ℕ → Publish → Stepped
published b conn p = elim (name_fault p.name) [ None ↦ delivered b conn p | Some fault ↦ dropped b conn ]

-- the SUBACK, and then what is retained
abbrev pub replayed : Broker → ℕ → Subscribe → Outgoing
replayed b conn s = replay_all b.kept (record {
  last_id = last_of b.peers conn;
  outs =
      (conn, packet.SubscribeAck (record { packet_id = s.packet_id; codes = codes_for conn s.requests }))
      ∷ [];
}) (all_granted conn s.requests)

abbrev pub subscribed : Broker → ℕ → Subscribe → Stepped
subscribed b conn s = record {
  broker = record b {
    peers = map (identified conn (replayed b conn s).last_id) b.peers;
    standing = all_stand b.standing (all_granted conn s.requests);
  };
  outs = (replayed b conn s).outs;
}

abbrev pub unsubscribed : Broker → ℕ → Unsubscribe → Stepped
unsubscribed b conn u = record {
  broker = record b { standing = all_ended conn b.standing u.filters };
  outs = (conn, packet.UnsubscribeAck u.packet_id) ∷ [];
}

-- the first packet of a connection has to be a CONNECT (3.1)
abbrev pub greeted : Broker → ℕ → Packet → Stepped
greeted b conn (packet.Connect c) = welcomed b conn
greeted b conn (packet.ConnectAck a) = silent b
greeted b conn (packet.Publish p) = silent b
greeted b conn (packet.PublishAck id) = silent b
greeted b conn (packet.Subscribe s) = silent b
greeted b conn (packet.SubscribeAck a) = silent b
greeted b conn (packet.Unsubscribe u) = silent b
greeted b conn (packet.UnsubscribeAck id) = silent b
greeted b conn packet.PingRequest = silent b
greeted b conn packet.PingResponse = silent b
greeted b conn packet.Disconnect = silent b

-- a further one: a second CONNECT and what only a server sends break the protocol
abbrev pub taken : Broker → ℕ → Packet → Stepped
taken b conn (packet.Connect c) = dropped b conn
taken b conn (packet.ConnectAck a) = dropped b conn
taken b conn (packet.Publish p) = published b conn p
taken b conn (packet.PublishAck id) = silent b
taken b conn (packet.Subscribe s) = subscribed b conn s
taken b conn (packet.SubscribeAck a) = dropped b conn
taken b conn (packet.Unsubscribe u) = unsubscribed b conn u
taken b conn (packet.UnsubscribeAck id) = dropped b conn
taken b conn packet.PingRequest = answered b conn packet.PingResponse
taken b conn packet.PingResponse = dropped b conn
taken b conn packet.Disconnect = dropped b conn

abbrev pub step : Broker → ℕ → Packet → Stepped
step b conn p = if is_open b.peers conn then taken b conn p else greeted b conn p
