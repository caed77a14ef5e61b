-- The packets that are written from parts which stand elsewhere (MQTT 3.1.1, section 3).
use Rattle.std.specs.Prelude.{ℕ, Bool, List, [], ◌∷◌}
use Rattle.std.specs.declared.option.Option.{Option}
use Rattle.sng_text.specs.declared.qos.Qos.{Qos}
use Rattle.sng_text.specs.declared.qos.Qos.TheVariants as granted
use Rattle.mqtt_frames.specs.declared.packet.RequestedQos.{RequestedQos}
use Rattle.mqtt_frames.specs.declared.packet.RequestedQos.TheVariants.{AtMostOnce, AtLeastOnce}
use Rattle.mqtt_frames.specs.declared.packet.Packet.{Packet}
use Rattle.mqtt_frames.specs.declared.packet.Packet.TheVariants as packets

-- a CONNECT without a will, a user name and a password (3.1)
abbrev pub connect_of_parts : List ℕ → Bool → ℕ → Packet
connect_of_parts client_id clean_session keep_alive =
    packets.Connect (record { clean_session = clean_session; keep_alive = keep_alive; client_id = client_id })

-- a PUBLISH: at QoS 1 with a packet identifier, and else at QoS 0 (3.3)
abbrev pub publish_of_parts : List ℕ → List ℕ → Bool → Option ℕ → Bool → Packet
publish_of_parts name payload retain packet_id dup =
    packets.Publish (record {
      dup = dup;
      retain = retain;
      packet_id = packet_id;
      name = name;
      payload = payload;
    })

-- the level that is asked for where this one is wanted
abbrev pub requested_qos : Qos → RequestedQos
requested_qos granted.AtMostOnce = AtMostOnce
requested_qos granted.AtLeastOnce = AtLeastOnce

-- a SUBSCRIBE of one filter (3.8)
abbrev pub subscribe_of_parts : ℕ → List ℕ → Qos → Packet
subscribe_of_parts packet_id filter qos =
    packets.Subscribe (record {
      packet_id = packet_id;
      requests = record { filter = filter; qos = requested_qos qos } ∷ [];
    })

-- an UNSUBSCRIBE of one filter (3.10)
abbrev pub unsubscribe_of_parts : ℕ → List ℕ → Packet
unsubscribe_of_parts packet_id filter =
    packets.Unsubscribe (record { packet_id = packet_id; filters = filter ∷ [] })
