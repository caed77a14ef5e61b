-- How messages are handed over to a client: by which topic id, in which frame, and how the client is moved by
-- it (MQTT-SN 1.2, 5.3.11, 5.4.10, 5.4.12, 6.5, 6.6 and 6.10).
use Rattle.std.specs.Prelude.{ℕ, ◌+◌, ◌==◌, ◌&&◌, nat_le, Bool, true, false, List, [], ◌∷◌, length, slice_get}
use Rattle.std.specs.Prelude.{if◌then◌else◌, Option, Some, None}
use Rattle.std.specs.Option.{option_map}
use Rattle.sng_text.specs.declared.qos.Qos.{Qos}
use Rattle.sng_text.specs.declared.qos.Qos.TheVariants.{AtMostOnce, AtLeastOnce}
use Rattle.sng_grants.specs.declared.policy.Policy.{Policy}
use Rattle.sng_policy.specs.Grants.{topic_id}
use Rattle.sng_ids.specs.Ids.{Ids, id_for, id_of}
use Rattle.sng_queue.specs.declared.kind.TopicIdKind.{TopicIdKind}
use Rattle.sng_queue.specs.declared.kind.TopicIdKind.TheVariants as kind
use Rattle.sng_queue.specs.declared.exchange.Exchange.{Exchange}
use Rattle.sng_queue.specs.declared.exchange.Exchange.TheVariants.{Announcing, Acknowledging}
use Rattle.sng_queue.specs.declared.exchange.Sending.{Sending}
use Rattle.sng_queue.specs.Messages.{Message}
use Rattle.sng_queue.specs.Buffers.{Buffer, settle, await_ack}
use Rattle.sng_frames.specs.Writing.{written}
use Rattle.sng_frames.specs.declared.flags.Flags.{Flags}
use Rattle.sng_frames.specs.declared.flags.TopicIdType.{TopicIdType}
use Rattle.sng_frames.specs.declared.flags.TopicIdType.TheVariants as type
use Rattle.sng_frames.specs.declared.qos.FrameQos.{FrameQos}
use Rattle.sng_frames.specs.declared.qos.FrameQos.TheVariants as qos
use Rattle.sng_frames.specs.declared.messages.acks.TopicAck.{TopicAck}
use Rattle.sng_frames.specs.declared.frame.SnFrame.TheVariants as frame
use Rattle.sng_book.specs.declared.address.Address.{Address}
use Rattle.sng_book.specs.declared.out.Out.{Out}
use Rattle.sng_book.specs.declared.out.Out.TheVariants.{Send}
use Rattle.sng_history.specs.Requests.{id_in}

-- ---- topic ids and MsgIds

-- a topic id by which a client knows a name
pub record Known : Type 0 where
  pub kind : TopicIdKind
  pub id : ℕ

abbrev pub known_by : TopicIdKind → ℕ → Known
known_by k id = record { kind = k; id = id }

-- the predefined id, else the one that the client was told
abbrev pub given_id : Option ℕ → Option ℕ → Option Known
given_id (Some id) told = Some (known_by kind.Predefined id)
given_id None told = option_map (known_by kind.Normal) told

-- the topic id by which a client knows the name: a name of two octets is its own short name; else the least
-- predefined id that the policy in force gives it; else the id that the client was told, and knows
abbrev pub known_as : Policy → Ids → List ℕ → Option Known
known_as policy ids name =
    if length name == 2 then Some (known_by kind.Short (id_in name))
    else given_id (topic_id policy name) (id_of name ids)

-- MsgIds count from 1 to 65,535 and begin again
abbrev pub number_after : ℕ → ℕ
number_after number = if nat_le 65535 number then 1 else number + 1

-- ---- frames

abbrev pub id_type_of : TopicIdKind → TopicIdType
id_type_of kind.Normal = type.Normal
id_type_of kind.Predefined = type.Predefined
id_type_of kind.Short = type.Short

abbrev pub frame_qos : Qos → FrameQos
frame_qos AtMostOnce = qos.AtMostOnce
frame_qos AtLeastOnce = qos.AtLeastOnce

-- the MsgId of a PUBLISH to a client: at QoS 0 it has none
abbrev pub msg_id_of : Qos → ℕ → ℕ
msg_id_of AtMostOnce number = 0
msg_id_of AtLeastOnce number = number_after number

abbrev pub publish_flags : Message → TopicIdKind → Flags
publish_flags m k =
    record {
      dup = false;
      qos = frame_qos m.qos;
      retain = m.retain;
      will = false;
      clean = false;
      id_type = id_type_of k;
    }

-- the PUBLISH of the message under the id, where the MsgId before was this one
abbrev pub handed_out : Address → ℕ → Message → Known → Out
handed_out to number m known =
    Send to (written (frame.Publish (record {
      flags = publish_flags m known.kind;
      topic_id = known.id;
      msg_id = msg_id_of m.qos number;
      payload = m.payload;
    })))

abbrev pub handed_outs : Address → ℕ → Option Message → Option Known → List Out
handed_outs to number None known = []
handed_outs to number (Some m) None = []
handed_outs to number (Some m) (Some known) = handed_out to number m known ∷ []

-- the REGISTER that announces an id of the name
abbrev pub announced_out : Address → ℕ → Ids → List ℕ → Out
announced_out to number ids name =
    Send to (written (frame.Register
    (record { topic_id = id_for name ids; msg_id = number_after number; name = name })))

-- what is open, sent again: the REGISTER unchanged, and the PUBLISH with DUP, with the ids of the first
-- sending (MQTT-SN 1.2, 5.3.1, 6.12 and 6.13)
abbrev pub announced_again : Address → Sending → Option Message → List Out
announced_again to sent None = []
announced_again to sent (Some m) =
    Send to (written (frame.Register
    (record { topic_id = sent.topic_id; msg_id = sent.msg_id; name = m.name }))) ∷ []

abbrev pub handed_again : Address → Sending → TopicIdKind → Message → Out
handed_again to sent k m =
    Send to (written (frame.Publish (record {
      flags = record (publish_flags m k) { dup = true };
      topic_id = sent.topic_id;
      msg_id = sent.msg_id;
      payload = m.payload;
    })))

abbrev pub repeated_outs : Address → Buffer → Option Exchange → List Out
repeated_outs to b None = []
repeated_outs to b (Some (Announcing sent)) = announced_again to sent (slice_get b.waiting 0)
repeated_outs to b (Some (Acknowledging sent k m)) = handed_again to sent k m ∷ []

-- ---- the buffer and the MsgId that was given last, as messages leave and are answered

abbrev pub number_by : Qos → ℕ → ℕ
number_by AtMostOnce number = number
number_by AtLeastOnce number = number_after number

abbrev pub number_handed : ℕ → Option Message → ℕ
number_handed number None = number
number_handed number (Some m) = number_by m.qos number

-- a message at QoS 0 leaves the front and is settled; one at QoS 1 waits for its PUBACK then
abbrev pub buffer_by : Qos → Buffer → Known → ℕ → ℕ → Buffer
buffer_by AtMostOnce b known number clock = settle b
buffer_by AtLeastOnce b known number clock = await_ack b known.kind known.id (number_after number) clock

abbrev pub buffer_handed : Buffer → Option Message → Option Known → ℕ → ℕ → Buffer
buffer_handed b None known number clock = settle b
buffer_handed b (Some m) None number clock = settle b
buffer_handed b (Some m) (Some known) number clock = buffer_by m.qos b known number clock

-- the front, which leaves next
abbrev pub front : Buffer → Option Message
front b = slice_get b.waiting 0

-- a REGACK answers the announcement that has its TopicId and its MsgId
abbrev pub answers_sent : Sending → TopicAck → Bool
answers_sent sent r = (sent.topic_id == r.topic_id) && (sent.msg_id == r.msg_id)

abbrev pub answers_announcement : Option Exchange → TopicAck → Bool
answers_announcement None r = false
answers_announcement (Some (Announcing sent)) r = answers_sent sent r
answers_announcement (Some (Acknowledging sent k m)) r = false

-- a PUBACK ends the exchange that has its MsgId, whatever it is
abbrev pub ends_exchange : Option Exchange → TopicAck → Bool
ends_exchange None r = false
ends_exchange (Some (Announcing sent)) r = sent.msg_id == r.msg_id
ends_exchange (Some (Acknowledging sent k m)) r = sent.msg_id == r.msg_id
