-- What a message is noted as where it is denied, and what answers it (MQTT-SN 1.2, 5.3.10 and 6.1 to 6.14).
use Rattle.std.specs.Prelude.{ℕ, false, List, [], ◌∷◌, if◌then◌else◌, Option, Some, None}
use Rattle.sng_text.specs.declared.qos.Qos.{Qos}
use Rattle.sng_text.specs.declared.qos.Qos.TheVariants.{AtMostOnce, AtLeastOnce}
use Rattle.sng_ids.specs.Ids.{Ids, id_for}
use Rattle.sng_frames.specs.Writing.{written}
use Rattle.sng_frames.specs.declared.flags.Flags.{Flags}
use Rattle.sng_frames.specs.declared.flags.TopicIdType.{TopicIdType}
use Rattle.sng_frames.specs.declared.flags.TopicIdType.TheVariants.{Normal, Predefined, Short, Reserved}
use Rattle.sng_frames.specs.declared.qos.FrameQos.{FrameQos}
use Rattle.sng_frames.specs.declared.qos.FrameQos.TheVariants as qos
use Rattle.sng_frames.specs.declared.messages.connect.Connect.{Connect}
use Rattle.sng_frames.specs.declared.messages.publish.Publish.{Publish}
use Rattle.sng_frames.specs.declared.messages.subscribe.TopicRequest.{TopicRequest}
use Rattle.sng_frames.specs.declared.frame.SnFrame.{SnFrame}
use Rattle.sng_frames.specs.declared.frame.SnFrame.TheVariants as frame
use Rattle.sng_frames.specs.declared.return_code.ReturnCode.{ReturnCode}
use Rattle.sng_frames.specs.declared.return_code.TheConstants.ReturnCode.{ACCEPTED, CONGESTION}
use Rattle.sng_frames.specs.declared.return_code.TheConstants.ReturnCode.{INVALID_TOPIC_ID, NOT_SUPPORTED}
use Rattle.sng_book.specs.declared.address.Address.{Address}
use Rattle.sng_book.specs.declared.decision.Decision.{Decision}
use Rattle.sng_book.specs.declared.decision.Decision.TheVariants as note
use Rattle.sng_book.specs.declared.decision.Who.{Who}
use Rattle.sng_book.specs.declared.outcome.Denial.{Denial}
use Rattle.sng_book.specs.declared.outcome.Denial.TheVariants.{Form, Grant, Room, Peer}
use Rattle.sng_book.specs.declared.outcome.FormDenial.{FormDenial}
use Rattle.sng_book.specs.declared.outcome.FormDenial.TheVariants.{Malformed, NotSupported, NoSession}
use Rattle.sng_book.specs.declared.outcome.FormDenial.TheVariants.{BadName, BadFilter, IdType}
use Rattle.sng_book.specs.declared.outcome.FormDenial.TheVariants.{UnknownId, OutOfTurn}
use Rattle.sng_book.specs.declared.outcome.RoomDenial.{RoomDenial}
use Rattle.sng_book.specs.declared.outcome.RoomDenial.TheVariants.{UpstreamDown, Full, TooLong}
use Rattle.sng_book.specs.declared.outcome.Outcome.TheVariants.{Denied}
use Rattle.sng_book.specs.declared.out.Out.{Out}
use Rattle.sng_book.specs.declared.out.Out.TheVariants.{Send}
use Rattle.sng_history.specs.Causes.{Statement, StatesTopic, StatesMessage, UpdatesTopic, UpdatesMessage}
use Rattle.sng_history.specs.Requests.{granted, gets_id, id_in}

-- a message that is denied before a name was read: an ask under its own kind, any other as a frame. A CONNECT
-- has a row of its own
abbrev pub denied_note : SnFrame → Who → Denial → Decision
denied_note (frame.Connect connect) who rule = note.Frame who (Denied rule)
denied_note (frame.Register register) who rule = note.Register who None (Denied rule)
denied_note (frame.Publish p) who rule = note.Publish who None (Denied rule)
denied_note (frame.Subscribe request) who rule = note.Subscribe who None (Denied rule)
denied_note (frame.Unsubscribe request) who rule = note.Unsubscribe who None (Denied rule)
denied_note (frame.WillTopic topic) who rule = note.Will who None (Denied rule)
denied_note (frame.WillMessage message) who rule = note.Will who None (Denied rule)
denied_note (frame.WillTopicUpdate topic) who rule = note.Will who None (Denied rule)
denied_note (frame.WillMessageUpdate message) who rule = note.Will who None (Denied rule)
denied_note (frame.ConnectAck code) who rule = note.Frame who (Denied rule)
denied_note frame.WillTopicRequest who rule = note.Frame who (Denied rule)
denied_note frame.WillMessageRequest who rule = note.Frame who (Denied rule)
denied_note (frame.RegisterAck answer) who rule = note.Frame who (Denied rule)
denied_note (frame.PublishAck answer) who rule = note.Frame who (Denied rule)
denied_note (frame.PublishComplete id) who rule = note.Frame who (Denied rule)
denied_note (frame.PublishReceived id) who rule = note.Frame who (Denied rule)
denied_note (frame.PublishRelease id) who rule = note.Frame who (Denied rule)
denied_note (frame.SubscribeAck answer) who rule = note.Frame who (Denied rule)
denied_note (frame.UnsubscribeAck id) who rule = note.Frame who (Denied rule)
denied_note (frame.PingRequest client) who rule = note.Frame who (Denied rule)
denied_note frame.PingResponse who rule = note.Frame who (Denied rule)
denied_note (frame.Disconnect duration) who rule = note.Frame who (Denied rule)
denied_note (frame.WillTopicResponse code) who rule = note.Frame who (Denied rule)
denied_note (frame.WillMessageResponse code) who rule = note.Frame who (Denied rule)

-- the ReturnCode of a rule
abbrev pub form_code : FormDenial → ReturnCode
form_code (UnknownId kind id) = INVALID_TOPIC_ID
form_code Malformed = NOT_SUPPORTED
form_code NotSupported = NOT_SUPPORTED
form_code NoSession = NOT_SUPPORTED
form_code BadName = NOT_SUPPORTED
form_code BadFilter = NOT_SUPPORTED
form_code IdType = NOT_SUPPORTED
form_code OutOfTurn = NOT_SUPPORTED

abbrev pub room_code : RoomDenial → ReturnCode
room_code UpstreamDown = CONGESTION
room_code (Full place) = CONGESTION
room_code TooLong = NOT_SUPPORTED

abbrev pub code_of : Denial → ReturnCode
code_of (Form rule) = form_code rule
code_of (Grant rule) = NOT_SUPPORTED
code_of (Room rule) = room_code rule
code_of (Peer rule) = NOT_SUPPORTED

-- no flag of a refused SUBACK is set
abbrev pub no_flags : Flags
no_flags =
    record {
      dup = false;
      qos = qos.AtMostOnce;
      retain = false;
      will = false;
      clean = false;
      id_type = Normal;
    }

-- the acknowledgement of a client's message that is refused; what is not an ask has none
abbrev pub refusal : SnFrame → ReturnCode → Option SnFrame
refusal (frame.Register register) code =
    Some (frame.RegisterAck (record { topic_id = 0; msg_id = register.msg_id; code = code }))
refusal (frame.Publish p) code =
    Some (frame.PublishAck (record { topic_id = p.topic_id; msg_id = p.msg_id; code = code }))
refusal (frame.Subscribe request) code =
    Some (frame.SubscribeAck (record {
      flags = no_flags;
      topic_id = 0;
      msg_id = request.msg_id;
      code = code;
    }))
refusal (frame.Unsubscribe request) code = Some (frame.UnsubscribeAck request.msg_id)
refusal (frame.WillTopicUpdate topic) code = Some (frame.WillTopicResponse code)
refusal (frame.WillMessageUpdate message) code = Some (frame.WillMessageResponse code)
refusal (frame.Connect connect) code = None
refusal (frame.ConnectAck answer) code = None
refusal frame.WillTopicRequest code = None
refusal (frame.WillTopic topic) code = None
refusal frame.WillMessageRequest code = None
refusal (frame.WillMessage message) code = None
refusal (frame.RegisterAck answer) code = None
refusal (frame.PublishAck answer) code = None
refusal (frame.PublishComplete id) code = None
refusal (frame.PublishReceived id) code = None
refusal (frame.PublishRelease id) code = None
refusal (frame.SubscribeAck answer) code = None
refusal (frame.UnsubscribeAck id) code = None
refusal (frame.PingRequest client) code = None
refusal frame.PingResponse code = None
refusal (frame.Disconnect duration) code = None
refusal (frame.WillTopicResponse answer) code = None
refusal (frame.WillMessageResponse answer) code = None

abbrev pub sent_to : Address → Option SnFrame → List Out
sent_to to None = []
sent_to to (Some message) = Send to (written message) ∷ []

abbrev pub refused : Address → SnFrame → Denial → List Out
refused to message rule = sent_to to (refusal message (code_of rule))

-- the acknowledgement of a REGISTER that is allowed tells the id; that of a PUBLISH is sent at QoS 1 (MQTT-SN
-- 1.2, 5.4.11 and 5.4.13)
abbrev pub regack : Address → ℕ → ℕ → Out
regack to topic_id msg_id =
    Send to (written (frame.RegisterAck (record { topic_id = topic_id; msg_id = msg_id; code = ACCEPTED })))

abbrev pub puback : Address → Publish → FrameQos → List Out
puback to p qos.AtLeastOnce =
    Send to (written (frame.PublishAck
    (record { topic_id = p.topic_id; msg_id = p.msg_id; code = ACCEPTED }))) ∷ []
puback to p qos.AtMostOnce = []
puback to p qos.ExactlyOnce = []
puback to p qos.WithoutSession = []

-- that of one at QoS 2 is PUBREC, which PUBREL and PUBCOMP follow (MQTT-SN 1.2, 5.4.14 and 6.6)
abbrev pub pubrec : Address → ℕ → Out
pubrec to msg_id = Send to (written (frame.PublishReceived msg_id))

abbrev pub pubcomp : Address → ℕ → Out
pubcomp to msg_id = Send to (written (frame.PublishComplete msg_id))

-- the SUBACK of a SUBSCRIBE that is allowed says the QoS that is granted, and the topic id: the predefined
-- one that came, or the one that a name gets; a filter with wildcards and a name of two octets have none
-- (MQTT-SN 1.2, 5.4.16)
abbrev pub flags_of : Qos → Flags
flags_of AtMostOnce = no_flags
flags_of AtLeastOnce = record no_flags { qos = qos.AtLeastOnce }

abbrev pub id_given : TopicIdType → List ℕ → Ids → List ℕ → ℕ
id_given Predefined topic ids filter = id_in topic
id_given Normal topic ids filter = if gets_id Normal filter then id_for filter ids else 0
id_given Short topic ids filter = 0
id_given Reserved topic ids filter = 0

abbrev pub suback : Address → TopicRequest → Ids → List ℕ → Out
suback to r ids filter =
    Send to (written (frame.SubscribeAck (record {
      flags = flags_of (granted r.flags.qos);
      topic_id = id_given r.flags.id_type r.topic ids filter;
      msg_id = r.msg_id;
      code = ACCEPTED;
    })))

-- the UNSUBACK (MQTT-SN 1.2, 5.4.18)
abbrev pub unsuback : Address → TopicRequest → Out
unsuback to r = Send to (written (frame.UnsubscribeAck r.msg_id))

-- the CONNACK with a code, and the PINGRESP
abbrev pub connack : Address → ReturnCode → Out
connack to code = Send to (written (frame.ConnectAck code))

abbrev pub pong : Address → Out
pong to = Send to (written frame.PingResponse)

-- a DISCONNECT says that there is no session at the address any more, or none at all (MQTT-SN 1.2, 6.14)
abbrev pub dismissed : Address → Out
dismissed to = Send to (written (frame.Disconnect None))

-- what a CONNECT that is accepted is answered: one with Will by WILLTOPICREQ, any other by CONNACK (MQTT-SN
-- 1.2, 6.2 and 6.3)
abbrev pub welcome : Connect → Address → Out
welcome connect to =
    if connect.flags.will then Send to (written frame.WillTopicRequest) else connack to ACCEPTED

-- the answer to a statement of a will that is allowed: a WILLTOPIC with a topic lets its message be asked
-- for, the end of the dialogue is answered by CONNACK, and an update by its own acknowledgement
abbrev pub statement_answer : Statement → Address → Out
statement_answer (StatesTopic None) to = connack to ACCEPTED
statement_answer (StatesTopic (Some topic)) to = Send to (written frame.WillMessageRequest)
statement_answer (StatesMessage message) to = connack to ACCEPTED
statement_answer (UpdatesTopic topic) to = Send to (written (frame.WillTopicResponse ACCEPTED))
statement_answer (UpdatesMessage message) to = Send to (written (frame.WillMessageResponse ACCEPTED))

-- one that is denied ends the dialogue, which CONNACK says; out of turn it ends nothing, and is not answered
abbrev pub dialogue_ended : Address → Denial → List Out
dialogue_ended to (Form OutOfTurn) = []
dialogue_ended to rule = connack to (code_of rule) ∷ []

abbrev pub statement_refused : Statement → Address → Denial → List Out
statement_refused (StatesTopic topic) to rule = dialogue_ended to rule
statement_refused (StatesMessage message) to rule = dialogue_ended to rule
statement_refused (UpdatesTopic topic) to rule = refused to (frame.WillTopicUpdate topic) rule
statement_refused (UpdatesMessage message) to rule = refused to (frame.WillMessageUpdate message) rule
