-- What an event asks of the gateway: a datagram as the message that it holds (MQTT-SN 1.2, 5.4), anything
-- else as it is. A message that is taken one day is one more case of a request.
use Rattle.std.specs.Prelude.{ℕ, List, Option, Some, None, Ok, Err}
use Rattle.std.specs.declared.result.Result.{Result}
use Rattle.sng_grants.specs.declared.policy.Policy.{Policy}
use Rattle.mqtt_frames.specs.declared.packet.Packet.{Packet}
use Rattle.sng_frames.specs.Reading.{frame_of}
use Rattle.sng_frames.specs.declared.fault.FrameFault.{FrameFault}
use Rattle.sng_frames.specs.declared.fault.FrameFault.TheVariants as fault
use Rattle.sng_frames.specs.declared.qos.FrameQos.{FrameQos}
use Rattle.sng_frames.specs.declared.qos.FrameQos.TheVariants as qos
use Rattle.sng_frames.specs.declared.messages.connect.Connect.{Connect}
use Rattle.sng_frames.specs.declared.messages.publish.Publish.{Publish}
use Rattle.sng_frames.specs.declared.messages.register.Register.{Register}
use Rattle.sng_frames.specs.declared.messages.acks.TopicAck.{TopicAck}
use Rattle.sng_frames.specs.declared.messages.subscribe.TopicRequest.{TopicRequest}
use Rattle.sng_frames.specs.declared.messages.will.WillTopic.{WillTopic}
use Rattle.sng_frames.specs.declared.frame.SnFrame.{SnFrame}
use Rattle.sng_frames.specs.declared.frame.SnFrame.TheVariants as frame
use Rattle.sng_book.specs.declared.address.Address.{Address}
use Rattle.sng_book.specs.declared.outcome.Denial.{Denial}
use Rattle.sng_book.specs.declared.outcome.Denial.TheVariants.{Form}
use Rattle.sng_book.specs.declared.outcome.FormDenial.TheVariants.{Malformed, NotSupported}
use Rattle.sng_book.specs.declared.event.Event.{Event}
use Rattle.sng_book.specs.declared.event.Event.TheVariants as event

-- what a client states of its will (MQTT-SN 1.2, 6.3 and 6.4)
pub data Statement : Type 0 where
  -- in the dialogue behind a CONNECT: a WILLTOPIC, where it has none to delete the will, and a WILLMSG
  StatesTopic : Option WillTopic → Statement
  StatesMessage : List ℕ → Statement
  -- later: a WILLTOPICUPD, and a WILLMSGUPD
  UpdatesTopic : Option WillTopic → Statement
  UpdatesMessage : List ℕ → Statement

-- what a message of a session is about, where it is no CONNECT
pub data Request : Type 0 where
  -- a PINGREQ, with the client's id where it has one
  ToPing : Option (List ℕ) → Request
  -- a DISCONNECT without Duration
  ToLeave : Request
  -- a DISCONNECT with a Duration, in seconds
  ToSleep : ℕ → Request
  -- a REGISTER
  ToRegister : Register → Request
  -- a PUBLISH at QoS 0 or 1
  ToPublish : Publish → Request
  -- a PUBLISH at QoS 2
  ToPublishOnce : Publish → Request
  -- a PUBREL, with the MsgId of the publish that it releases
  ToRelease : ℕ → Request
  -- a SUBSCRIBE
  ToSubscribe : TopicRequest → Request
  -- an UNSUBSCRIBE
  ToUnsubscribe : TopicRequest → Request
  -- a REGACK, by which a client answers an announcement
  ToConfirm : TopicAck → Request
  -- a PUBACK
  ToAcknowledge : TopicAck → Request
  -- a message about the client's will
  ToState : Statement → Request
  -- a message of a type or form that is not taken
  Untaken : SnFrame → Request

pub data Cause : Type 0 where
  -- a CONNECT came from the address
  ByConnect : Address → Connect → Cause
  -- any other message of a session
  ByMessage : Address → Request → Cause
  -- a PUBLISH without a session
  BySource : Address → Publish → Cause
  -- a datagram that is not a message, by the rule that it breaks
  ByBroken : Address → Denial → Cause
  -- a packet of the broker
  ByPacket : Packet → Cause
  ByUp : Cause
  ByDown : Cause
  ByTake : Cause
  ByReplace : Policy → Cause
  ByTick : ℕ → Cause

-- the rule that a datagram breaks which is not a message; reading answers no other fault than the first two
abbrev pub rule_of : FrameFault → Denial
rule_of fault.Malformed = Form Malformed
rule_of fault.NotSupported = Form NotSupported
rule_of fault.TooLong = Form Malformed
rule_of fault.Memory = Form Malformed

abbrev pub publish_cause : Address → Publish → FrameQos → Cause
publish_cause from p qos.WithoutSession = BySource from p
publish_cause from p qos.AtMostOnce = ByMessage from (ToPublish p)
publish_cause from p qos.AtLeastOnce = ByMessage from (ToPublish p)
publish_cause from p qos.ExactlyOnce = ByMessage from (ToPublishOnce p)

abbrev pub disconnect_cause : Address → Option ℕ → Cause
disconnect_cause from None = ByMessage from ToLeave
disconnect_cause from (Some duration) = ByMessage from (ToSleep duration)

abbrev pub frame_cause : Address → SnFrame → Cause
frame_cause from (frame.Connect connect) = ByConnect from connect
frame_cause from (frame.Publish p) = publish_cause from p p.flags.qos
frame_cause from (frame.PingRequest client) = ByMessage from (ToPing client)
frame_cause from (frame.Disconnect duration) = disconnect_cause from duration
frame_cause from (frame.ConnectAck code) = ByMessage from (Untaken (frame.ConnectAck code))
frame_cause from frame.WillTopicRequest = ByMessage from (Untaken frame.WillTopicRequest)
frame_cause from (frame.WillTopic topic) = ByMessage from (ToState (StatesTopic topic))
frame_cause from frame.WillMessageRequest = ByMessage from (Untaken frame.WillMessageRequest)
frame_cause from (frame.WillMessage message) = ByMessage from (ToState (StatesMessage message))
frame_cause from (frame.Register register) = ByMessage from (ToRegister register)
frame_cause from (frame.RegisterAck answer) = ByMessage from (ToConfirm answer)
frame_cause from (frame.PublishAck answer) = ByMessage from (ToAcknowledge answer)
frame_cause from (frame.PublishComplete id) = ByMessage from (Untaken (frame.PublishComplete id))
frame_cause from (frame.PublishReceived id) = ByMessage from (Untaken (frame.PublishReceived id))
frame_cause from (frame.PublishRelease id) = ByMessage from (ToRelease id)
frame_cause from (frame.Subscribe request) = ByMessage from (ToSubscribe request)
frame_cause from (frame.SubscribeAck answer) = ByMessage from (Untaken (frame.SubscribeAck answer))
frame_cause from (frame.Unsubscribe request) = ByMessage from (ToUnsubscribe request)
frame_cause from (frame.UnsubscribeAck id) = ByMessage from (Untaken (frame.UnsubscribeAck id))
frame_cause from frame.PingResponse = ByMessage from (Untaken frame.PingResponse)
frame_cause from (frame.WillTopicUpdate topic) = ByMessage from (ToState (UpdatesTopic topic))
frame_cause from (frame.WillTopicResponse code) = ByMessage from (Untaken (frame.WillTopicResponse code))
frame_cause from (frame.WillMessageUpdate message) = ByMessage from (ToState (UpdatesMessage message))
frame_cause from (frame.WillMessageResponse code) = ByMessage from (Untaken (frame.WillMessageResponse code))

abbrev pub datagram_cause : Address → Result SnFrame FrameFault → Cause
datagram_cause from (Ok message) = frame_cause from message
datagram_cause from (Err broke) = ByBroken from (rule_of broke)

abbrev pub cause_of : Event → Cause
cause_of (event.Datagram from datagram) = datagram_cause from (frame_of datagram)
cause_of (event.Broker p) = ByPacket p
cause_of event.Up = ByUp
cause_of event.Down = ByDown
cause_of event.Take = ByTake
cause_of (event.Replace policy) = ByReplace policy
cause_of (event.Tick clock) = ByTick clock

-- the PUBLISH of a session that the event holds, where it holds one
abbrev pub publish_asked : Request → Option Publish
publish_asked (ToPublish p) = Some p
publish_asked (ToPublishOnce p) = Some p
publish_asked (ToRelease id) = None
publish_asked (ToPing client) = None
publish_asked ToLeave = None
publish_asked (ToSleep duration) = None
publish_asked (ToRegister r) = None
publish_asked (ToSubscribe r) = None
publish_asked (ToUnsubscribe r) = None
publish_asked (ToConfirm r) = None
publish_asked (ToAcknowledge r) = None
publish_asked (ToState statement) = None
publish_asked (Untaken message) = None

-- the SUBSCRIBE
abbrev pub subscribe_asked : Request → Option TopicRequest
subscribe_asked (ToSubscribe r) = Some r
subscribe_asked (ToPing client) = None
subscribe_asked ToLeave = None
subscribe_asked (ToSleep duration) = None
subscribe_asked (ToRegister r) = None
subscribe_asked (ToPublish p) = None
subscribe_asked (ToPublishOnce p) = None
subscribe_asked (ToRelease id) = None
subscribe_asked (ToUnsubscribe r) = None
subscribe_asked (ToConfirm r) = None
subscribe_asked (ToAcknowledge r) = None
subscribe_asked (ToState statement) = None
subscribe_asked (Untaken message) = None

-- the statement of a will
abbrev pub statement_asked : Request → Option Statement
statement_asked (ToState statement) = Some statement
statement_asked (ToPing client) = None
statement_asked ToLeave = None
statement_asked (ToSleep duration) = None
statement_asked (ToRegister r) = None
statement_asked (ToPublish p) = None
statement_asked (ToPublishOnce p) = None
statement_asked (ToRelease id) = None
statement_asked (ToSubscribe r) = None
statement_asked (ToUnsubscribe r) = None
statement_asked (ToConfirm r) = None
statement_asked (ToAcknowledge r) = None
statement_asked (Untaken message) = None

-- the MsgId that is open once the note of the PUBLISH allows it: one at QoS 2 (MQTT-SN 1.2, 6.6; MQTT 3.1.1,
-- 4.3.3)
abbrev pub id_opened : Request → Option ℕ
id_opened (ToPublishOnce p) = Some p.msg_id
id_opened (ToRelease id) = None
id_opened (ToPublish p) = None
id_opened (ToPing client) = None
id_opened ToLeave = None
id_opened (ToSleep duration) = None
id_opened (ToRegister r) = None
id_opened (ToSubscribe r) = None
id_opened (ToUnsubscribe r) = None
id_opened (ToConfirm r) = None
id_opened (ToAcknowledge r) = None
id_opened (ToState statement) = None
id_opened (Untaken message) = None

-- the message that it holds is about this
abbrev pub request_of : Cause → Option Request
request_of (ByMessage from request) = Some request
request_of (ByConnect from connect) = None
request_of (BySource from p) = None
request_of (ByBroken from rule) = None
request_of (ByPacket p) = None
request_of ByUp = None
request_of ByDown = None
request_of ByTake = None
request_of (ByReplace policy) = None
request_of (ByTick clock) = None
