-- What message a datagram holds, as far as the views ask: a CONNECT, a REGISTER, a PUBLISH, a PUBREL, a
-- SUBSCRIBE, an UNSUBSCRIBE, a REGACK, a PUBACK, one about a will, a PINGREQ, a DISCONNECT with Duration, or
-- another one.
use Rattle.std.specs.Prelude.{ℕ, Bool, true, false, List, Option, Some, None, Ok, Err, if◌then◌else◌}
use Rattle.std.specs.declared.result.Result.{Result}
use Rattle.sng_frames.specs.Reading.{frame_of}
use Rattle.sng_frames.specs.declared.fault.FrameFault.{FrameFault}
use Rattle.sng_frames.specs.declared.qos.FrameQos.{FrameQos}
use Rattle.sng_frames.specs.declared.qos.FrameQos.TheVariants as qos
use Rattle.sng_frames.specs.declared.messages.connect.Connect.{Connect}
use Rattle.sng_frames.specs.declared.messages.acks.TopicAck.{TopicAck}
use Rattle.sng_frames.specs.declared.messages.publish.Publish.{Publish}
use Rattle.sng_frames.specs.declared.messages.register.Register.{Register}
use Rattle.sng_frames.specs.declared.messages.subscribe.TopicRequest.{TopicRequest}
use Rattle.sng_frames.specs.declared.frame.SnFrame.{SnFrame}
use Rattle.sng_frames.specs.declared.frame.SnFrame.TheVariants as frame
use Rattle.sng_book.specs.declared.event.Event.{Event}
use Rattle.sng_book.specs.declared.event.Event.TheVariants.{Datagram}
use Rattle.sng_history.specs.Causes.{Statement, StatesTopic, StatesMessage, UpdatesTopic, UpdatesMessage}

pub data Message : Type 0 where
  Connects : Connect → Message
  Registers : Register → Message
  Publishes : Publish → Message
  -- a PUBREL, with its MsgId
  Releases : ℕ → Message
  Subscribes : TopicRequest → Message
  Unsubscribes : TopicRequest → Message
  -- a REGACK, and a PUBACK
  Confirms : TopicAck → Message
  Acknowledges : TopicAck → Message
  -- a WILLTOPIC, WILLMSG, WILLTOPICUPD or WILLMSGUPD
  States : Statement → Message
  -- a PINGREQ, with the client's id where it has one, and a DISCONNECT with Duration, in seconds
  Pings : Option (List ℕ) → Message
  Sleeps : ℕ → Message
  Other : Message

abbrev pub message_of : SnFrame → Message
message_of (frame.Connect connect) = Connects connect
message_of (frame.Register register) = Registers register
message_of (frame.Publish p) = Publishes p
message_of (frame.PublishRelease number) = Releases number
message_of (frame.Subscribe r) = Subscribes r
message_of (frame.Unsubscribe r) = Unsubscribes r
message_of (frame.WillTopic topic) = States (StatesTopic topic)
message_of (frame.WillMessage message) = States (StatesMessage message)
message_of (frame.RegisterAck answer) = Confirms answer
message_of (frame.PublishAck answer) = Acknowledges answer
message_of (frame.PingRequest client) = Pings client
message_of (frame.Disconnect (Some duration)) = Sleeps duration
message_of (frame.WillTopicUpdate topic) = States (UpdatesTopic topic)
message_of (frame.WillMessageUpdate message) = States (UpdatesMessage message)
message_of other = Other

-- the message, where the datagram is one
abbrev pub message_in : Result SnFrame FrameFault → Option Message
message_in (Ok message) = Some (message_of message)
message_in (Err broke) = None

-- the message that the event is, where it is one
abbrev pub message_at : Event → Option Message
message_at (Datagram from datagram) = message_in (frame_of datagram)
message_at other = None

-- the SUBSCRIBE among messages
abbrev pub subscribe_in : Option Message → Option TopicRequest
subscribe_in (Some (Subscribes r)) = Some r
subscribe_in other = None

-- a PUBLISH at QoS -1, which belongs to no session
abbrev pub is_without_session : FrameQos → Bool
is_without_session qos.WithoutSession = true
is_without_session other = false

-- a PUBLISH at QoS 2
abbrev pub is_exactly_once : FrameQos → Bool
is_exactly_once qos.ExactlyOnce = true
is_exactly_once other = false

-- the MsgId of the PUBLISH at QoS 2 among messages
abbrev pub number_opening : Option Message → Option ℕ
number_opening (Some (Publishes p)) = if is_exactly_once p.flags.qos then Some p.msg_id else None
number_opening other = None

-- the statement of a will among messages
abbrev pub statement_in : Option Message → Option Statement
statement_in (Some (States statement)) = Some statement
statement_in other = None

-- the CONNECT among messages
abbrev pub connect_in : Option Message → Option Connect
connect_in (Some (Connects connect)) = Some connect
connect_in other = None
