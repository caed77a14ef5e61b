-- The bytes that a frame is encoded as, with the shortest Length (MQTT-SN 1.2, 5.2 to 5.4).
use Rattle.std.specs.Prelude.{ℕ, ◌≤◌, ◌+◌, ◌/◌, ◌%◌, nat_lt, List, [], ◌∷◌, length}
use Rattle.std.specs.Prelude.{if◌then◌else◌}
use Rattle.std.specs.Prelude.{Some, None}
use Rattle.std.specs.declared.option.Option.{Option}
use Rattle.sng_frames.specs.declared.messages.connect.Connect.{Connect}
use Rattle.sng_frames.specs.declared.messages.publish.Publish.{Publish}
use Rattle.sng_frames.specs.declared.messages.register.Register.{Register}
use Rattle.sng_frames.specs.declared.frame.SnFrame.{SnFrame}
use Rattle.sng_frames.specs.declared.frame.SnFrame.TheVariants as variants
use Rattle.sng_frames.specs.declared.messages.acks.SubscribeAck.{SubscribeAck}
use Rattle.sng_frames.specs.declared.messages.acks.TopicAck.{TopicAck}
use Rattle.sng_frames.specs.declared.messages.subscribe.TopicRequest.{TopicRequest}
use Rattle.sng_frames.specs.declared.messages.will.WillTopic.{WillTopic}
use Rattle.sng_frames.specs.declared.limits.TheConstants.{MAX_DATAGRAM, MAX_SHORT_LENGTH}
use Rattle.sng_frames.specs.declared.return_code.ReturnCode.{ReturnCode}
use Rattle.sng_frames.specs.FlagsOctet.{flags_octet}
use Rattle.sng_frames.specs.Grammar.{Spells, type_of}
use Rattle.sng_frames.specs.MessageTypes.{octet_of}

-- a number behind which something stands, high octet first (5.3)
abbrev pub number_then : ℕ → List ℕ → List ℕ
number_then n octets = n / 256 ∷ n % 256 ∷ octets

abbrev pub connect_part : Connect → List ℕ
connect_part c = flags_octet c.flags ∷ c.protocol_id ∷ number_then c.duration c.client_id

abbrev pub code_part : ReturnCode → List ℕ
code_part code = code.0 ∷ []

abbrev pub will_topic_part : Option WillTopic → List ℕ
will_topic_part None = []
will_topic_part (Some w) = flags_octet w.flags ∷ w.topic

abbrev pub register_part : Register → List ℕ
register_part r = number_then r.topic_id (number_then r.msg_id r.name)

abbrev pub topic_ack_part : TopicAck → List ℕ
topic_ack_part a = number_then a.topic_id (number_then a.msg_id (code_part a.code))

abbrev pub publish_part : Publish → List ℕ
publish_part p = flags_octet p.flags ∷ number_then p.topic_id (number_then p.msg_id p.payload)

abbrev pub topic_request_part : TopicRequest → List ℕ
topic_request_part r = flags_octet r.flags ∷ number_then r.msg_id r.topic

abbrev pub subscribe_ack_part : SubscribeAck → List ℕ
subscribe_ack_part a =
    flags_octet a.flags ∷ number_then a.topic_id (number_then a.msg_id (code_part a.code))

abbrev pub ping_part : Option (List ℕ) → List ℕ
ping_part None = []
ping_part (Some client_id) = client_id

abbrev pub duration_part : Option ℕ → List ℕ
duration_part None = []
duration_part (Some duration) = number_then duration []

-- the variable part of a frame
abbrev pub part_of : SnFrame → List ℕ
part_of (variants.Connect c) = connect_part c
part_of (variants.ConnectAck code) = code_part code
part_of variants.WillTopicRequest = []
part_of (variants.WillTopic w) = will_topic_part w
part_of variants.WillMessageRequest = []
part_of (variants.WillMessage message) = message
part_of (variants.Register r) = register_part r
part_of (variants.RegisterAck a) = topic_ack_part a
part_of (variants.Publish p) = publish_part p
part_of (variants.PublishAck a) = topic_ack_part a
part_of (variants.PublishComplete msg_id) = number_then msg_id []
part_of (variants.PublishReceived msg_id) = number_then msg_id []
part_of (variants.PublishRelease msg_id) = number_then msg_id []
part_of (variants.Subscribe r) = topic_request_part r
part_of (variants.SubscribeAck a) = subscribe_ack_part a
part_of (variants.Unsubscribe r) = topic_request_part r
part_of (variants.UnsubscribeAck msg_id) = number_then msg_id []
part_of (variants.PingRequest client_id) = ping_part client_id
part_of variants.PingResponse = []
part_of (variants.Disconnect duration) = duration_part duration
part_of (variants.WillTopicUpdate w) = will_topic_part w
part_of (variants.WillTopicResponse code) = code_part code
part_of (variants.WillMessageUpdate message) = message
part_of (variants.WillMessageResponse code) = code_part code

-- a message behind its Length, which has one octet as long as that can count them, and else three (5.2.1)
abbrev pub framed : ℕ → List ℕ → List ℕ
framed kind part =
    if nat_lt MAX_SHORT_LENGTH (length part + 2)
    then 0x01 ∷ number_then (length part + 4) (kind ∷ part)
    else (length part + 2) ∷ kind ∷ part

abbrev pub written : SnFrame → List ℕ
written frame = framed (octet_of (type_of frame)) (part_of frame)

-- the frame has no spelling, though its bytes would not be too many
pub record HasNoSpelling (frame : SnFrame) : Type 0 where
  pub short : length (written frame) ≤ MAX_DATAGRAM
  pub none : (b : List ℕ) → ¬ Spells frame b
