-- The types of messages (MQTT-SN 1.2, 5.2.2) and their octets.
use Rattle.std.specs.Prelude.{ℕ, ◌==◌, List, [], ◌∷◌, find}
use Rattle.std.specs.declared.option.Option.{Option}
use Rattle.sng_frames.specs.declared.message_type.MessageType.{MessageType}
use Rattle.sng_frames.specs.declared.message_type.MessageType.TheVariants.{Connect, ConnectAck}
use Rattle.sng_frames.specs.declared.message_type.MessageType.TheVariants.{WillTopicRequest, WillTopic}
use Rattle.sng_frames.specs.declared.message_type.MessageType.TheVariants.{WillMessageRequest, WillMessage}
use Rattle.sng_frames.specs.declared.message_type.MessageType.TheVariants.{Register, RegisterAck, Publish}
use Rattle.sng_frames.specs.declared.message_type.MessageType.TheVariants.{PublishAck, PublishComplete}
use Rattle.sng_frames.specs.declared.message_type.MessageType.TheVariants.{PublishReceived, PublishRelease}
use Rattle.sng_frames.specs.declared.message_type.MessageType.TheVariants.{Subscribe, SubscribeAck}
use Rattle.sng_frames.specs.declared.message_type.MessageType.TheVariants.{Unsubscribe, UnsubscribeAck}
use Rattle.sng_frames.specs.declared.message_type.MessageType.TheVariants.{PingRequest, PingResponse}
use Rattle.sng_frames.specs.declared.message_type.MessageType.TheVariants.{Disconnect, WillTopicUpdate}
use Rattle.sng_frames.specs.declared.message_type.MessageType.TheVariants.{WillTopicResponse}
use Rattle.sng_frames.specs.declared.message_type.MessageType.TheVariants.{WillMessageUpdate}
use Rattle.sng_frames.specs.declared.message_type.MessageType.TheVariants.{WillMessageResponse}

-- the octet of a type
abbrev pub octet_of : MessageType → ℕ
octet_of Connect = 0x04
octet_of ConnectAck = 0x05
octet_of WillTopicRequest = 0x06
octet_of WillTopic = 0x07
octet_of WillMessageRequest = 0x08
octet_of WillMessage = 0x09
octet_of Register = 0x0a
octet_of RegisterAck = 0x0b
octet_of Publish = 0x0c
octet_of PublishAck = 0x0d
octet_of PublishComplete = 0x0e
octet_of PublishReceived = 0x0f
octet_of PublishRelease = 0x10
octet_of Subscribe = 0x12
octet_of SubscribeAck = 0x13
octet_of Unsubscribe = 0x14
octet_of UnsubscribeAck = 0x15
octet_of PingRequest = 0x16
octet_of PingResponse = 0x17
octet_of Disconnect = 0x18
octet_of WillTopicUpdate = 0x1a
octet_of WillTopicResponse = 0x1b
octet_of WillMessageUpdate = 0x1c
octet_of WillMessageResponse = 0x1d

-- the types of the frames that are read and written
abbrev pub all_types : List MessageType
all_types =
    Connect ∷ ConnectAck ∷ WillTopicRequest ∷ WillTopic ∷ WillMessageRequest ∷ WillMessage
    ∷ Register ∷ RegisterAck ∷ Publish ∷ PublishAck ∷ PublishComplete ∷ PublishReceived
    ∷ PublishRelease ∷ Subscribe ∷ SubscribeAck ∷ Unsubscribe ∷ UnsubscribeAck ∷ PingRequest
    ∷ PingResponse ∷ Disconnect ∷ WillTopicUpdate ∷ WillTopicResponse ∷ WillMessageUpdate ∷
    WillMessageResponse ∷ []

-- the type whose octet that is, where one has it
abbrev pub type_of_octet : ℕ → Option MessageType
type_of_octet octet = find (λ t. octet == octet_of t) all_types
