-- Which bytes spell which frame (MQTT-SN 1.2, 5.2 to 5.4), apart from how they are decoded or encoded.
use Rattle.std.specs.Prelude.{◌≡◌, ◌≢◌, ℕ, ◌+◌, ◌*◌, ◌^◌, ◌<◌, ◌≤◌, ◌⊎◌, true, List, [], ◌∷◌, length, Option}
use Rattle.std.specs.Prelude.{Some, None}
use Rattle.sng_text.specs.ClientIds.{is_client_id}
use Rattle.sng_frames.specs.declared.flags.Flags.{Flags}
use Rattle.sng_frames.specs.declared.flags.TopicIdType.{TopicIdType}
use Rattle.sng_frames.specs.declared.flags.TopicIdType.TheVariants.{Normal, Predefined, Short, Reserved}
use Rattle.sng_frames.specs.declared.messages.connect.Connect.{Connect}
use Rattle.sng_frames.specs.declared.messages.publish.Publish.{Publish}
use Rattle.sng_frames.specs.declared.messages.register.Register.{Register}
use Rattle.sng_frames.specs.declared.frame.SnFrame.{SnFrame}
use Rattle.sng_frames.specs.declared.frame.SnFrame.TheVariants as variants
use Rattle.sng_frames.specs.declared.messages.acks.SubscribeAck.{SubscribeAck}
use Rattle.sng_frames.specs.declared.messages.acks.TopicAck.{TopicAck}
use Rattle.sng_frames.specs.declared.messages.subscribe.TopicRequest.{TopicRequest}
use Rattle.sng_frames.specs.declared.messages.will.WillTopic.{WillTopic}
use Rattle.sng_frames.specs.declared.limits.TheConstants.{MAX_SHORT_LENGTH}
use Rattle.sng_frames.specs.declared.message_type.MessageType.{MessageType}
use Rattle.sng_frames.specs.declared.message_type.MessageType.TheVariants as types
use Rattle.sng_frames.specs.declared.return_code.ReturnCode.{ReturnCode}
use Rattle.sng_frames.specs.FlagsOctet.{flags_octet}
use Rattle.sng_frames.specs.MessageTypes.{octet_of}

-- the two octets are the number, the high one first (5.3)
pub record IsNumber (n high low : ℕ) : Type 0 where
  pub high_fits : high < 256
  pub low_fits : low < 256
  pub value : n ≡ high * 256 + low

-- Length in one octet: it counts itself, MsgType and the variable part, and is no 1
pub record SpellsShort (kind : ℕ) (part b : List ℕ) : Type 0 where
  pub octets : b ≡ (length part + 2) ∷ kind ∷ part
  pub fits : length part + 2 ≤ MAX_SHORT_LENGTH

-- Length in three octets: 1, and the number of all the octets
pub record SpellsLong (kind : ℕ) (part b : List ℕ) : Type 0 where
  pub high : ℕ
  pub low : ℕ
  pub total : IsNumber (length part + 4) high low
  pub octets : b ≡ 0x01 ∷ high ∷ low ∷ kind ∷ part

-- a message of that MsgType and variable part, in either spelling of its Length (5.2.1)
abbrev pub SpellsMessage : ℕ → List ℕ → List ℕ → Type 0
SpellsMessage kind part b = SpellsShort kind part b ⊎ SpellsLong kind part b

-- the variable part of a CONNECT: Flags, ProtocolId, Duration and ClientId (5.4.4)
pub record SpellsConnect (c : Connect) (part : List ℕ) : Type 0 where
  pub duration_high : ℕ
  pub duration_low : ℕ
  pub duration : IsNumber c.duration duration_high duration_low
  pub client_id : is_client_id c.client_id ≡ true
  pub octets : part ≡ flags_octet c.flags ∷ c.protocol_id ∷ duration_high ∷ duration_low ∷ c.client_id

-- a ReturnCode alone (5.4.5, 5.4.24, 5.4.25)
abbrev pub SpellsCode : ReturnCode → List ℕ → Type 0
SpellsCode code part = part ≡ code.0 ∷ []

-- a number alone: the MsgId of a PUBREC, PUBREL, PUBCOMP (5.4.14) or UNSUBACK (5.4.18), the Duration of a
-- DISCONNECT (5.4.21)
pub record SpellsNumber (n : ℕ) (part : List ℕ) : Type 0 where
  pub high : ℕ
  pub low : ℕ
  pub is : IsNumber n high low
  pub octets : part ≡ high ∷ low ∷ []

-- a will topic: Flags and the topic, or nothing at all where the will is deleted (5.4.7, 5.4.22)
abbrev pub SpellsWillTopic : Option WillTopic → List ℕ → Type 0
SpellsWillTopic None part = part ≡ []
SpellsWillTopic (Some w) part = part ≡ flags_octet w.flags ∷ w.topic

-- TopicId and MsgId, in front of other octets
pub record SpellsIds (topic_id msg_id : ℕ) (behind part : List ℕ) : Type 0 where
  pub topic_high : ℕ
  pub topic_low : ℕ
  pub topic : IsNumber topic_id topic_high topic_low
  pub msg_high : ℕ
  pub msg_low : ℕ
  pub msg : IsNumber msg_id msg_high msg_low
  pub octets : part ≡ topic_high ∷ topic_low ∷ msg_high ∷ msg_low ∷ behind

-- Flags, TopicId and MsgId, in front of other octets
pub record SpellsFlaggedIds (flags : Flags) (topic_id msg_id : ℕ) (behind part : List ℕ) : Type 0 where
  pub ids : List ℕ
  pub spelled : SpellsIds topic_id msg_id behind ids
  pub octets : part ≡ flags_octet flags ∷ ids

-- the variable part of a REGISTER: TopicId, MsgId and TopicName (5.4.10)
abbrev pub SpellsRegister : Register → List ℕ → Type 0
SpellsRegister r part = SpellsIds r.topic_id r.msg_id r.name part

-- the variable part of a REGACK or PUBACK: TopicId, MsgId and ReturnCode (5.4.11, 5.4.13)
abbrev pub SpellsTopicAck : TopicAck → List ℕ → Type 0
SpellsTopicAck a part = SpellsIds a.topic_id a.msg_id (a.code.0 ∷ []) part

-- the variable part of a PUBLISH: Flags, TopicId, MsgId and the data (5.4.12)
abbrev pub SpellsPublish : Publish → List ℕ → Type 0
SpellsPublish p part = SpellsFlaggedIds p.flags p.topic_id p.msg_id p.payload part

-- the octets in place of a TopicId: two for a predefined id or a short name, else any (5.4.15)
abbrev pub FitsType : TopicIdType → List ℕ → Type 0
FitsType Normal topic = Unit {0}
FitsType Predefined topic = length topic ≡ 2
FitsType Short topic = length topic ≡ 2
FitsType Reserved topic = Unit {0}

-- the variable part of a SUBSCRIBE or UNSUBSCRIBE: Flags, MsgId, and TopicName or TopicId (5.4.15, 5.4.17)
pub record SpellsTopicRequest (r : TopicRequest) (part : List ℕ) : Type 0 where
  pub msg_high : ℕ
  pub msg_low : ℕ
  pub msg : IsNumber r.msg_id msg_high msg_low
  pub topic : FitsType r.flags.id_type r.topic
  pub octets : part ≡ flags_octet r.flags ∷ msg_high ∷ msg_low ∷ r.topic

-- the variable part of a SUBACK: Flags, TopicId, MsgId and ReturnCode (5.4.16)
abbrev pub SpellsSubscribeAck : SubscribeAck → List ℕ → Type 0
SpellsSubscribeAck a part = SpellsFlaggedIds a.flags a.topic_id a.msg_id (a.code.0 ∷ []) part

-- the variable part of a PINGREQ: nothing, or the ClientId of a client that wakes up (5.4.19)
abbrev pub SpellsPing : Option (List ℕ) → List ℕ → Type 0
SpellsPing None part = part ≡ []
SpellsPing (Some client_id) part = (is_client_id client_id ≡ true) × (part ≡ client_id)

-- the variable part of a DISCONNECT: nothing, or a Duration (5.4.21)
abbrev pub SpellsDuration : Option ℕ → List ℕ → Type 0
SpellsDuration None part = part ≡ []
SpellsDuration (Some duration) part = SpellsNumber duration part

-- the variable part of a frame, message by message
abbrev pub SpellsPart : SnFrame → List ℕ → Type 0
SpellsPart (variants.Connect c) part = SpellsConnect c part
SpellsPart (variants.ConnectAck code) part = SpellsCode code part
SpellsPart variants.WillTopicRequest part = part ≡ []
SpellsPart (variants.WillTopic w) part = SpellsWillTopic w part
SpellsPart variants.WillMessageRequest part = part ≡ []
SpellsPart (variants.WillMessage message) part = part ≡ message
SpellsPart (variants.Register r) part = SpellsRegister r part
SpellsPart (variants.RegisterAck a) part = SpellsTopicAck a part
SpellsPart (variants.Publish p) part = SpellsPublish p part
SpellsPart (variants.PublishAck a) part = SpellsTopicAck a part
SpellsPart (variants.PublishComplete msg_id) part = SpellsNumber msg_id part
SpellsPart (variants.PublishReceived msg_id) part = SpellsNumber msg_id part
SpellsPart (variants.PublishRelease msg_id) part = SpellsNumber msg_id part
SpellsPart (variants.Subscribe r) part = SpellsTopicRequest r part
SpellsPart (variants.SubscribeAck a) part = SpellsSubscribeAck a part
SpellsPart (variants.Unsubscribe r) part = SpellsTopicRequest r part
SpellsPart (variants.UnsubscribeAck msg_id) part = SpellsNumber msg_id part
SpellsPart (variants.PingRequest client_id) part = SpellsPing client_id part
SpellsPart variants.PingResponse part = part ≡ []
SpellsPart (variants.Disconnect duration) part = SpellsDuration duration part
SpellsPart (variants.WillTopicUpdate w) part = SpellsWillTopic w part
SpellsPart (variants.WillTopicResponse code) part = SpellsCode code part
SpellsPart (variants.WillMessageUpdate message) part = part ≡ message
SpellsPart (variants.WillMessageResponse code) part = SpellsCode code part

-- the type of a frame
abbrev pub type_of : SnFrame → MessageType
type_of (variants.Connect _) = types.Connect
type_of (variants.ConnectAck _) = types.ConnectAck
type_of variants.WillTopicRequest = types.WillTopicRequest
type_of (variants.WillTopic _) = types.WillTopic
type_of variants.WillMessageRequest = types.WillMessageRequest
type_of (variants.WillMessage _) = types.WillMessage
type_of (variants.Register _) = types.Register
type_of (variants.RegisterAck _) = types.RegisterAck
type_of (variants.Publish _) = types.Publish
type_of (variants.PublishAck _) = types.PublishAck
type_of (variants.PublishComplete _) = types.PublishComplete
type_of (variants.PublishReceived _) = types.PublishReceived
type_of (variants.PublishRelease _) = types.PublishRelease
type_of (variants.Subscribe _) = types.Subscribe
type_of (variants.SubscribeAck _) = types.SubscribeAck
type_of (variants.Unsubscribe _) = types.Unsubscribe
type_of (variants.UnsubscribeAck _) = types.UnsubscribeAck
type_of (variants.PingRequest _) = types.PingRequest
type_of variants.PingResponse = types.PingResponse
type_of (variants.Disconnect _) = types.Disconnect
type_of (variants.WillTopicUpdate _) = types.WillTopicUpdate
type_of (variants.WillTopicResponse _) = types.WillTopicResponse
type_of (variants.WillMessageUpdate _) = types.WillMessageUpdate
type_of (variants.WillMessageResponse _) = types.WillMessageResponse

-- the bytes spell the frame
pub record Spells (frame : SnFrame) (b : List ℕ) : Type 0 where
  pub part : List ℕ
  pub variable : SpellsPart frame part
  pub message : SpellsMessage (octet_of (type_of frame)) part b

-- the numbers are numbers of two octets, and a ClientId is one: as in every frame that the program makes
abbrev pub IsInRange : SnFrame → Type 0
IsInRange (variants.Connect c) = (c.duration < 2 ^ 16) × (is_client_id c.client_id ≡ true)
IsInRange (variants.ConnectAck _) = Unit {0}
IsInRange variants.WillTopicRequest = Unit {0}
IsInRange (variants.WillTopic _) = Unit {0}
IsInRange variants.WillMessageRequest = Unit {0}
IsInRange (variants.WillMessage _) = Unit {0}
IsInRange (variants.Register r) = (r.topic_id < 2 ^ 16) × (r.msg_id < 2 ^ 16)
IsInRange (variants.RegisterAck a) = (a.topic_id < 2 ^ 16) × (a.msg_id < 2 ^ 16)
IsInRange (variants.Publish p) = (p.topic_id < 2 ^ 16) × (p.msg_id < 2 ^ 16)
IsInRange (variants.PublishAck a) = (a.topic_id < 2 ^ 16) × (a.msg_id < 2 ^ 16)
IsInRange (variants.PublishComplete msg_id) = msg_id < 2 ^ 16
IsInRange (variants.PublishReceived msg_id) = msg_id < 2 ^ 16
IsInRange (variants.PublishRelease msg_id) = msg_id < 2 ^ 16
IsInRange (variants.Subscribe r) = r.msg_id < 2 ^ 16
IsInRange (variants.SubscribeAck a) = (a.topic_id < 2 ^ 16) × (a.msg_id < 2 ^ 16)
IsInRange (variants.Unsubscribe r) = r.msg_id < 2 ^ 16
IsInRange (variants.UnsubscribeAck msg_id) = msg_id < 2 ^ 16
IsInRange (variants.PingRequest None) = Unit {0}
IsInRange (variants.PingRequest (Some client_id)) = is_client_id client_id ≡ true
IsInRange variants.PingResponse = Unit {0}
IsInRange (variants.Disconnect None) = Unit {0}
IsInRange (variants.Disconnect (Some duration)) = duration < 2 ^ 16
IsInRange (variants.WillTopicUpdate _) = Unit {0}
IsInRange (variants.WillTopicResponse _) = Unit {0}
IsInRange (variants.WillMessageUpdate _) = Unit {0}
IsInRange (variants.WillMessageResponse _) = Unit {0}

-- the octets of a topic in a SUBSCRIBE or UNSUBSCRIBE are of the size that their type asks for
abbrev pub TopicFits : SnFrame → Type 0
TopicFits (variants.Subscribe r) = FitsType r.flags.id_type r.topic
TopicFits (variants.Unsubscribe r) = FitsType r.flags.id_type r.topic
TopicFits (variants.Connect _) = Unit {0}
TopicFits (variants.ConnectAck _) = Unit {0}
TopicFits variants.WillTopicRequest = Unit {0}
TopicFits (variants.WillTopic _) = Unit {0}
TopicFits variants.WillMessageRequest = Unit {0}
TopicFits (variants.WillMessage _) = Unit {0}
TopicFits (variants.Register _) = Unit {0}
TopicFits (variants.RegisterAck _) = Unit {0}
TopicFits (variants.Publish _) = Unit {0}
TopicFits (variants.PublishAck _) = Unit {0}
TopicFits (variants.PublishComplete _) = Unit {0}
TopicFits (variants.PublishReceived _) = Unit {0}
TopicFits (variants.PublishRelease _) = Unit {0}
TopicFits (variants.SubscribeAck _) = Unit {0}
TopicFits (variants.UnsubscribeAck _) = Unit {0}
TopicFits (variants.PingRequest _) = Unit {0}
TopicFits variants.PingResponse = Unit {0}
TopicFits (variants.Disconnect _) = Unit {0}
TopicFits (variants.WillTopicUpdate _) = Unit {0}
TopicFits (variants.WillTopicResponse _) = Unit {0}
TopicFits (variants.WillMessageUpdate _) = Unit {0}
TopicFits (variants.WillMessageResponse _) = Unit {0}

-- ADVERTISE, SEARCHGW and GWINFO, each with a variable part of a size that the standard gives it (5.4.1 to
-- 5.4.3)
abbrev pub IsDiscovery : ℕ → List ℕ → Type 0
IsDiscovery kind part =
    ((kind ≡ 0x00) × (length part ≡ 3))
    ⊎ (((kind ≡ 0x01) × (length part ≡ 1)) ⊎ ((kind ≡ 0x02) × (1 ≤ length part)))

-- a message of gateway discovery
pub record SpellsDiscovery (b : List ℕ) : Type 0 where
  pub kind : ℕ
  pub part : List ℕ
  pub is : IsDiscovery kind part
  pub message : SpellsMessage kind part b

-- forwarder encapsulation, behind a Length of one octet, whatever it counts (5.5)
pub record EncapsulatesShort (b : List ℕ) : Type 0 where
  pub first : ℕ
  pub rest : List ℕ
  pub short : first ≢ 0x01
  pub octets : b ≡ first ∷ 0xfe ∷ rest

-- and behind one of three octets
pub record EncapsulatesLong (b : List ℕ) : Type 0 where
  pub high : ℕ
  pub low : ℕ
  pub rest : List ℕ
  pub octets : b ≡ 0x01 ∷ high ∷ low ∷ 0xfe ∷ rest

-- the bytes spell a message of a type that is not decoded
abbrev pub IsUnsupported : List ℕ → Type 0
IsUnsupported b = SpellsDiscovery b ⊎ (EncapsulatesShort b ⊎ EncapsulatesLong b)
