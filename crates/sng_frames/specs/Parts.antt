-- What a variable part is decoded as (MQTT-SN 1.2, 5.3 and 5.4).
use Rattle.std.specs.Prelude.{ℕ, ◌+◌, ◌*◌, ◌==◌, Bool, true, List, [], ◌∷◌, length, if◌then◌else◌, Some, None}
use Rattle.std.specs.Option.{option_map}
use Rattle.std.specs.declared.option.Option.{Option}
use Rattle.sng_text.specs.ClientIds.{is_client_id}
use Rattle.sng_frames.specs.declared.flags.TopicIdType.{TopicIdType}
use Rattle.sng_frames.specs.declared.flags.TopicIdType.TheVariants.{Normal, Predefined, Short, Reserved}
use Rattle.sng_frames.specs.declared.messages.connect.Connect.{Connect}
use Rattle.sng_frames.specs.declared.messages.publish.Publish.{Publish}
use Rattle.sng_frames.specs.declared.messages.register.Register.{Register}
use Rattle.sng_frames.specs.declared.frame.SnFrame.{SnFrame}
use Rattle.sng_frames.specs.declared.frame.SnFrame.TheVariants as variants
use Rattle.sng_frames.specs.declared.messages.acks.SubscribeAck.{SubscribeAck}
use Rattle.sng_frames.specs.declared.messages.acks.TopicAck.{TopicAck}
use Rattle.sng_frames.specs.declared.messages.subscribe.TopicRequest.{TopicRequest}
use Rattle.sng_frames.specs.declared.messages.will.WillTopic.{WillTopic}
use Rattle.sng_frames.specs.declared.message_type.MessageType.{MessageType}
use Rattle.sng_frames.specs.declared.message_type.MessageType.TheVariants as types
use Rattle.sng_frames.specs.declared.return_code.ReturnCode.{ReturnCode}
use Rattle.sng_frames.specs.FlagsOctet.{flags_of}

-- two octets as a number, the high one first (5.3)
abbrev pub number : ℕ → ℕ → ℕ
number high low = high * 256 + low

-- nothing
abbrev pub nothing_of : List ℕ → Option (Unit {0})
nothing_of [] = Some tt
nothing_of (octet ∷ part) = None

-- a ReturnCode
abbrev pub code_of : List ℕ → Option ReturnCode
code_of (code ∷ []) = Some (record { 0 = code })
code_of _ = None

-- a MsgId
abbrev pub number_of : List ℕ → Option ℕ
number_of (high ∷ low ∷ []) = Some (number high low)
number_of _ = None

-- nothing, or a Duration
abbrev pub duration_of : List ℕ → Option (Option ℕ)
duration_of [] = Some None
duration_of (octet ∷ part) = option_map Some (number_of (octet ∷ part))

-- the ClientId of a part that is one
abbrev pub client_id_of : List ℕ → Option (List ℕ)
client_id_of text = if is_client_id text then Some text else None

-- nothing, or a ClientId
abbrev pub ping_of : List ℕ → Option (Option (List ℕ))
ping_of [] = Some None
ping_of (octet ∷ part) = option_map Some (client_id_of (octet ∷ part))

-- Flags, ProtocolId, Duration, ClientId
abbrev pub connect_of : List ℕ → Option Connect
connect_of (flags ∷ protocol_id ∷ high ∷ low ∷ text) =
    option_map
    (λ
    (client_id : List ℕ). record {
      flags = flags_of flags;
      protocol_id = protocol_id;
      duration = number high low;
      client_id = client_id;
    }) (client_id_of text)
connect_of _ = None

-- nothing, or Flags and a topic
abbrev pub will_topic_of : List ℕ → Option WillTopic
will_topic_of [] = None
will_topic_of (flags ∷ topic) = Some (record { flags = flags_of flags; topic = topic })

-- TopicId, MsgId, TopicName
abbrev pub register_of : List ℕ → Option Register
register_of (topic_high ∷ topic_low ∷ msg_high ∷ msg_low ∷ name) =
    Some (record { topic_id = number topic_high topic_low; msg_id = number msg_high msg_low; name = name })
register_of _ = None

-- TopicId, MsgId, ReturnCode
abbrev pub topic_ack_of : List ℕ → Option TopicAck
topic_ack_of (topic_high ∷ topic_low ∷ msg_high ∷ msg_low ∷ code ∷ []) =
    Some
    (record {
      topic_id = number topic_high topic_low;
      msg_id = number msg_high msg_low;
      code = record { 0 = code };
    })
topic_ack_of _ = None

-- Flags, TopicId, MsgId, data
abbrev pub publish_of : List ℕ → Option Publish
publish_of (flags ∷ topic_high ∷ topic_low ∷ msg_high ∷ msg_low ∷ payload) =
    Some
    (record {
      flags = flags_of flags;
      topic_id = number topic_high topic_low;
      msg_id = number msg_high msg_low;
      payload = payload;
    })
publish_of _ = None

-- whether a topic is of the size that its type asks for: two octets for a predefined id and a short name
abbrev pub fits_type : TopicIdType → List ℕ → Bool
fits_type Normal topic = true
fits_type Predefined topic = length topic == 2
fits_type Short topic = length topic == 2
fits_type Reserved topic = true

-- whether the topic of a frame is of that size, where it has one
abbrev pub topic_fits : SnFrame → Bool
topic_fits (variants.Subscribe r) = fits_type r.flags.id_type r.topic
topic_fits (variants.Unsubscribe r) = fits_type r.flags.id_type r.topic
topic_fits (variants.Connect _) = true
topic_fits (variants.ConnectAck _) = true
topic_fits variants.WillTopicRequest = true
topic_fits (variants.WillTopic _) = true
topic_fits variants.WillMessageRequest = true
topic_fits (variants.WillMessage _) = true
topic_fits (variants.Register _) = true
topic_fits (variants.RegisterAck _) = true
topic_fits (variants.Publish _) = true
topic_fits (variants.PublishAck _) = true
topic_fits (variants.PublishComplete _) = true
topic_fits (variants.PublishReceived _) = true
topic_fits (variants.PublishRelease _) = true
topic_fits (variants.SubscribeAck _) = true
topic_fits (variants.UnsubscribeAck _) = true
topic_fits (variants.PingRequest _) = true
topic_fits variants.PingResponse = true
topic_fits (variants.Disconnect _) = true
topic_fits (variants.WillTopicUpdate _) = true
topic_fits (variants.WillTopicResponse _) = true
topic_fits (variants.WillMessageUpdate _) = true
topic_fits (variants.WillMessageResponse _) = true

-- Flags, MsgId, TopicName or TopicId
abbrev pub topic_request_of : List ℕ → Option TopicRequest
topic_request_of (flags ∷ msg_high ∷ msg_low ∷ topic) =
    if fits_type (flags_of flags).id_type topic
    then Some (record { flags = flags_of flags; msg_id = number msg_high msg_low; topic = topic })
    else None
topic_request_of _ = None

-- Flags, TopicId, MsgId, ReturnCode
abbrev pub subscribe_ack_of : List ℕ → Option SubscribeAck
subscribe_ack_of (flags ∷ topic_high ∷ topic_low ∷ msg_high ∷ msg_low ∷ code ∷ []) =
    Some
    (record {
      flags = flags_of flags;
      topic_id = number topic_high topic_low;
      msg_id = number msg_high msg_low;
      code = record { 0 = code };
    })
subscribe_ack_of _ = None

-- the frame of a type and its variable part, where the part is one of the type
abbrev pub part_read : MessageType → List ℕ → Option SnFrame
part_read types.Connect part = option_map variants.Connect (connect_of part)
part_read types.ConnectAck part = option_map variants.ConnectAck (code_of part)
part_read types.WillTopicRequest part = option_map (λ _. variants.WillTopicRequest) (nothing_of part)
part_read types.WillTopic part = Some (variants.WillTopic (will_topic_of part))
part_read types.WillMessageRequest part = option_map (λ _. variants.WillMessageRequest) (nothing_of part)
part_read types.WillMessage part = Some (variants.WillMessage part)
part_read types.Register part = option_map variants.Register (register_of part)
part_read types.RegisterAck part = option_map variants.RegisterAck (topic_ack_of part)
part_read types.Publish part = option_map variants.Publish (publish_of part)
part_read types.PublishAck part = option_map variants.PublishAck (topic_ack_of part)
part_read types.PublishComplete part = option_map variants.PublishComplete (number_of part)
part_read types.PublishReceived part = option_map variants.PublishReceived (number_of part)
part_read types.PublishRelease part = option_map variants.PublishRelease (number_of part)
part_read types.Subscribe part = option_map variants.Subscribe (topic_request_of part)
part_read types.SubscribeAck part = option_map variants.SubscribeAck (subscribe_ack_of part)
part_read types.Unsubscribe part = option_map variants.Unsubscribe (topic_request_of part)
part_read types.UnsubscribeAck part = option_map variants.UnsubscribeAck (number_of part)
part_read types.PingRequest part = option_map variants.PingRequest (ping_of part)
part_read types.PingResponse part = option_map (λ _. variants.PingResponse) (nothing_of part)
part_read types.Disconnect part = option_map variants.Disconnect (duration_of part)
part_read types.WillTopicUpdate part = Some (variants.WillTopicUpdate (will_topic_of part))
part_read types.WillTopicResponse part = option_map variants.WillTopicResponse (code_of part)
part_read types.WillMessageUpdate part = Some (variants.WillMessageUpdate part)
part_read types.WillMessageResponse part = option_map variants.WillMessageResponse (code_of part)
