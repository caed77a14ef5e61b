-- Between a variable part and the frame of a type, one way and the other.
use Rattle.std.proofs.Common.{◌≡◌, ℕ, List, Option, Some, refl, ap, subst}
use Rattle.std.specs.Option.{option_map}
use Rattle.sng_frames.specs.declared.frame.SnFrame.{SnFrame}
use Rattle.sng_frames.specs.declared.frame.SnFrame.TheVariants as variants
use Rattle.sng_frames.specs.declared.message_type.MessageType.{MessageType}
use Rattle.sng_frames.specs.declared.message_type.MessageType.TheVariants as types
use Rattle.sng_frames.specs.Grammar.{SpellsPart, type_of}
use Rattle.sng_frames.specs.Laws.{AreOctets}
use Rattle.sng_frames.specs.Parts.{part_read, nothing_of, connect_of, code_of, register_of, topic_ack_of}
use Rattle.sng_frames.specs.Parts.{publish_of, number_of, topic_request_of, subscribe_ack_of, ping_of}
use Rattle.sng_frames.specs.Parts.{duration_of, will_topic_of}
use Rattle.sng_frames.proofs.PartReading.{mapped, nothing_of-spelled, nothing_of-reads, will_topic_of-spelled}
use Rattle.sng_frames.proofs.PartReading.{will_topic_of-reads, connect_of-spelled, connect_of-reads}
use Rattle.sng_frames.proofs.PartReading.{code_of-spelled, code_of-reads, register_of-spelled}
use Rattle.sng_frames.proofs.PartReading.{register_of-reads, topic_ack_of-spelled, topic_ack_of-reads}
use Rattle.sng_frames.proofs.PartReading.{publish_of-spelled, publish_of-reads, number_of-spelled}
use Rattle.sng_frames.proofs.PartReading.{number_of-reads, topic_request_of-spelled, topic_request_of-reads}
use Rattle.sng_frames.proofs.PartReading.{subscribe_ack_of-spelled, subscribe_ack_of-reads, ping_of-spelled}
use Rattle.sng_frames.proofs.PartReading.{ping_of-reads, duration_of-spelled, duration_of-reads}

-- a variable part that is spelled is read
pub part_read-spelled : (frame : SnFrame) (part : List ℕ) → SpellsPart frame part
    → part_read (type_of frame) part ≡ Some frame
part_read-spelled (variants.Connect x) part s = ap (option_map variants.Connect) (connect_of-spelled x part s)
part_read-spelled (variants.ConnectAck x) part s =
    ap (option_map variants.ConnectAck) (code_of-spelled x part s)
part_read-spelled variants.WillTopicRequest part s =
    ap (option_map (λ _. variants.WillTopicRequest)) (nothing_of-spelled part s)
part_read-spelled (variants.WillTopic w) part s =
    ap (λ v. Some (variants.WillTopic v)) (will_topic_of-spelled w part s)
part_read-spelled variants.WillMessageRequest part s =
    ap (option_map (λ _. variants.WillMessageRequest)) (nothing_of-spelled part s)
part_read-spelled (variants.WillMessage message) part s = ap (λ v. Some (variants.WillMessage v)) s
part_read-spelled (variants.Register x) part s =
    ap (option_map variants.Register) (register_of-spelled x part s)
part_read-spelled (variants.RegisterAck x) part s =
    ap (option_map variants.RegisterAck) (topic_ack_of-spelled x part s)
part_read-spelled (variants.Publish x) part s = ap (option_map variants.Publish) (publish_of-spelled x part s)
part_read-spelled (variants.PublishAck x) part s =
    ap (option_map variants.PublishAck) (topic_ack_of-spelled x part s)
part_read-spelled (variants.PublishComplete x) part s =
    ap (option_map variants.PublishComplete) (number_of-spelled x part s)
part_read-spelled (variants.PublishReceived x) part s =
    ap (option_map variants.PublishReceived) (number_of-spelled x part s)
part_read-spelled (variants.PublishRelease x) part s =
    ap (option_map variants.PublishRelease) (number_of-spelled x part s)
part_read-spelled (variants.Subscribe x) part s =
    ap (option_map variants.Subscribe) (topic_request_of-spelled x part s)
part_read-spelled (variants.SubscribeAck x) part s =
    ap (option_map variants.SubscribeAck) (subscribe_ack_of-spelled x part s)
part_read-spelled (variants.Unsubscribe x) part s =
    ap (option_map variants.Unsubscribe) (topic_request_of-spelled x part s)
part_read-spelled (variants.UnsubscribeAck x) part s =
    ap (option_map variants.UnsubscribeAck) (number_of-spelled x part s)
part_read-spelled (variants.PingRequest x) part s =
    ap (option_map variants.PingRequest) (ping_of-spelled x part s)
part_read-spelled variants.PingResponse part s =
    ap (option_map (λ _. variants.PingResponse)) (nothing_of-spelled part s)
part_read-spelled (variants.Disconnect x) part s =
    ap (option_map variants.Disconnect) (duration_of-spelled x part s)
part_read-spelled (variants.WillTopicUpdate w) part s =
    ap (λ v. Some (variants.WillTopicUpdate v)) (will_topic_of-spelled w part s)
part_read-spelled (variants.WillTopicResponse x) part s =
    ap (option_map variants.WillTopicResponse) (code_of-spelled x part s)
part_read-spelled (variants.WillMessageUpdate message) part s =
    ap (λ v. Some (variants.WillMessageUpdate v)) s
part_read-spelled (variants.WillMessageResponse x) part s =
    ap (option_map variants.WillMessageResponse) (code_of-spelled x part s)

-- a frame of that type, and its variable part
pub record IsFrame (t : MessageType) (frame : SnFrame) (part : List ℕ) : Type 0 where
  pub is_type : type_of frame ≡ t
  pub spelled : SpellsPart frame part

-- a frame that is a variant of what a part is read as
lifted : (A : Type 0) (con : A → SnFrame) (t : MessageType) (o : Option A) (frame : SnFrame) (part : List ℕ)
    → ((x : A) → type_of (con x) ≡ t) → ((x : A) → o ≡ Some x → SpellsPart (con x) part)
    → option_map con o ≡ Some frame → IsFrame t frame part
lifted A con t o frame part types spells is =
    let m = mapped A SnFrame con o frame is in
    subst (λ f. IsFrame t f part) m.gives (record { is_type = types m.from; spelled = spells m.from m.was })

message-reads : (message part : List ℕ) → Some part ≡ Some message → part ≡ message
message-reads message part is = cc

-- what is read as the variable part of a type is spelled as one
pub part_read-reads : (t : MessageType) (frame : SnFrame) (part : List ℕ) → AreOctets part
    → part_read t part ≡ Some frame → IsFrame t frame part
part_read-reads types.Connect frame part are is =
    lifted _ variants.Connect types.Connect (connect_of part) frame part (λ x. refl)
    (λ x was. connect_of-reads x part are was) is
part_read-reads types.ConnectAck frame part are is =
    lifted _ variants.ConnectAck types.ConnectAck (code_of part) frame part (λ x. refl)
    (λ x was. code_of-reads x part was) is
part_read-reads types.WillTopicRequest frame part are is =
    lifted _ (λ _. variants.WillTopicRequest) types.WillTopicRequest (nothing_of part) frame part (λ x. refl)
    (λ x was. nothing_of-reads part was) is
part_read-reads types.WillTopic frame part are is =
    lifted _ variants.WillTopic types.WillTopic (Some (will_topic_of part)) frame part (λ x. refl)
    (λ x was. will_topic_of-reads x part are was) is
part_read-reads types.WillMessageRequest frame part are is =
    lifted _ (λ _. variants.WillMessageRequest) types.WillMessageRequest (nothing_of part) frame part
    (λ x. refl) (λ x was. nothing_of-reads part was) is
part_read-reads types.WillMessage frame part are is =
    lifted _ variants.WillMessage types.WillMessage (Some part) frame part (λ x. refl)
    (λ x was. message-reads x part was) is
part_read-reads types.Register frame part are is =
    lifted _ variants.Register types.Register (register_of part) frame part (λ x. refl)
    (λ x was. register_of-reads x part are was) is
part_read-reads types.RegisterAck frame part are is =
    lifted _ variants.RegisterAck types.RegisterAck (topic_ack_of part) frame part (λ x. refl)
    (λ x was. topic_ack_of-reads x part are was) is
part_read-reads types.Publish frame part are is =
    lifted _ variants.Publish types.Publish (publish_of part) frame part (λ x. refl)
    (λ x was. publish_of-reads x part are was) is
part_read-reads types.PublishAck frame part are is =
    lifted _ variants.PublishAck types.PublishAck (topic_ack_of part) frame part (λ x. refl)
    (λ x was. topic_ack_of-reads x part are was) is
part_read-reads types.PublishComplete frame part are is =
    lifted _ variants.PublishComplete types.PublishComplete (number_of part) frame part (λ x. refl)
    (λ x was. number_of-reads x part are was) is
part_read-reads types.PublishReceived frame part are is =
    lifted _ variants.PublishReceived types.PublishReceived (number_of part) frame part (λ x. refl)
    (λ x was. number_of-reads x part are was) is
part_read-reads types.PublishRelease frame part are is =
    lifted _ variants.PublishRelease types.PublishRelease (number_of part) frame part (λ x. refl)
    (λ x was. number_of-reads x part are was) is
part_read-reads types.Subscribe frame part are is =
    lifted _ variants.Subscribe types.Subscribe (topic_request_of part) frame part (λ x. refl)
    (λ x was. topic_request_of-reads x part are was) is
part_read-reads types.SubscribeAck frame part are is =
    lifted _ variants.SubscribeAck types.SubscribeAck (subscribe_ack_of part) frame part (λ x. refl)
    (λ x was. subscribe_ack_of-reads x part are was) is
part_read-reads types.Unsubscribe frame part are is =
    lifted _ variants.Unsubscribe types.Unsubscribe (topic_request_of part) frame part (λ x. refl)
    (λ x was. topic_request_of-reads x part are was) is
part_read-reads types.UnsubscribeAck frame part are is =
    lifted _ variants.UnsubscribeAck types.UnsubscribeAck (number_of part) frame part (λ x. refl)
    (λ x was. number_of-reads x part are was) is
part_read-reads types.PingRequest frame part are is =
    lifted _ variants.PingRequest types.PingRequest (ping_of part) frame part (λ x. refl)
    (λ x was. ping_of-reads x part was) is
part_read-reads types.PingResponse frame part are is =
    lifted _ (λ _. variants.PingResponse) types.PingResponse (nothing_of part) frame part (λ x. refl)
    (λ x was. nothing_of-reads part was) is
part_read-reads types.Disconnect frame part are is =
    lifted _ variants.Disconnect types.Disconnect (duration_of part) frame part (λ x. refl)
    (λ x was. duration_of-reads x part are was) is
part_read-reads types.WillTopicUpdate frame part are is =
    lifted _ variants.WillTopicUpdate types.WillTopicUpdate (Some (will_topic_of part)) frame part
    (λ x. refl) (λ x was. will_topic_of-reads x part are was) is
part_read-reads types.WillTopicResponse frame part are is =
    lifted _ variants.WillTopicResponse types.WillTopicResponse (code_of part) frame part (λ x. refl)
    (λ x was. code_of-reads x part was) is
part_read-reads types.WillMessageUpdate frame part are is =
    lifted _ variants.WillMessageUpdate types.WillMessageUpdate (Some part) frame part (λ x. refl)
    (λ x was. message-reads x part was) is
part_read-reads types.WillMessageResponse frame part are is =
    lifted _ variants.WillMessageResponse types.WillMessageResponse (code_of part) frame part (λ x. refl)
    (λ x was. code_of-reads x part was) is
