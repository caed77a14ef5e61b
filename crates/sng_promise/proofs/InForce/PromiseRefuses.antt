-- What the promise refuses, and how the bytes of a datagram tell what it speaks of.
use Rattle.std.proofs.Common.{◌≡◌, ℕ, Bool, true, false, List, [], ◌∷◌, length, refl, ap, ◌∙◌, arith}
use Rattle.std.proofs.Common.{if◌then◌else◌}
use Rattle.std.specs.Prelude.{◌+◌, ◌==◌, ◌||◌, nat_lt, Some}
use Rattle.std.proofs.lemmas.Bool.Decides.{nat_tests}
use Rattle.sng_frames.specs.Grammar.{type_of}
use Rattle.sng_frames.specs.MessageTypes.{octet_of}
use Rattle.sng_frames.specs.Writing.{number_then, part_of, framed, written}
use Rattle.sng_frames.specs.declared.limits.TheConstants.{MAX_SHORT_LENGTH}
use Rattle.sng_frames.specs.declared.frame.SnFrame.{SnFrame}
use Rattle.sng_frames.specs.declared.frame.SnFrame.TheVariants as frame
use Rattle.sng_book.specs.declared.address.Address.{Address}
use Rattle.sng_book.specs.declared.out.Out.TheVariants.{Send}
use Rattle.sng_laws.specs.LawsReached.{type_octet, is_type, carries_topic, is_topical, Reaches}

-- a Length of one octet is not 1, which announces one of three
not_one : (n : ℕ) → (n + 2 == 1) ≡ false
not_one n = grind (arith, nat_tests)

framed_type : (kind : ℕ) (part : List ℕ) (long : Bool)
    → type_octet (if long then 0x01 ∷ number_then (length part + 4) (kind ∷ part)
    else (length part + 2) ∷ kind ∷ part) ≡ Some kind
framed_type kind part true = refl
framed_type kind part false = rw (not_one (length part)) refl

pub type_written : (kind : ℕ) (part : List ℕ) → type_octet (framed kind part) ≡ Some kind
type_written kind part = framed_type kind part (nat_lt MAX_SHORT_LENGTH (length part + 2))

-- a message carries a topic by the octet of its type
told : (message : SnFrame)
    → (is_type 12 (Some (octet_of (type_of message))) || is_type 10 (Some (octet_of (type_of message))))
    ≡ is_topical message
told (frame.Connect c) = refl
told (frame.ConnectAck code) = refl
told frame.WillTopicRequest = refl
told (frame.WillTopic topic) = refl
told frame.WillMessageRequest = refl
told (frame.WillMessage message) = refl
told (frame.Register r) = refl
told (frame.RegisterAck answer) = refl
told (frame.Publish p) = refl
told (frame.PublishAck answer) = refl
told (frame.PublishComplete id) = refl
told (frame.PublishReceived id) = refl
told (frame.PublishRelease id) = refl
told (frame.Subscribe r) = refl
told (frame.SubscribeAck answer) = refl
told (frame.Unsubscribe r) = refl
told (frame.UnsubscribeAck id) = refl
told (frame.PingRequest client) = refl
told frame.PingResponse = refl
told (frame.Disconnect duration) = refl
told (frame.WillTopicUpdate topic) = refl
told (frame.WillTopicResponse code) = refl
told (frame.WillMessageUpdate message) = refl
told (frame.WillMessageResponse code) = refl

pub topics_told : (message : SnFrame) → carries_topic (written message) ≡ is_topical message
topics_told message =
    ap (λ octet. is_type 12 octet || is_type 10 octet)
    (type_written (octet_of (type_of message)) (part_of message)) ∙ told message

pub unnoted_refused : (to : Address) (message : SnFrame) → is_topical message ≡ true
    → Reaches false (Send to (written message) ∷ []) → ⊥
unnoted_refused to message is reaches =
    let e : false ≡ true = reaches.0 (topics_told message ∙ is) in absurd cc
