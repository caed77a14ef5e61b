-- Which frame a datagram is (MQTT-SN 1.2, 5.2 to 5.5).
use Rattle.std.specs.Prelude.{◌≡◌, ℕ, ◌==◌, nat_lt, Bool, ◌&&◌, ◌||◌, ◌⊎◌, List, [], ◌∷◌, length}
use Rattle.std.specs.Prelude.{if◌then◌else◌}
use Rattle.std.specs.Prelude.{Some, None, Ok, Err, IsSome, IsOkAnd}
use Rattle.std.specs.Option.{option_and_then}
use Rattle.std.specs.declared.option.Option.{Option}
use Rattle.std.specs.declared.result.Result.{Result}
use Rattle.sng_frames.specs.declared.fault.FrameFault.{FrameFault}
use Rattle.sng_frames.specs.declared.fault.FrameFault.TheVariants.{Malformed, NotSupported, TooLong, Memory}
use Rattle.sng_frames.specs.declared.frame.SnFrame.{SnFrame}
use Rattle.sng_frames.specs.declared.frame.SnFrame.TheVariants as variants
use Rattle.sng_frames.specs.declared.limits.TheConstants.{MAX_DATAGRAM}
use Rattle.sng_frames.specs.MessageTypes.{type_of_octet}
use Rattle.sng_frames.specs.Parts.{number, part_read}

-- a decoder's answer to bytes that mean this, or nothing: only where they mean something can memory fail
abbrev pub Reads : {A : Type 0} → Result A FrameFault → Option A → Type 0
Reads (Ok x) meant = meant ≡ Some x
Reads (Err fault) meant = ((fault ≡ Memory) × IsSome meant) ⊎ ((fault ≡ Malformed) × (meant ≡ None))

-- the frame has text or data, of which a decoder makes a copy; the others are of fixed size
abbrev pub HoldsBytes : SnFrame → Type 0
HoldsBytes (variants.Connect _) = Unit {0}
HoldsBytes (variants.ConnectAck _) = ⊥
HoldsBytes variants.WillTopicRequest = ⊥
HoldsBytes (variants.WillTopic None) = ⊥
HoldsBytes (variants.WillTopic (Some _)) = Unit {0}
HoldsBytes variants.WillMessageRequest = ⊥
HoldsBytes (variants.WillMessage _) = Unit {0}
HoldsBytes (variants.Register _) = Unit {0}
HoldsBytes (variants.RegisterAck _) = ⊥
HoldsBytes (variants.Publish _) = Unit {0}
HoldsBytes (variants.PublishAck _) = ⊥
HoldsBytes (variants.PublishComplete _) = ⊥
HoldsBytes (variants.PublishReceived _) = ⊥
HoldsBytes (variants.PublishRelease _) = ⊥
HoldsBytes (variants.Subscribe _) = Unit {0}
HoldsBytes (variants.SubscribeAck _) = ⊥
HoldsBytes (variants.Unsubscribe _) = Unit {0}
HoldsBytes (variants.UnsubscribeAck _) = ⊥
HoldsBytes (variants.PingRequest None) = ⊥
HoldsBytes (variants.PingRequest (Some _)) = Unit {0}
HoldsBytes variants.PingResponse = ⊥
HoldsBytes (variants.Disconnect _) = ⊥
HoldsBytes (variants.WillTopicUpdate None) = ⊥
HoldsBytes (variants.WillTopicUpdate (Some _)) = Unit {0}
HoldsBytes (variants.WillTopicResponse _) = ⊥
HoldsBytes (variants.WillMessageUpdate _) = Unit {0}
HoldsBytes (variants.WillMessageResponse _) = ⊥

-- a decoder's answer to bytes that are this frame, or have this fault
abbrev pub Decodes : Result SnFrame FrameFault → Result SnFrame FrameFault → Type 0
Decodes (Ok frame) meant = meant ≡ Ok frame
Decodes (Err Malformed) meant = meant ≡ Err Malformed
Decodes (Err NotSupported) meant = meant ≡ Err NotSupported
Decodes (Err TooLong) meant = ⊥
Decodes (Err Memory) meant = IsOkAnd meant HoldsBytes

-- ADVERTISE, SEARCHGW and GWINFO, of a right size (5.4.1 to 5.4.3)
abbrev pub is_discovery : ℕ → List ℕ → Bool
is_discovery kind part =
    ((kind == 0x00) && (length part == 3))
    || (((kind == 0x01) && (length part == 1)) || ((kind == 0x02) && nat_lt 0 (length part)))

-- where nothing is meant, the bytes are malformed
abbrev pub or_malformed : {A : Type 0} → Option A → Result A FrameFault
or_malformed None = Err Malformed
or_malformed (Some x) = Ok x

-- the message of a MsgType and its variable part
abbrev pub message_of : ℕ → List ℕ → Result SnFrame FrameFault
message_of kind part =
    if is_discovery kind part
    then Err NotSupported
    else or_malformed (option_and_then (λ t. part_read t part) (type_of_octet kind))

-- what stands behind a Length, in a datagram of so many octets: MsgType and the variable part.
-- Forwarder encapsulation (5.5) has another layout, which is not decoded
abbrev pub behind_length : ℕ → ℕ → List ℕ → Result SnFrame FrameFault
behind_length stated size [] = Err Malformed
behind_length stated size (kind ∷ part) =
    if kind == 0xfe then Err NotSupported
    else (if stated == size then message_of kind part else Err Malformed)

-- a Length of three octets, behind its first one
abbrev pub behind_one : ℕ → List ℕ → Result SnFrame FrameFault
behind_one size (high ∷ low ∷ message) = behind_length (number high low) size message
behind_one size _ = Err Malformed

-- the octets of a datagram of that size, from its Length on (5.2.1)
abbrev pub octets_read : ℕ → List ℕ → Result SnFrame FrameFault
octets_read size [] = Err Malformed
octets_read size (first ∷ octets) =
    if first == 0x01 then behind_one size octets else behind_length first size octets

-- the frame that a datagram is; none has more than MAX_DATAGRAM octets
abbrev pub frame_of : List ℕ → Result SnFrame FrameFault
frame_of datagram =
    if nat_lt MAX_DATAGRAM (length datagram) then Err Malformed else octets_read (length datagram) datagram
