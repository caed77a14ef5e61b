-- What the broker does with a message, in the words of its use.
use Rattle.std.specs.Prelude.{ℕ, ◌≡◌, ◌==◌, true, false, ◌↔◌, List, [], ◌∷◌, ◌++◌, filter, if◌then◌else◌}
use Rattle.std.specs.Prelude.{is_some, None}
use Rattle.std.specs.declared.option.Option.{Option}
use Rattle.std.specs.List.{Any}
use Rattle.sng_text.specs.Matching.{matches}
use Rattle.sng_text.specs.Texts.{name_fault}
use Rattle.sng_text.specs.declared.qos.Qos.TheVariants.{AtLeastOnce}
use Rattle.mqtt_frames.specs.declared.packet.Packet.{Packet}
use Rattle.mqtt_frames.specs.declared.packet.Packet.TheVariants as packet
use Rattle.mqtt_frames.specs.declared.packet.Publish.{Publish}
use Rattle.sng_broker.specs.declared.parts.Message.{Message}
use Rattle.sng_broker.specs.declared.parts.Subscription.{Subscription}
use Rattle.sng_broker.specs.Brokers.{Broker, EachOnce, is_open}
use Rattle.sng_broker.specs.Steps.{Outgoing, acknowledged, fan_out, message_of, packet_of, replay}

-- the packets that go to one connection, in order
abbrev pub sent_to : ℕ → List (ℕ × Packet) → List Packet
sent_to conn [] = []
sent_to conn (out ∷ outs) = if out.0 == conn then out.1 ∷ sent_to conn outs else sent_to conn outs

-- the filter stands for the connection, and matches the name
abbrev pub Fits : ℕ → List ℕ → Subscription → Type 0
Fits conn name s = (s.conn ≡ conn) × (matches s.filter name ≡ true)

-- a message goes at QoS 1 where it came so, and a filter that matches was granted it: at the smaller QoS
abbrev pub IsSure : Message → ℕ → List Subscription → Type 0
IsSure m conn standing =
    (m.qos ≡ AtLeastOnce) × Any (λ s. Fits conn m.name s × (s.qos ≡ AtLeastOnce)) standing

-- the packets are one copy of the message, at the smaller QoS
abbrev pub IsOneCopy : Message → ℕ → List Subscription → List Packet → Type 0
IsOneCopy m conn standing packets =
    (id : Option ℕ) × (packets ≡ packet_of false id m ∷ []) × ((is_some id ≡ true) ↔ IsSure m conn standing)

-- what is sent is one copy of the message for each connection with a filter that matches, at the smaller QoS,
-- however many of its filters match; and nothing for any other
abbrev pub GoesOnce : Broker → Message → List (ℕ × Packet) → Type 0
GoesOnce b m outs = (conn : ℕ)
    → (is_open b.peers conn ≡ true → Any (Fits conn m.name) b.standing
    → IsOneCopy m conn b.standing (sent_to conn outs))
    × ((is_open b.peers conn ≡ false) → sent_to conn outs ≡ [])
    × ((Any (Fits conn m.name) b.standing → ⊥) → sent_to conn outs ≡ [])

-- so a message goes in a broker in which no connection is there twice
abbrev pub OneCopyEach : Type 0
OneCopyEach = (b : Broker) (m : Message) → EachOnce b.peers → GoesOnce b m (fan_out b.standing m b.peers)

-- what is sent for a PUBLISH of an open connection is its message, once to each, and behind it its PUBACK
abbrev pub PublishGoesOnce : Broker → ℕ → Packet → List (ℕ × Packet) → Type 0
PublishGoesOnce b conn taken outs = (p : Publish) → taken ≡ packet.Publish p
    → is_open b.peers conn ≡ true → name_fault p.name ≡ None
    → (copies : List (ℕ × Packet)) × (outs ≡ copies ++ acknowledged conn p.packet_id)
    × GoesOnce b (message_of p) copies

-- the packets are copies of these messages, each for the connection of the filter and marked as retained
abbrev pub AreCopies : Subscription → List Message → List (ℕ × Packet) → Type 0
AreCopies s [] [] = Unit {0}
AreCopies s [] (out ∷ outs) = ⊥
AreCopies s (m ∷ messages) [] = ⊥
AreCopies s (m ∷ messages) (out ∷ outs) =
    ((id : Option ℕ) × (out ≡ (s.conn, packet_of true id m))
    × ((is_some id ≡ true) ↔ ((m.qos ≡ AtLeastOnce) × (s.qos ≡ AtLeastOnce))))
    × AreCopies s messages outs

-- who subscribes gets each retained message whose name the filter matches, once and in order, at the smaller
-- QoS
abbrev pub RetainedAreReplayed : Type 0
RetainedAreReplayed = (s : Subscription) (sending : Outgoing) (kept : List Message)
    → (copies : List (ℕ × Packet))
    × ((replay s sending kept).outs ≡ sending.outs ++ copies)
    × AreCopies s (filter (λ m. matches s.filter m.name) kept) copies
