-- What a message of the broker is to a client: whether it is due to it, and whether it comes to wait (MQTT
-- 3.1.1, 3.3.1 and 3.3.5; MQTT-SN 1.2, 6.10 and 6.14).
use Rattle.std.specs.Prelude.{ℕ, ◌&&◌, nat_le, List, [], ◌∷◌, ◌++◌, length, if◌then◌else◌, Option, Some, None}
use Rattle.sng_text.specs.Texts.{is_name}
use Rattle.sng_text.specs.declared.qos.Qos.{Qos}
use Rattle.sng_text.specs.declared.qos.Qos.TheVariants.{AtMostOnce, AtLeastOnce}
use Rattle.mqtt_frames.specs.declared.packet.Publish.{Publish}
use Rattle.sng_states.specs.declared.state.ClientState.{ClientState}
use Rattle.sng_states.specs.States.{is_due_messages}
use Rattle.sng_fan.specs.declared.held.Held.{Held}
use Rattle.sng_fan.specs.Greatest.{greatest_qos}
use Rattle.sng_queue.specs.Messages.{Message, message, is_sendable}
use Rattle.sng_queue.specs.Buffers.{Buffer}
use Rattle.sng_queue.specs.declared.limits.TheConstants.{MAX_QUEUED}
use Rattle.sng_book.specs.declared.decision.Decision.{Decision}
use Rattle.sng_book.specs.declared.decision.Decision.TheVariants as note
use Rattle.sng_book.specs.declared.outcome.Place.TheVariants as place
use Rattle.sng_book.specs.declared.outcome.Denial.TheVariants.{Room}
use Rattle.sng_book.specs.declared.outcome.RoomDenial.TheVariants.{Full, TooLong}
use Rattle.sng_book.specs.declared.outcome.Outcome.{Outcome}
use Rattle.sng_book.specs.declared.outcome.Outcome.TheVariants.{Allowed, Denied}

-- the lesser of two levels of QoS
abbrev pub lesser : Qos → Qos → Qos
lesser AtMostOnce b = AtMostOnce
lesser AtLeastOnce b = b

-- the QoS of a PUBLISH of the broker: it has a packet id at QoS 1
abbrev pub sent_at : Option ℕ → Qos
sent_at None = AtMostOnce
sent_at (Some packet_id) = AtLeastOnce

-- the message for a client whose subscriptions grant this QoS at most
abbrev pub granted_at : Publish → Option Qos → Option Message
granted_at p None = None
granted_at p (Some granted) = Some (message p.name p.payload (lesser (sent_at p.packet_id) granted) p.retain)

-- the message as it is due to a client in this state, for whom these filters stand: once, at the lesser of
-- its QoS and the greatest that is granted among the filters that match
abbrev pub due_to : Publish → ClientState → List Held → Option Message
due_to p phase filters =
    if is_name p.name && is_due_messages phase then granted_at p (greatest_qos filters p.name) else None

-- what becomes of a message that is due: it waits, but where no datagram can carry it, or as many wait as may
abbrev pub arrival : Buffer → Message → Outcome
arrival b m =
    if is_sendable m.name m.payload
    then (if nat_le MAX_QUEUED (length b.waiting) then Denied (Room (Full place.Queue)) else Allowed)
    else Denied (Room TooLong)

abbrev pub joins_by : Outcome → Message → Buffer → Buffer
joins_by Allowed m b = record b { waiting = b.waiting ++ m ∷ [] }
joins_by (Denied rule) m b = b

-- the buffer once the message came
abbrev pub joins : Option Message → Buffer → Buffer
joins None b = b
joins (Some m) b = joins_by (arrival b m) m b

-- one that does not wait is noted at once
abbrev pub turned_away_by : List ℕ → List ℕ → Outcome → List Decision
turned_away_by client name Allowed = []
turned_away_by client name (Denied rule) = note.Hand client name (Denied rule) ∷ []

abbrev pub turned_away : List ℕ → Option Message → Buffer → List Decision
turned_away client None b = []
turned_away client (Some m) b = turned_away_by client m.name (arrival b m)
