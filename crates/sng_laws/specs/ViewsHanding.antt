-- What the rows show of the messages of the broker for a client: which were due to it, how many were settled
-- and how, what waits, and what is open with it.
use Rattle.std.specs.Prelude.{ℕ, ◌+◌, ◌-◌, ◌==◌, ◌%◌, ◌&&◌, not, Bool, true, false, List, [], ◌∷◌, ◌++◌}
use Rattle.std.specs.Prelude.{length, drop, slice_get, if◌then◌else◌, Option, Some, None}
use Rattle.std.specs.List.{list_any}
use Rattle.std.specs.Option.{option_to_list}
use Rattle.std.specs.Str.{bytes_eq}
use Rattle.sng_text.specs.Texts.{is_name}
use Rattle.sng_text.specs.Matching.{matches}
use Rattle.sng_text.specs.declared.qos.Qos.{Qos}
use Rattle.sng_text.specs.declared.qos.Qos.TheVariants.{AtMostOnce, AtLeastOnce}
use Rattle.mqtt_frames.specs.declared.packet.Publish.{Publish}
use Rattle.mqtt_frames.specs.declared.packet.Packet.{Packet}
use Rattle.mqtt_frames.specs.declared.packet.Packet.TheVariants as packet
use Rattle.sng_states.specs.declared.state.ClientState.{ClientState}
use Rattle.sng_states.specs.declared.state.ClientState.TheVariants.{Active, Awake}
use Rattle.sng_states.specs.declared.state.ClientState.TheVariants.{Disconnected, Lost}
use Rattle.sng_fan.specs.declared.held.Held.{Held}
use Rattle.sng_queue.specs.Messages.{Message, message}
use Rattle.sng_frames.specs.Reading.{frame_of}
use Rattle.sng_frames.specs.declared.messages.acks.TopicAck.{TopicAck}
use Rattle.sng_frames.specs.declared.messages.subscribe.TopicRequest.{TopicRequest}
use Rattle.sng_book.specs.Denials.{is_allowed}
use Rattle.sng_book.specs.declared.decision.Decision.{Decision}
use Rattle.sng_book.specs.declared.decision.Decision.TheVariants as note
use Rattle.sng_book.specs.declared.outcome.Outcome.{Outcome}
use Rattle.sng_book.specs.declared.outcome.Outcome.TheVariants.{Allowed, Denied}
use Rattle.sng_book.specs.declared.event.Event.{Event}
use Rattle.sng_book.specs.declared.event.Event.TheVariants.{Datagram, Broker}
use Rattle.sng_book.specs.declared.out.Out.{Out}
use Rattle.sng_book.specs.declared.out.Out.TheVariants.{Send, Wire, Note}
use Rattle.sng_book.specs.declared.row.Row.{Row}
use Rattle.sng_history.specs.Clients.{is_turned_away}
use Rattle.sng_laws.specs.ViewsMessages.{Message as Spoken}
use Rattle.sng_laws.specs.ViewsMessages.{Confirms, Acknowledges, Sleeps}
use Rattle.sng_laws.specs.ViewsMessages.{message_in, message_at, subscribe_in}
use Rattle.sng_laws.specs.ViewsClients.{is_awaiting, phase_of, is_at, speaks_of, with_name}
use Rattle.sng_laws.specs.ViewsClients.{name_subscribed, names_told, id_told}
use Rattle.sng_laws.specs.ViewsStanding.{standing_of}

-- ---- which messages were due to a client

-- the message of the broker that the event is
abbrev pub message_sent : Packet → Option Publish
message_sent (packet.Publish p) = Some p
message_sent other = None

abbrev pub brought_in : Event → Option Publish
brought_in (Broker packet) = message_sent packet
brought_in other = None

abbrev pub is_at_least_once : Qos → Bool
is_at_least_once AtMostOnce = false
is_at_least_once AtLeastOnce = true

-- some of these filters matches the name, and some does that is granted QoS 1
abbrev pub is_matched : List Held → List ℕ → Bool
is_matched held name = list_any (λ h. matches h.filter name) held

abbrev pub is_matched_at_one : List Held → List ℕ → Bool
is_matched_at_one held name = list_any (λ h. matches h.filter name && is_at_least_once h.qos) held

-- it goes at QoS 1 where it came so, which its packet id says, and a filter that matches is granted that
abbrev pub qos_due : List Held → Option ℕ → List ℕ → Qos
qos_due held None name = AtMostOnce
qos_due held (Some packet_id) name = if is_matched_at_one held name then AtLeastOnce else AtMostOnce

-- messages for the client are handed over to it: it does not sleep, or asked for them
abbrev pub is_taking : Option ClientState → Bool
is_taking (Some Active) = true
is_taking (Some Awake) = true
is_taking other = false

-- the client has no session: it never came, it left, or it was lost
abbrev pub is_away : Option ClientState → Bool
is_away None = true
is_away (Some Disconnected) = true
is_away (Some Lost) = true
is_away (Some other) = false

-- the message as it concerns the client: its name is one, the client awaits messages, and a filter that
-- stands for it matches
abbrev pub meant_for : List ℕ → Publish → List Row → Option Message
meant_for id p h =
    let held = standing_of id h in
    if is_name p.name && (is_awaiting (phase_of id h) && is_matched held p.name)
    then Some (message p.name p.payload (qos_due held p.packet_id p.name) p.retain)
    else None

abbrev pub meant_in : List ℕ → Option Publish → List Row → List Message
meant_in id None h = []
meant_in id (Some p) h = option_to_list (meant_for id p h)

-- the outcome says that the message never waited: it is too long, or the queue is full
abbrev pub is_refused_at_once : Outcome → Bool
is_refused_at_once Allowed = false
is_refused_at_once (Denied rule) = is_turned_away rule

-- how messages for the client came out by the note: of one that waited, or of one that never did
abbrev pub hand_of : List ℕ → Decision → List (List ℕ × Outcome)
hand_of id (note.Hand client name outcome) = if bytes_eq id client then (name, outcome) ∷ [] else []
hand_of id other = []

abbrev pub hands_in : List ℕ → List Out → List (List ℕ × Outcome)
hands_in id [] = []
hands_in id (Note said ∷ outs) = hand_of id said ++ hands_in id outs
hands_in id (Send to datagram ∷ outs) = hands_in id outs
hands_in id (Wire packet ∷ outs) = hands_in id outs

-- the message is refused in its own row
abbrev pub is_turned_back : List ℕ → List Out → Bool
is_turned_back id outs = list_any (λ hand. is_refused_at_once hand.1) (hands_in id outs)

-- the messages that were due to the client, in order: each once, but those that are refused in their own row
abbrev pub due_in : List ℕ → Row → List Row → List Message
due_in id row earlier = if is_turned_back id row.outs then [] else meant_in id (brought_in row.event) earlier

abbrev pub due_of : List ℕ → List Row → List Message
due_of id [] = []
due_of id (row ∷ earlier) = due_of id earlier ++ due_in id row earlier

-- ---- how they came out

-- each with its name and outcome, in order
abbrev pub settlements : List (List ℕ × Outcome) → List (List ℕ × Outcome)
settlements [] = []
settlements (hand ∷ hands) = if is_refused_at_once hand.1 then settlements hands else hand ∷ settlements hands

abbrev pub settled_of : List ℕ → List Row → List (List ℕ × Outcome)
settled_of id [] = []
settled_of id (row ∷ earlier) = settled_of id earlier ++ settlements (hands_in id row.outs)

-- what is due and not settled: the k-th settlement is for the k-th that was due
abbrev pub waits_for : List ℕ → List Row → List Message
waits_for id h = drop (length (settled_of id h)) (due_of id h)

-- ---- what is open with a client

-- what was sent to it and waits for its answer: an id was announced for a name, or a message was handed over
-- at QoS 1
pub data Opening : Type 0 where
  Announced : List ℕ → Opening
  HandedOver : Message → Opening

-- how many messages were settled so far, how many MsgIds were given, and what is open
pub record Progress : Type 0 where
  pub settled : ℕ
  pub numbered : ℕ
  pub unanswered : Option Opening

abbrev pub no_progress : Progress
no_progress = record { settled = 0; numbered = 0; unanswered = None }

abbrev pub closes : Progress → Progress
closes before = record before { unanswered = None }

-- a message leaves: at QoS 1 it has a MsgId, and is open
abbrev pub leaves_by : Option Message → Progress → Progress
leaves_by None before = record before { settled = before.settled + 1; unanswered = None }
leaves_by (Some m) before =
    if is_at_least_once m.qos
    then record {
      settled = before.settled + 1;
      numbered = before.numbered + 1;
      unanswered = Some (HandedOver m);
    }
    else record before { settled = before.settled + 1; unanswered = None }

-- by its outcome; the message is the one among those that were due whose turn it is
abbrev pub handed_by : List Message → Outcome → Progress → Progress
handed_by due Allowed before = leaves_by (slice_get due before.settled) before
handed_by due (Denied rule) before =
    if is_turned_away rule then before else record before { settled = before.settled + 1; unanswered = None }

abbrev pub progress_by : List ℕ → List Message → Decision → Progress → Progress
progress_by id due (note.Connect client outcome) before =
    if bytes_eq id client && is_allowed outcome then closes before else before
progress_by id due (note.Left client) before = if bytes_eq id client then closes before else before
progress_by id due (note.Announce client name) before =
    if bytes_eq id client then record before
    { numbered = before.numbered + 1; unanswered = Some (Announced name) } else before
progress_by id due (note.Hand client name outcome) before =
    if bytes_eq id client then handed_by due outcome before else before
progress_by id due (note.Retry client name outcome) before =
    if bytes_eq id client && not (is_allowed outcome) then closes before else before
progress_by id due (note.Lost client) before = if bytes_eq id client then closes before else before
progress_by id due other before = before

abbrev pub progress_after : List ℕ → List Message → List Out → Progress → Progress
progress_after id due [] before = before
progress_after id due (Note said ∷ outs) before = progress_after id due outs (progress_by id due said before)
progress_after id due (Send to datagram ∷ outs) before = progress_after id due outs before
progress_after id due (Wire packet ∷ outs) before = progress_after id due outs before

-- the MsgId that was given last, where so many were: they count from 1 to 65,535 and begin again
abbrev pub last_number : ℕ → ℕ
last_number given = if given == 0 then 0 else (given - 1) % 65535 + 1

-- the REGACK or PUBACK answers what is open: by the TopicId of the name and the MsgId, or by the MsgId alone
abbrev pub is_regack_of : Option Opening → List (List ℕ) → ℕ → TopicAck → Bool
is_regack_of None told number r = false
is_regack_of (Some (Announced name)) told number r = (r.topic_id == id_told name told) && (r.msg_id == number)
is_regack_of (Some (HandedOver m)) told number r = false

abbrev pub is_puback_of : Option Opening → ℕ → TopicAck → Bool
is_puback_of None number r = false
is_puback_of (Some (Announced name)) number r = r.msg_id == number
is_puback_of (Some (HandedOver m)) number r = r.msg_id == number

-- the REGACK of the client has its turn, as things stand
abbrev pub regack_has_turn : List ℕ → Progress → List Row → TopicAck → Bool
regack_has_turn id now h r =
    is_taking (phase_of id h) && is_regack_of now.unanswered (names_told id h) (last_number now.numbered) r

abbrev pub puback_has_turn : List ℕ → Progress → List Row → TopicAck → Bool
puback_has_turn id now h r =
    is_taking (phase_of id h) && is_puback_of now.unanswered (last_number now.numbered) r

-- the message ends what is open: a REGACK that accepts the id, a PUBACK, or a DISCONNECT by which the client
-- falls asleep
abbrev pub ends_by : List ℕ → Progress → List Row → Option Spoken → Bool
ends_by id now h (Some (Confirms r)) = (r.code.0 == 0) && regack_has_turn id now h r
ends_by id now h (Some (Acknowledges r)) = puback_has_turn id now h r
ends_by id now h (Some (Sleeps duration)) = is_awaiting (phase_of id h)
ends_by id now h other = false

abbrev pub ends_open : List ℕ → Progress → List Row → Event → Bool
ends_open id now h (Datagram from datagram) =
    is_at id from h && ends_by id now h (message_in (frame_of datagram))
ends_open id now h other = false

-- how the messages for the client stand
abbrev pub progress_of : List ℕ → List Row → Progress
progress_of id [] = no_progress
progress_of id (row ∷ earlier) =
    let before = progress_of id earlier in
    progress_after id (due_of id (row ∷ earlier)) row.outs
    (if ends_open id before earlier row.event then closes before else before)

-- the MsgId that was given last to the client
abbrev pub number_of : List ℕ → List Row → ℕ
number_of id h = last_number (progress_of id h).numbered

abbrev pub is_idle : Option Opening → Bool
is_idle None = true
is_idle (Some opening) = false

-- ---- the names that a client knows the ids of

-- a REGACK or a SUBACK of the gateway tells an id that the client knows from then on
abbrev pub knows_by : Option TopicRequest → List ℕ → Decision → List (List ℕ) → List (List ℕ)
knows_by r id (note.Connect client outcome) before =
    if bytes_eq id client && is_allowed outcome then [] else before
knows_by r id (note.Register whom name outcome) before =
    if speaks_of id whom && is_allowed outcome then with_name name before else before
knows_by r id (note.Subscribe whom filter outcome) before =
    if speaks_of id whom && is_allowed outcome then with_name (name_subscribed r filter) before else before
knows_by r id other before = before

abbrev pub knows_after : Option TopicRequest → List ℕ → List Out → List (List ℕ) → List (List ℕ)
knows_after r id [] before = before
knows_after r id (Note said ∷ outs) before = knows_after r id outs (knows_by r id said before)
knows_after r id (Send to datagram ∷ outs) before = knows_after r id outs before
knows_after r id (Wire packet ∷ outs) before = knows_after r id outs before

-- the name that is announced
abbrev pub name_announced : Option Opening → Option (List ℕ)
name_announced None = None
name_announced (Some (Announced name)) = Some name
name_announced (Some (HandedOver m)) = None

-- the name whose id the message confirms: the client accepts it by its REGACK
abbrev pub confirmed_by : List ℕ → List Row → Option Spoken → Option (List ℕ)
confirmed_by id h (Some (Confirms r)) =
    if (r.code.0 == 0) && regack_has_turn id (progress_of id h) h r
    then name_announced (progress_of id h).unanswered else None
confirmed_by id h other = None

abbrev pub confirmed_in : List ℕ → List Row → Event → Option (List ℕ)
confirmed_in id h (Datagram from datagram) =
    if is_at id from h then confirmed_by id h (message_in (frame_of datagram)) else None
confirmed_in id h other = None

-- the names that the client knows since its last accepted CONNECT
abbrev pub names_known : List ℕ → List Row → List (List ℕ)
names_known id [] = []
names_known id (row ∷ earlier) =
    knows_after (subscribe_in (message_at row.event)) id row.outs
    (with_name (confirmed_in id earlier row.event) (names_known id earlier))
