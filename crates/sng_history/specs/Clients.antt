-- One client of the gateway (MQTT-SN 1.2, 6.2 to 6.14): what is kept of it, and how an event and the notes of
-- a row move it.
use Rattle.std.specs.Prelude.{ℕ, ◌==◌, ◌&&◌, Bool, true, false, List, [], ◌∷◌, is_none, slice_get}
use Rattle.std.specs.Prelude.{if◌then◌else◌, Option, Some, None, unwrap_or}
use Rattle.std.specs.Option.{option_and_then}
use Rattle.std.specs.Str.{bytes_eq}
use Rattle.sng_grants.specs.declared.policy.Policy.{Policy}
use Rattle.sng_states.specs.declared.state.ClientState.{ClientState}
use Rattle.sng_states.specs.declared.state.ClientState.TheVariants.{Dialogue, Active, Asleep, Awake}
use Rattle.sng_states.specs.declared.state.ClientState.TheVariants.{Disconnected, Lost}
use Rattle.sng_states.specs.States.{has_session, takes_messages, is_due_messages, is_active, is_asleep}
use Rattle.sng_states.specs.States.{is_awake}
use Rattle.sng_states.specs.OpenIds.{admitted, without_id}
use Rattle.sng_ids.specs.Ids.{Ids, id_for, with_name, confirmed}
use Rattle.sng_queue.specs.Messages.{Message}
use Rattle.sng_queue.specs.Exchanges.{repeat}
use Rattle.sng_queue.specs.Buffers.{Buffer, nothing, settle, announce}
use Rattle.sng_fan.specs.declared.held.Held.{Held}
use Rattle.sng_fan.specs.Subscriptions.{with_filter, without_filter}
use Rattle.sng_wills.specs.Wills.{Wills, stated_topic, after_topic, after_message, after_topic_update}
use Rattle.sng_wills.specs.Wills.{after_message_update}
use Rattle.sng_wills.specs.declared.will.Stage.TheVariants.{Closed, TopicAwaited}
use Rattle.sng_wills.specs.declared.will.StatedTopic.{StatedTopic}
use Rattle.sng_frames.specs.declared.messages.connect.Connect.{Connect}
use Rattle.sng_frames.specs.declared.messages.acks.TopicAck.{TopicAck}
use Rattle.sng_frames.specs.declared.messages.subscribe.TopicRequest.{TopicRequest}
use Rattle.sng_frames.specs.declared.messages.will.WillTopic.{WillTopic}
use Rattle.sng_book.specs.declared.address.Address.{Address}
use Rattle.sng_book.specs.declared.decision.Decision.{Decision}
use Rattle.sng_book.specs.declared.decision.Decision.TheVariants as note
use Rattle.sng_book.specs.declared.outcome.Place.TheVariants as place
use Rattle.sng_book.specs.declared.outcome.Denial.{Denial}
use Rattle.sng_book.specs.declared.outcome.Denial.TheVariants.{Form, Grant, Room, Peer}
use Rattle.sng_book.specs.declared.outcome.RoomDenial.TheVariants.{UpstreamDown, Full, TooLong}
use Rattle.sng_book.specs.declared.outcome.Outcome.{Outcome}
use Rattle.sng_book.specs.declared.outcome.Outcome.TheVariants.{Allowed, Denied}
use Rattle.sng_book.specs.Denials.{is_allowed}
pub use Rattle.sng_book.specs.Traces.{same_address}
use Rattle.sng_history.specs.Causes.{Cause, request_of, subscribe_asked, statement_asked, id_opened}
use Rattle.sng_history.specs.Causes.{Statement, StatesTopic, StatesMessage, UpdatesTopic, UpdatesMessage}
use Rattle.sng_history.specs.Causes.{Request, ToPing, ToLeave, ToSleep, ToRegister, ToPublish, ToSubscribe}
use Rattle.sng_history.specs.Causes.{ToUnsubscribe, ToConfirm, ToAcknowledge, ToState, Untaken}
use Rattle.sng_history.specs.Causes.{ToPublishOnce, ToRelease}
use Rattle.sng_history.specs.Causes.{ByConnect, ByMessage, BySource, ByBroken, ByPacket, ByUp, ByDown, ByTake}
use Rattle.sng_history.specs.Causes.{ByReplace, ByTick}
use Rattle.sng_history.specs.Requests.{granted, gets_id}
use Rattle.sng_history.specs.Packets.{Answer, Delivers, Acknowledges, Grants, Refuses, Confirms, Strange}
use Rattle.sng_history.specs.Packets.{answer_of}
use Rattle.sng_history.specs.Arriving.{due_to, joins}
use Rattle.sng_history.specs.Handing.{number_after, known_as, front, number_handed, buffer_handed}
use Rattle.sng_history.specs.Handing.{answers_announcement, ends_exchange}

-- all that is kept of a client
pub record Client : Type 0 where
  pub id : List ℕ
  -- where its last accepted CONNECT came from
  pub address : Address
  pub phase : ClientState
  -- the topic ids that it was told, and the MsgId of the last message to it
  pub ids : Ids
  pub number : ℕ
  -- what waits for it, and the exchange that is open
  pub buffer : Buffer
  -- the filters that stand for it
  pub filters : List Held
  -- its will, and the dialogue about it
  pub wills : Wills
  -- the open MsgIds: those of its publishes at QoS 2 that it has not released yet
  pub unreleased : List ℕ
  -- the Duration that it stated, in seconds, and the clock as it was last heard
  pub duration : ℕ
  pub heard : ℕ

-- what the notes of a row are read by: the policy and the clock in force at its judgements, and what brought
-- it
pub record Around : Type 0 where
  pub policy : Policy
  pub clock : ℕ
  pub cause : Cause

-- the client has a session, and the address is where it is
abbrev pub is_here : Client → Address → Bool
is_here x from = has_session x.phase && same_address x.address from

-- a client of whom nothing was heard yet
abbrev pub blank : List ℕ → Client
blank id = record {
  id = id;
  address = record { ip = []; port = 0 };
  phase = Disconnected;
  ids = [];
  number = 0;
  buffer = nothing;
  filters = [];
  wills = record { stage = Closed; will = None };
  unreleased = [];
  duration = 0;
  heard = 0;
}

-- the datagram came from where the client is; one of a source is nobody's
abbrev pub is_from : Cause → Client → Bool
is_from (ByConnect from connect) x = is_here x from
is_from (ByMessage from request) x = is_here x from
is_from (BySource from p) x = false
is_from (ByBroken from rule) x = is_here x from
is_from (ByPacket p) x = false
is_from ByUp x = false
is_from ByDown x = false
is_from ByTake x = false
is_from (ByReplace policy) x = false
is_from (ByTick clock) x = false

-- it is a message, by which the client is heard
abbrev pub is_message : Cause → Bool
is_message (ByConnect from connect) = true
is_message (ByMessage from request) = true
is_message (BySource from p) = false
is_message (ByBroken from rule) = false
is_message (ByPacket p) = false
is_message ByUp = false
is_message ByDown = false
is_message ByTake = false
is_message (ByReplace policy) = false
is_message (ByTick clock) = false

-- the client is the author of a message
abbrev pub is_author : Cause → Client → Bool
is_author c x = is_message c && is_from c x

-- a REGACK or PUBACK has its turn where the client takes messages and it answers what is open
abbrev pub is_confirming : TopicAck → Client → Bool
is_confirming r x = takes_messages x.phase && answers_announcement x.buffer.exchange r

abbrev pub is_acknowledging : TopicAck → Client → Bool
is_acknowledging r x = takes_messages x.phase && ends_exchange x.buffer.exchange r

-- nothing is open any more; what waits stays
abbrev pub closed : Client → Client
closed x = record x { buffer = record x.buffer { exchange = None } }

-- a REGACK that accepts the id confirms it; one that does not is noted, and the note settles the front
abbrev pub confirmed_with : TopicAck → Client → Client
confirmed_with r x =
    if r.code.0 == 0 then record (closed x) { ids = confirmed r.topic_id x.ids } else x

-- a client falls asleep: nothing is open with it, what waits stays, and from then on its Duration counts
-- (MQTT-SN 1.2, 6.14)
abbrev pub asleep : ℕ → Client → Client
asleep duration x = record (closed x) { phase = Asleep; duration = duration }

-- a PINGREQ that names the client itself wakes it where it sleeps
abbrev pub names_own : Option (List ℕ) → List ℕ → Bool
names_own None own = false
names_own (Some id) own = bytes_eq id own

abbrev pub is_waking : Option (List ℕ) → Client → Bool
is_waking client x = is_asleep x.phase && names_own client x.id

abbrev pub awake : Client → Client
awake x = record x { phase = Awake }

-- a PUBREL releases the publish with this MsgId, which is open no more
abbrev pub publish_released : ℕ → Client → Client
publish_released id x = record x { unreleased = without_id id x.unreleased }

-- what a message does to its client before any note (MQTT-SN 1.2, 6.5, 6.6 and 6.14)
abbrev pub answered_by : Option Request → Client → Client
answered_by (Some (ToConfirm r)) x = if is_confirming r x then confirmed_with r x else x
answered_by (Some (ToAcknowledge r)) x = if is_acknowledging r x then closed x else x
answered_by (Some (ToPing client)) x = if is_waking client x then awake x else x
answered_by (Some (ToSleep duration)) x = if is_due_messages x.phase then asleep duration x else x
answered_by (Some ToLeave) x = x
answered_by (Some (ToRegister r)) x = x
answered_by (Some (ToPublish p)) x = x
answered_by (Some (ToPublishOnce p)) x = x
answered_by (Some (ToRelease id)) x = if is_active x.phase then publish_released id x else x
answered_by (Some (ToSubscribe r)) x = x
answered_by (Some (ToUnsubscribe r)) x = x
answered_by (Some (ToState statement)) x = x
answered_by (Some (Untaken message)) x = x
answered_by None x = x

-- a message of the broker that is due to the client joins what waits for it, where it may
abbrev pub message_due : Answer → Client → Option Message
message_due (Delivers p) x = due_to p x.phase x.filters
message_due (Acknowledges packet_id) x = None
message_due (Grants packet_id) x = None
message_due (Refuses packet_id) x = None
message_due Confirms x = None
message_due Strange x = None

abbrev pub delivered_by : Cause → Client → Client
delivered_by (ByPacket p) x = record x { buffer = joins (message_due (answer_of p) x) x.buffer }
delivered_by (ByConnect from connect) x = x
delivered_by (ByMessage from request) x = x
delivered_by (BySource from p) x = x
delivered_by (ByBroken from rule) x = x
delivered_by ByUp x = x
delivered_by ByDown x = x
delivered_by ByTake x = x
delivered_by (ByReplace policy) x = x
delivered_by (ByTick clock) x = x

-- the client as the notes of the row begin: by a message of its own it is heard
abbrev pub start_by : Around → Client → Client
start_by a x =
    if is_author a.cause x then answered_by (request_of a.cause) (record x { heard = a.clock })
    else delivered_by a.cause x

-- no exchange and no dialogue is open any more; a clean CONNECT ends also what stands and waits for the
-- client, its will, and what is open of its own publishes (MQTT-SN 1.2, 6.2 and 6.3; MQTT 3.1.1, 3.1.2.4)
abbrev pub cleaned : Bool → Client → Client
cleaned clean x =
    if clean
    then record x {
      filters = [];
      wills = record { stage = Closed; will = None };
      buffer = nothing;
      unreleased = [];
    }
    else record x { wills = record x.wills { stage = Closed }; buffer = record x.buffer { exchange = None } }

-- a CONNECT with Will opens a dialogue, in which a WILLTOPIC is awaited; after any other the client is active
abbrev pub opened : Bool → Client → Client
opened will x =
    if will then record x { phase = Dialogue; wills = record x.wills { stage = TopicAwaited } }
    else record x { phase = Active }

-- a CONNECT is accepted: the client is where it came from, and knows no topic id
abbrev pub let_in : ℕ → Address → Connect → Client → Client
let_in clock from connect x =
    opened connect.flags.will
    (cleaned connect.flags.clean (record x
    { address = from; ids = []; duration = connect.duration; heard = clock }))

abbrev pub entered_by : ℕ → Cause → Client → Client
entered_by clock (ByConnect from connect) x = let_in clock from connect x
entered_by clock (ByMessage from request) x = x
entered_by clock (BySource from p) x = x
entered_by clock (ByBroken from rule) x = x
entered_by clock (ByPacket p) x = x
entered_by clock ByUp x = x
entered_by clock ByDown x = x
entered_by clock ByTake x = x
entered_by clock (ByReplace policy) x = x
entered_by now (ByTick clock) x = x

-- a client leaves: nothing is open with it, and what waits for it is gone; its subscriptions, its will and
-- its ids stay
abbrev pub gone : Client → Client
gone x = record x { phase = Disconnected; wills = record x.wills { stage = Closed }; buffer = nothing }

-- a client is lost as it was silent for too long: nothing is open with it, and what waits for it is gone; its
-- subscriptions, its will and its ids stay
abbrev pub lost : Client → Client
lost x = record x { phase = Lost; wills = record x.wills { stage = Closed }; buffer = nothing }

-- the topic that a WILLTOPIC or a WILLTOPICUPD states, with its QoS and Retain; QoS 2 is kept as 1
abbrev pub topic_stated : WillTopic → StatedTopic
topic_stated w = stated_topic w.topic (granted w.flags.qos) w.flags.retain

-- a will is deleted
abbrev pub no_will : Wills
no_will = record { stage = Closed; will = None }

-- a statement that is allowed moves the will: a WILLTOPIC lets its message be awaited, an empty one deletes
-- the will, and so does an empty WILLTOPICUPD; else the will is of what is stated
abbrev pub wills_stated : Statement → Wills → Wills
wills_stated (StatesTopic None) wills = no_will
wills_stated (StatesTopic (Some w)) wills = unwrap_or (after_topic (topic_stated w) wills) wills
wills_stated (StatesMessage message) wills = unwrap_or (after_message message wills) wills
wills_stated (UpdatesTopic None) wills = no_will
wills_stated (UpdatesTopic (Some w)) wills = unwrap_or (after_topic_update (topic_stated w) wills) wills
wills_stated (UpdatesMessage message) wills = unwrap_or (after_message_update message wills) wills

-- the dialogue is over then, and the client active: the statement was its last, or deleted the will
abbrev pub phase_stated : Statement → ClientState → ClientState
phase_stated (StatesTopic None) phase = Active
phase_stated (StatesTopic (Some w)) phase = phase
phase_stated (StatesMessage message) phase = Active
phase_stated (UpdatesTopic topic) phase = phase
phase_stated (UpdatesMessage message) phase = phase

abbrev pub stated : Statement → Client → Client
stated statement x =
    record x { phase = phase_stated statement x.phase; wills = wills_stated statement x.wills }

-- where a statement is not allowed, and where there is none, as for the will of a lost client, nothing moves
abbrev pub stated_by : Option Statement → Outcome → Client → Client
stated_by (Some statement) Allowed x = stated statement x
stated_by (Some statement) (Denied rule) x = x
stated_by None outcome x = x

-- the ids once the client was told an id of the name: its old one, or else the next (MQTT-SN 1.2, 6.5)
abbrev pub told : List ℕ → Ids → Ids
told name ids = confirmed (id_for name ids) (with_name name ids)

-- a REGISTER that is allowed tells the client an id of its name
abbrev pub registered : Option (List ℕ) → Outcome → Ids → Ids
registered (Some name) Allowed ids = told name ids
registered (Some name) (Denied rule) ids = ids
registered None outcome ids = ids

-- a SUBSCRIBE that is allowed lets its filter stand, and tells the client an id where the filter is a name
-- that gets one
abbrev pub standing : TopicRequest → List ℕ → Client → Client
standing r filter x = record x {
  filters = with_filter x.filters filter (granted r.flags.qos);
  ids = if gets_id r.flags.id_type filter then told filter x.ids else x.ids;
}

abbrev pub subscribed : Option TopicRequest → Option (List ℕ) → Outcome → Client → Client
subscribed (Some r) (Some filter) Allowed x = standing r filter x
subscribed (Some r) (Some filter) (Denied rule) x = x
subscribed (Some r) None outcome x = x
subscribed None filter outcome x = x

-- a PUBLISH at QoS 2 that is allowed is received: its MsgId is open until it is released
abbrev pub received : Option ℕ → Outcome → Client → Client
received (Some id) Allowed x = record x { unreleased = admitted id x.unreleased }
received (Some id) (Denied rule) x = x
received None outcome x = x

-- the filter stands no more
abbrev pub without : List ℕ → Client → Client
without filter x = record x { filters = without_filter x.filters filter }

-- an UNSUBSCRIBE that is allowed ends the subscription to its filter
abbrev pub unsubscribed : Option (List ℕ) → Outcome → Client → Client
unsubscribed (Some filter) Allowed x = without filter x
unsubscribed (Some filter) (Denied rule) x = x
unsubscribed None outcome x = x

-- an id of the name is announced, for the front
abbrev pub announced : ℕ → List ℕ → Client → Client
announced clock name x = record x {
  ids = with_name name x.ids;
  number = number_after x.number;
  buffer = announce x.buffer (id_for name x.ids) (number_after x.number) clock;
}

-- a message that was refused as it came never waited; by any other denial the front is settled
abbrev pub is_turned_away : Denial → Bool
is_turned_away (Form rule) = false
is_turned_away (Grant rule) = false
is_turned_away (Peer rule) = false
is_turned_away (Room UpstreamDown) = false
is_turned_away (Room TooLong) = true
is_turned_away (Room (Full place.Queue)) = true
is_turned_away (Room (Full place.Clients)) = false
is_turned_away (Room (Full place.Ids)) = false
is_turned_away (Room (Full place.Subscriptions)) = false
is_turned_away (Room (Full place.Exchanges)) = false
is_turned_away (Room (Full place.InFlight)) = false
is_turned_away (Room (Full place.Outbox)) = false

abbrev pub denied_hand : Denial → Client → Client
denied_hand rule x = if is_turned_away rule then x else record x { buffer = settle x.buffer }

-- the front leaves under this name
abbrev pub handed : Around → List ℕ → Outcome → Client → Client
handed a name Allowed x = record x {
  number = number_handed x.number (front x.buffer);
  buffer = buffer_handed x.buffer (front x.buffer) (known_as a.policy x.ids name) x.number a.clock;
}
handed a name (Denied rule) x = denied_hand rule x

-- the SUBSCRIBE that the cause is, where it is one
abbrev pub subscribe_of : Cause → Option TopicRequest
subscribe_of c = option_and_then subscribe_asked (request_of c)

-- the statement of a will
abbrev pub statement_of : Cause → Option Statement
statement_of c = option_and_then statement_asked (request_of c)

-- the MsgId that is open where the PUBLISH is allowed that the cause is
abbrev pub id_opened_of : Cause → Option ℕ
id_opened_of c = option_and_then id_opened (request_of c)

-- what is open is sent again, or is open no more
abbrev pub repeated : ℕ → Outcome → Client → Client
repeated clock Allowed x = record x { buffer = record x.buffer { exchange = repeat x.buffer.exchange clock } }
repeated clock (Denied rule) x = closed x

-- the client after a note of its own
abbrev pub note_by : Around → Decision → Client → Client
note_by a (note.Connect id outcome) x = if is_allowed outcome then entered_by a.clock a.cause x else x
note_by a (note.Left id) x = gone x
note_by a (note.Register who name outcome) x = record x { ids = registered name outcome x.ids }
note_by a (note.Publish who name outcome) x = received (id_opened_of a.cause) outcome x
note_by a (note.Subscribe who filter outcome) x = subscribed (subscribe_of a.cause) filter outcome x
note_by a (note.Unsubscribe who filter outcome) x = unsubscribed filter outcome x
note_by a (note.Will who name outcome) x = stated_by (statement_of a.cause) outcome x
note_by a (note.Announce id name) x = announced a.clock name x
note_by a (note.Hand id name outcome) x = handed a name outcome x
note_by a (note.Retry id name outcome) x = repeated a.clock outcome x
note_by a (note.Forward who name outcome) x = x
note_by a (note.Again who name outcome) x = x
note_by a (note.End id filter outcome) x = without filter x
note_by a (note.Lost id) x = lost x
note_by a note.Outbox x = x
note_by a (note.Frame who outcome) x = x

abbrev pub notes_by : Around → List Decision → Client → Client
notes_by a [] x = x
notes_by a (said ∷ notes) x = notes_by a notes (note_by a said x)

-- an awake client for which nothing is left, waiting or open, falls asleep again (MQTT-SN 1.2, 6.14)
abbrev pub is_drained : Client → Bool
is_drained x = is_awake x.phase && (is_none (slice_get x.buffer.waiting 0) && is_none x.buffer.exchange)

abbrev pub drained : Client → Client
drained x = if is_drained x then record x { phase = Asleep } else x

-- the client after a row with this event and these notes of it
abbrev pub client_by : Around → List Decision → Client → Client
client_by a notes x = drained (notes_by a notes (start_by a x))
