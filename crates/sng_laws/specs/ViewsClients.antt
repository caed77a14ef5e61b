-- What the rows show of each client: its state, where it is, when it was heard last, who was accepted so far,
-- and the names that a client was told topic ids of.
use Rattle.std.specs.Prelude.{ℕ, ◌+◌, ◌==◌, Bool, true, false, ◌&&◌, ◌||◌, not, List, [], ◌∷◌, ◌++◌, filter}
use Rattle.std.specs.Prelude.{length, if◌then◌else◌, Option, Some, None}
use Rattle.std.specs.List.{list_any}
use Rattle.std.specs.Str.{bytes_eq}
use Rattle.sng_text.specs.Texts.{is_name}
use Rattle.sng_states.specs.declared.state.ClientState.{ClientState}
use Rattle.sng_states.specs.declared.state.ClientState.TheVariants.{Dialogue, Active, Asleep, Awake}
use Rattle.sng_states.specs.declared.state.ClientState.TheVariants.{Disconnected, Lost}
use Rattle.sng_states.specs.States.{has_session}
use Rattle.sng_frames.specs.Reading.{frame_of}
use Rattle.sng_frames.specs.Writing.{written}
use Rattle.sng_frames.specs.declared.frame.SnFrame.TheVariants as frame
use Rattle.sng_frames.specs.declared.flags.TopicIdType.{TopicIdType}
use Rattle.sng_frames.specs.declared.flags.TopicIdType.TheVariants.{Normal}
use Rattle.sng_frames.specs.declared.messages.connect.Connect.{Connect}
use Rattle.sng_frames.specs.declared.messages.subscribe.TopicRequest.{TopicRequest}
use Rattle.sng_book.specs.Denials.{is_allowed}
use Rattle.sng_book.specs.declared.address.Address.{Address}
use Rattle.sng_book.specs.declared.decision.Decision.{Decision}
use Rattle.sng_book.specs.declared.decision.Decision.TheVariants as note
use Rattle.sng_book.specs.declared.decision.Who.{Who}
use Rattle.sng_book.specs.declared.decision.Who.TheVariants as who
use Rattle.sng_book.specs.declared.event.Event.{Event}
use Rattle.sng_book.specs.declared.event.Event.TheVariants.{Datagram}
use Rattle.sng_book.specs.declared.out.Out.{Out}
use Rattle.sng_book.specs.declared.out.Out.TheVariants.{Send, Wire, Note}
use Rattle.sng_book.specs.declared.row.Row.{Row}
use Rattle.sng_history.specs.Clients.{same_address}
use Rattle.sng_laws.specs.Views.{clock_at}
use Rattle.sng_laws.specs.ViewsMessages.{Message, Connects, Publishes}
use Rattle.sng_laws.specs.ViewsMessages.{Pings, Sleeps, message_in}
use Rattle.sng_laws.specs.ViewsMessages.{message_at, subscribe_in, statement_in, connect_in}
use Rattle.sng_laws.specs.ViewsMessages.{is_without_session}
use Rattle.sng_history.specs.Causes.{Statement, StatesTopic, StatesMessage}

-- ---- where it is

-- the note accepts a CONNECT of the client
abbrev pub admits : List ℕ → Decision → Bool
admits id (note.Connect client outcome) = bytes_eq id client && is_allowed outcome
admits id other = false

-- the row accepts a CONNECT of the client
abbrev pub is_admitted : List ℕ → List Out → Bool
is_admitted id [] = false
is_admitted id (Note said ∷ outs) = admits id said || is_admitted id outs
is_admitted id (Send to datagram ∷ outs) = is_admitted id outs
is_admitted id (Wire packet ∷ outs) = is_admitted id outs

-- where the event came from
abbrev pub came_from : Event → Option Address
came_from (Datagram from datagram) = Some from
came_from other = None

-- the address from which the client's last accepted CONNECT came
abbrev pub address_of : List ℕ → List Row → Option Address
address_of id [] = None
address_of id (row ∷ earlier) = if is_admitted id row.outs then came_from row.event else address_of id earlier

abbrev pub is_there : Option ClientState → Option Address → Address → Bool
is_there None place from = false
is_there (Some phase) None from = false
is_there (Some phase) (Some place) from = has_session phase && same_address place from

-- ---- the state of a client

-- the note is of that client
abbrev pub speaks_of : List ℕ → Who → Bool
speaks_of id (who.Client client) = bytes_eq id client
speaks_of id other = false

-- a client that leaves is disconnected, and one that is lost is lost; one that was never accepted has no
-- state
abbrev pub left_from : Option ClientState → Option ClientState
left_from None = None
left_from (Some before) = Some Disconnected

abbrev pub lost_from : Option ClientState → Option ClientState
lost_from None = None
lost_from (Some before) = Some Lost

-- a CONNECT with Will opens a dialogue, and any other makes its client active (MQTT-SN 1.2, 6.2 and 6.3)
abbrev pub phase_entered : Option Connect → ClientState
phase_entered None = Active
phase_entered (Some connect) = if connect.flags.will then Dialogue else Active

-- the dialogue is over with a WILLMSG, and with a WILLTOPIC that has no topic
abbrev pub ends_dialogue : Option Statement → Bool
ends_dialogue (Some (StatesTopic None)) = true
ends_dialogue (Some (StatesMessage message)) = true
ends_dialogue other = false

-- a note sets the state of a client where it lets that client in, allows what ends the dialogue about its
-- will, or says that it left or is lost
abbrev pub phase_by : Option Message → List ℕ → Decision → Option ClientState → Option ClientState
phase_by m id (note.Connect client outcome) before =
    if bytes_eq id client && is_allowed outcome then Some (phase_entered (connect_in m)) else before
phase_by m id (note.Will whom name outcome) before =
    if speaks_of id whom && (is_allowed outcome && ends_dialogue (statement_in m)) then Some Active
    else before
phase_by m id (note.Left client) before = if bytes_eq id client then left_from before else before
phase_by m id (note.Lost client) before = if bytes_eq id client then lost_from before else before
phase_by m id other before = before

abbrev pub phase_after : Option Message → List ℕ → List Out → Option ClientState → Option ClientState
phase_after m id [] before = before
phase_after m id (Note said ∷ outs) before = phase_after m id outs (phase_by m id said before)
phase_after m id (Send to datagram ∷ outs) before = phase_after m id outs before
phase_after m id (Wire packet ∷ outs) before = phase_after m id outs before

-- it is connected, and neither is a dialogue open nor does it sleep
abbrev pub is_active : Option ClientState → Bool
is_active (Some Active) = true
is_active other = false

-- messages for the client wait for it: it is connected or sleeps, and no dialogue is open (MQTT-SN 1.2, 6.14)
abbrev pub is_awaiting : Option ClientState → Bool
is_awaiting (Some Active) = true
is_awaiting (Some Asleep) = true
is_awaiting (Some Awake) = true
is_awaiting other = false

-- an own message before any note: a PINGREQ that names it wakes a client that sleeps, and by a DISCONNECT
-- with Duration it falls asleep, where messages wait for it
abbrev pub is_asleep : Option ClientState → Bool
is_asleep (Some Asleep) = true
is_asleep other = false

abbrev pub woken : List ℕ → Option (List ℕ) → Option ClientState → Option ClientState
woken id None before = before
woken id (Some named) before = if bytes_eq named id && is_asleep before then Some Awake else before

abbrev pub phase_spoken : List ℕ → Option Message → Option ClientState → Option ClientState
phase_spoken id (Some (Pings client)) before = woken id client before
phase_spoken id (Some (Sleeps duration)) before = if is_awaiting before then Some Asleep else before
phase_spoken id other before = before

-- the message that the event is, where it comes from where the client is
abbrev pub own_message : Option ClientState → Option Address → Event → Option Message
own_message phase place (Datagram from datagram) =
    if is_there phase place from then message_in (frame_of datagram) else None
own_message phase place other = None

-- PINGRESP goes to the place
abbrev pub is_pong_to : Option Address → Out → Bool
is_pong_to None out = false
is_pong_to (Some place) (Send to datagram) =
    same_address place to && bytes_eq datagram (written frame.PingResponse)
is_pong_to (Some place) (Wire packet) = false
is_pong_to (Some place) (Note said) = false

abbrev pub is_ponged : Option Address → List Out → Bool
is_ponged place outs = list_any (is_pong_to place) outs

-- an awake client is told by PINGRESP that nothing is left for it, and sleeps again
abbrev pub put_to_sleep : Bool → Option ClientState → Option ClientState
put_to_sleep ponged None = None
put_to_sleep ponged (Some Awake) = if ponged then Some Asleep else Some Awake
put_to_sleep ponged (Some Dialogue) = Some Dialogue
put_to_sleep ponged (Some Active) = Some Active
put_to_sleep ponged (Some Asleep) = Some Asleep
put_to_sleep ponged (Some Disconnected) = Some Disconnected
put_to_sleep ponged (Some Lost) = Some Lost

-- the state of a client: none before it was accepted first, then what its own message, the notes, and
-- PINGRESP make of it
abbrev pub phase_of : List ℕ → List Row → Option ClientState
phase_of id [] = None
phase_of id (row ∷ earlier) =
    put_to_sleep (is_ponged (address_of id earlier) row.outs)
    (phase_after (message_at row.event) id row.outs
    (phase_spoken id (own_message (phase_of id earlier) (address_of id earlier) row.event)
    (phase_of id earlier)))

-- the client has a session, and the address is where it is
abbrev pub is_at : List ℕ → Address → List Row → Bool
is_at id from h = is_there (phase_of id h) (address_of id h) from

-- ---- when it was heard, and the Duration that it stated

abbrev pub duration_by : Option Message → Option ℕ
duration_by (Some (Connects connect)) = Some connect.duration
duration_by other = None

-- the Duration that the event states, in seconds
abbrev pub stated_in : Event → Option ℕ
stated_in (Datagram from datagram) = duration_by (message_in (frame_of datagram))
stated_in other = None

-- the Duration with which it falls asleep, by an own message
abbrev pub slept_for : Option Message → Option ClientState → Option ℕ → Option ℕ
slept_for (Some (Sleeps duration)) phase before = if is_awaiting phase then Some duration else before
slept_for other phase before = before

-- the Duration of the client's last accepted CONNECT, or of its last sleep since
abbrev pub duration_of : List ℕ → List Row → Option ℕ
duration_of id [] = None
duration_of id (row ∷ earlier) =
    if is_admitted id row.outs
    then stated_in row.event
    else slept_for (own_message (phase_of id earlier) (address_of id earlier) row.event) (phase_of id earlier)
    (duration_of id earlier)

-- a session's message: any but a PUBLISH without a session
abbrev pub is_spoken : Option Message → Bool
is_spoken (Some (Publishes p)) = not (is_without_session p.flags.qos)
is_spoken None = false
is_spoken (Some _) = true

-- the event is a message from where the client is
abbrev pub speaks : List ℕ → Event → List Row → Bool
speaks id (Datagram from datagram) earlier =
    is_spoken (message_in (frame_of datagram)) && is_at id from earlier
speaks id other earlier = false

-- the clock as the client was heard last: by its last accepted CONNECT or message
abbrev pub heard_of : List ℕ → List Row → Option ℕ
heard_of id [] = None
heard_of id (row ∷ earlier) =
    if is_admitted id row.outs || speaks id row.event earlier then Some (clock_at earlier)
    else heard_of id earlier

-- ---- who was accepted

abbrev pub is_among : List ℕ → List (List ℕ) → Bool
is_among id [] = false
is_among id (one ∷ ids) = bytes_eq id one || is_among id ids

-- who is accepted for the first time as the message comes
abbrev pub accepted_by : List (List ℕ) → Option Message → List Out → List (List ℕ)
accepted_by ids (Some (Connects connect)) outs =
    if is_admitted connect.client_id outs && not (is_among connect.client_id ids) then connect.client_id ∷ []
    else []
accepted_by ids other outs = []

abbrev pub accepted_in : List (List ℕ) → Event → List Out → List (List ℕ)
accepted_in ids (Datagram from datagram) outs = accepted_by ids (message_in (frame_of datagram)) outs
accepted_in ids other outs = []

-- the clients in the order in which each was accepted first
abbrev pub accepted : List Row → List (List ℕ)
accepted [] = []
accepted (row ∷ earlier) = accepted earlier ++ accepted_in (accepted earlier) row.event row.outs

-- those of them that are at the address
abbrev pub those_at : Address → List Row → List (List ℕ)
those_at from h = filter (λ id. is_at id from h) (accepted h)

-- ---- the names that it was told topic ids of

-- a name that was not told yet comes last
abbrev pub with_name : Option (List ℕ) → List (List ℕ) → List (List ℕ)
with_name None names = names
with_name (Some name) names = if is_among name names then names else names ++ name ∷ []

-- a text is told an id as a SUBSCRIBE by it is allowed, where it is a topic name of other than two octets
abbrev pub tells_id : TopicIdType → List ℕ → Bool
tells_id Normal text = is_name text && not (length text == 2)
tells_id other text = false

-- the name that is told so, of the filter that the SUBSCRIBE names
abbrev pub name_subscribed : Option TopicRequest → Option (List ℕ) → Option (List ℕ)
name_subscribed None filter = None
name_subscribed (Some r) None = None
name_subscribed (Some r) (Some filter) = if tells_id r.flags.id_type filter then Some filter else None

-- a REGISTER that is allowed tells the client an id of its name, as may a SUBSCRIBE, and so does an
-- announcement; a CONNECT that is accepted begins anew
abbrev pub names_by : Option TopicRequest → List ℕ → Decision → List (List ℕ) → List (List ℕ)
names_by r id (note.Connect client outcome) before =
    if bytes_eq id client && is_allowed outcome then [] else before
names_by r id (note.Register whom name outcome) before =
    if speaks_of id whom && is_allowed outcome then with_name name before else before
names_by r id (note.Subscribe whom filter outcome) before =
    if speaks_of id whom && is_allowed outcome then with_name (name_subscribed r filter) before else before
names_by r id (note.Announce client name) before =
    if bytes_eq id client then with_name (Some name) before else before
names_by r id other before = before

abbrev pub names_after : Option TopicRequest → List ℕ → List Out → List (List ℕ) → List (List ℕ)
names_after r id [] before = before
names_after r id (Note said ∷ outs) before = names_after r id outs (names_by r id said before)
names_after r id (Send to datagram ∷ outs) before = names_after r id outs before
names_after r id (Wire packet ∷ outs) before = names_after r id outs before

-- the names that the client was told ids of since its last accepted CONNECT, in the order in which each was
-- told first: the first has id 1, and the k-th has id k
abbrev pub names_told : List ℕ → List Row → List (List ℕ)
names_told id [] = []
names_told id (row ∷ earlier) =
    names_after (subscribe_in (message_at row.event)) id row.outs (names_told id earlier)

-- the id of a name: its place among those told, counting from 1, or the next
abbrev pub id_told : List ℕ → List (List ℕ) → ℕ
id_told name [] = 1
id_told name (one ∷ names) = if bytes_eq name one then 1 else id_told name names + 1
