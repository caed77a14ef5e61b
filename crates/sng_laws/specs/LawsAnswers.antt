-- How each datagram is judged, noted and answered in a lawful history, in the views' words.
use Rattle.std.specs.Prelude.{ℕ, ◌/◌, ◌%◌, ◌≡◌, ◌==◌, nat_lt, Bool, true, false, ◌&&◌, not, List, []}
use Rattle.std.specs.Prelude.{◌∷◌, ◌++◌, filter, length, if◌then◌else◌, Option, Some, None, is_some, Ok, Err}
use Rattle.std.specs.List.{flat_map}
use Rattle.std.specs.Str.{bytes_eq}
use Rattle.sng_text.specs.Texts.{is_name}
use Rattle.sng_grants.specs.Sources.{scope_of}
use Rattle.sng_grants.specs.declared.policy.Policy.{Policy}
use Rattle.sng_policy.specs.Grants.{lists, lists_source, topic}
use Rattle.sng_states.specs.declared.state.ClientState.{ClientState}
use Rattle.sng_states.specs.States.{has_session}
use Rattle.sng_frames.specs.Reading.{frame_of}
use Rattle.sng_frames.specs.Writing.{written}
use Rattle.sng_frames.specs.declared.fault.FrameFault.{FrameFault}
use Rattle.sng_frames.specs.declared.fault.FrameFault.TheVariants as fault
use Rattle.sng_frames.specs.declared.flags.TopicIdType.{TopicIdType}
use Rattle.sng_frames.specs.declared.flags.TopicIdType.TheVariants.{Normal, Predefined, Short, Reserved}
use Rattle.sng_frames.specs.declared.messages.connect.Connect.{Connect}
use Rattle.sng_frames.specs.declared.messages.publish.Publish.{Publish}
use Rattle.sng_frames.specs.declared.return_code.ReturnCode.{ReturnCode}
use Rattle.sng_frames.specs.declared.return_code.TheConstants.ReturnCode.{ACCEPTED, CONGESTION}
use Rattle.sng_frames.specs.declared.return_code.TheConstants.ReturnCode.{INVALID_TOPIC_ID, NOT_SUPPORTED}
use Rattle.sng_frames.specs.declared.frame.SnFrame.{SnFrame}
use Rattle.sng_frames.specs.declared.frame.SnFrame.TheVariants as frame
use Rattle.sng_book.specs.declared.address.Address.{Address}
use Rattle.sng_book.specs.declared.decision.Decision.TheVariants as note
use Rattle.sng_book.specs.declared.decision.Who.TheVariants as who
use Rattle.sng_book.specs.declared.outcome.IdKind.TheVariants as kind
use Rattle.sng_book.specs.declared.outcome.Place.TheVariants as place
use Rattle.sng_book.specs.declared.outcome.Denial.{Denial}
use Rattle.sng_book.specs.declared.outcome.Denial.TheVariants.{Form, Grant, Room}
use Rattle.sng_book.specs.declared.outcome.FormDenial.TheVariants.{Malformed, NotSupported, NoSession}
use Rattle.sng_book.specs.declared.outcome.FormDenial.TheVariants.{BadName, IdType, UnknownId}
use Rattle.sng_book.specs.declared.outcome.GrantDenial.TheVariants.{NoScope, UnknownSource, MissingPub}
use Rattle.sng_book.specs.declared.outcome.RoomDenial.TheVariants.{UpstreamDown, Full}
use Rattle.sng_book.specs.declared.outcome.Outcome.{Outcome}
use Rattle.sng_book.specs.declared.outcome.Outcome.TheVariants.{Allowed, Denied}
use Rattle.sng_book.specs.declared.event.Event.TheVariants.{Datagram}
use Rattle.sng_book.specs.declared.out.Out.{Out}
use Rattle.sng_book.specs.declared.out.Out.TheVariants.{Send, Note}
use Rattle.sng_book.specs.declared.row.Row.{Row}
use Rattle.sng_history.specs.Clients.{same_address}
use Rattle.sng_laws.specs.Views.{last_policy, last_limits, is_up}
use Rattle.sng_laws.specs.ViewsClients.{is_awaiting, is_asleep, phase_of, address_of, accepted, is_among}
use Rattle.sng_laws.specs.ViewsClients.{those_at}
pub use Rattle.sng_laws.specs.ViewsClients.{is_active}
use Rattle.sng_laws.specs.ViewsLink.{waiting}
use Rattle.sng_laws.specs.LawsRules.{Rule, judged, may_publish}
use Rattle.sng_laws.specs.LawsEnds.{clean_answer}
use Rattle.sng_laws.specs.ViewsHanding.{waits_for}
use Rattle.sng_laws.specs.LawsHanding.{gone_answer, around_welcome, mailing, handed_awake, out_of_turn}
use Rattle.sng_laws.specs.LawsHanding.{is_awake}

-- the row is of a datagram from the address, which holds the message
pub record Brought (row : Row) (from : Address) (message : SnFrame) : Type 0 where
  pub datagram : List ℕ
  pub event : row.event ≡ Datagram from datagram
  pub reads : frame_of datagram ≡ Ok message

-- the row is of a datagram from the address, which breaks the form of a message
pub record Broken (row : Row) (from : Address) (broke : FrameFault) : Type 0 where
  pub datagram : List ℕ
  pub event : row.event ≡ Datagram from datagram
  pub reads : frame_of datagram ≡ Err broke

-- ---- CONNECT (MQTT-SN 1.2, 5.4.4 and 6.2)

-- what forbids a CONNECT, in order: another ProtocolId than 1, no scope, and for a client that was never accepted
-- as many accepted ones as the policy in force allows
abbrev pub connect_rules : List Row → Connect → List Rule
connect_rules h c =
    (not (c.protocol_id == 1), Form NotSupported)
    ∷ (not (lists (last_policy h) c.client_id), Grant (NoScope c.client_id))
    ∷ (
      not (is_among c.client_id (accepted h)) && not (nat_lt (length (accepted h)) (last_limits h).clients),
      Room (Full place.Clients),
    )
    ∷ []

abbrev pub connack_to : Address → ReturnCode → Out
connack_to to code = Send to (written (frame.ConnectAck code))

-- a CONNECT with Will is answered by WILLTOPICREQ, and any other by CONNACK (6.2 and 6.3)
abbrev pub welcome_to : Connect → Address → Out
welcome_to c to = if c.flags.will then Send to (written frame.WillTopicRequest) else connack_to to ACCEPTED

-- DISCONNECT: there is no session at the address any more, or none at all
abbrev pub bye : Address → Out
bye to = Send to (written (frame.Disconnect None))

-- the ReturnCode of a rule: an id without a name is invalid, a connection that is down or a full place is
-- congestion, and any other rule is not supported (5.3.10)
abbrev pub code_for : Denial → ReturnCode
code_for (Form (UnknownId kind id)) = INVALID_TOPIC_ID
code_for (Room UpstreamDown) = CONGESTION
code_for (Room (Full place)) = CONGESTION
code_for other = NOT_SUPPORTED

abbrev pub bye_at : Option ClientState → Option Address → Address → List Out
bye_at None place from = []
bye_at (Some phase) None from = []
bye_at (Some phase) (Some place) from =
    if has_session phase && not (same_address place from) then bye place ∷ [] else []

-- the client's DISCONNECT where it was, if that is elsewhere
abbrev pub old_place : List Row → Address → List ℕ → List Out
old_place h from id = if is_among id (accepted h) then bye_at (phase_of id h) (address_of id h) from else []

-- another client at the address leaves, and what waits for it is gone
abbrev pub others_leave : List Row → Address → List ℕ → List Out
others_leave h from id =
    flat_map (λ other. Note (note.Left other) ∷ gone_answer h other)
    (filter (λ other. not (bytes_eq id other)) (those_at from h))

-- the row begins with the note of the CONNECT; one that is denied is answered by its code. As one is
-- accepted, the client is dismissed where it was before, another client at the address leaves, of the
-- subscriptions that a clean one ends it is noted where the broker is not told, and its answer comes last,
-- but for what waits for the client: a clean one drops it before, and else it is handed over behind CONNACK,
-- while one with Will keeps it until its dialogue is over
abbrev pub entry_answer : List Row → Address → Connect → Outcome → List Out
entry_answer h from c (Denied rule) =
    Note (note.Connect c.client_id (Denied rule)) ∷ connack_to from (code_for rule) ∷ []
entry_answer h from c Allowed =
    Note (note.Connect c.client_id Allowed)
    ∷ (old_place h from c.client_id
    ++ (others_leave h from c.client_id
    ++ (clean_answer h c ++ around_welcome h from c (welcome_to c from))))

abbrev pub connect_answer : List Row → Address → Connect → List Out
connect_answer h from c = entry_answer h from c (judged (connect_rules h c))

-- ---- PUBLISH without a session (5.4.12, 6.7 and 6.8)

-- a short name is the two octets of its id
abbrev pub short_name : ℕ → List ℕ
short_name id = id / 256 ∷ id % 256 ∷ []

abbrev pub needs_session : TopicIdType → Bool
needs_session Normal = true
needs_session Reserved = true
needs_session Predefined = false
needs_session Short = false

abbrev pub is_bad_short : TopicIdType → ℕ → Bool
is_bad_short Short id = not (is_name (short_name id))
is_bad_short other id = false

abbrev pub is_nameless : Policy → TopicIdType → ℕ → Bool
is_nameless policy Predefined id = not (is_some (topic policy id))
is_nameless policy other id = false

-- the name that the topic id stands for, where it stands for one
abbrev pub name_read : Policy → TopicIdType → ℕ → Option (List ℕ)
name_read policy Short id = if is_name (short_name id) then Some (short_name id) else None
name_read policy Predefined id = topic policy id
name_read policy Normal id = None
name_read policy Reserved id = None

abbrev pub or_empty : Option (List ℕ) → List ℕ
or_empty None = []
or_empty (Some name) = name

-- what forbids a publish of a device, in order
abbrev pub source_rules : List Row → Address → Publish → List Rule
source_rules h from p =
    let policy = last_policy h in
    let type = p.flags.id_type in
    let name = or_empty (name_read policy type p.topic_id) in
    (not (lists_source policy from.ip), Grant UnknownSource)
    ∷ (needs_session type, Form IdType)
    ∷ (is_bad_short type p.topic_id, Form BadName)
    ∷ (is_nameless policy type p.topic_id, Form (UnknownId kind.Predefined p.topic_id))
    ∷ (not (may_publish (scope_of policy.sources from.ip) name), Grant (MissingPub name))
    ∷ (not (is_up h), Room UpstreamDown)
    ∷ (not (nat_lt (length (waiting h)) (last_limits h).waiting), Room (Full place.Outbox))
    ∷ []

-- the publish is noted, with the name where a listed device names one, and is not answered
abbrev pub source_answer : List Row → Address → Publish → List Out
source_answer h from p =
    let policy = last_policy h in
    let name = if lists_source policy from.ip then name_read policy p.flags.id_type p.topic_id else None in
    Note (note.Publish (who.Source from.ip) name (judged (source_rules h from p))) ∷ []

-- ---- a message of a session: of who is at the address, or of nobody

abbrev pub answer_to : List Out → (List ℕ → List Out) → List (List ℕ) → List Out
answer_to stranger known [] = stranger
answer_to stranger known (id ∷ ids) = flat_map known (id ∷ ids)

-- by nobody: it is noted, and answered by DISCONNECT where it needs a session
abbrev pub no_session : Address → List Out
no_session from = Note (note.Frame (who.Address from) (Denied (Form NoSession))) ∷ bye from ∷ []

abbrev pub names_another : Option (List ℕ) → List ℕ → Bool
names_another None id = false
names_another (Some named) id = not (bytes_eq named id)

-- PINGREQ (5.4.19 and 6.14): one that names another client has no session. Of an active client PINGRESP
-- answers it, without a note. One that names its client wakes it where it sleeps: what waited is handed over,
-- and PINGRESP says that nothing is left; an awake client goes on. Else it is out of turn and noted alone
abbrev pub ping_awake : List Row → Address → List ℕ → List Out
ping_awake h from id =
    if is_asleep (phase_of id h)
    then handed_awake true (mailing h id from) (waits_for id h)
    else (if is_awake (phase_of id h) then [] else out_of_turn id)

abbrev pub ping_answer : List Row → Address → Option (List ℕ) → List ℕ → List Out
ping_answer h from named id =
    if names_another named id
    then Note (note.Frame (who.Client id) (Denied (Form NoSession))) ∷ bye from ∷ []
    else (if is_active (phase_of id h) then Send from (written frame.PingResponse) ∷ []
    else (if is_some named then ping_awake h from id else out_of_turn id))

-- DISCONNECT with Duration (5.4.21 and 6.14): the client falls asleep, which DISCONNECT answers; while its
-- dialogue is open that is out of turn
abbrev pub sleep_answer : List Row → Address → List ℕ → List Out
sleep_answer h from id = if is_awaiting (phase_of id h) then bye from ∷ [] else out_of_turn id

-- DISCONNECT without Duration (5.4.21): the client leaves, is answered by DISCONNECT, and what waits for it
-- is gone
abbrev pub leave_answer : List Row → Address → List ℕ → List Out
leave_answer h from id = Note (note.Left id) ∷ bye from ∷ gone_answer h id

-- a datagram that is no message: one of a type that is not supported, or malformed
abbrev pub broken_rule : FrameFault → Denial
broken_rule fault.NotSupported = Form NotSupported
broken_rule other = Form Malformed

abbrev pub broken_stranger : Address → FrameFault → List Out
broken_stranger from broke = Note (note.Frame (who.Address from) (Denied (broken_rule broke))) ∷ []

abbrev pub broken_answer : FrameFault → List ℕ → List Out
broken_answer broke id = Note (note.Frame (who.Client id) (Denied (broken_rule broke))) ∷ []
