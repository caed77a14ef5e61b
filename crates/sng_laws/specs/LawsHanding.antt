-- How what comes from the broker is handed over to a client in a lawful history, in the views' words: the
-- rules, the frames, and the rows.
use Rattle.std.specs.Prelude.{ℕ, ◌≡◌, ◌≤◌, ◌+◌, ◌==◌, ◌%◌, ◌&&◌, ◌||◌, not, nat_lt, nat_le, Bool, true, false}
use Rattle.std.specs.Prelude.{List, [], ◌∷◌, ◌++◌, map, length, filter, take, drop, is_some, if◌then◌else◌}
use Rattle.std.specs.Prelude.{Option, Some, None}
use Rattle.sng_text.specs.declared.qos.Qos.{Qos}
use Rattle.sng_text.specs.declared.qos.Qos.TheVariants.{AtMostOnce, AtLeastOnce}
use Rattle.std.specs.Option.{option_to_list}
use Rattle.mqtt_frames.specs.declared.packet.Publish.{Publish}
use Rattle.sng_grants.specs.declared.policy.Policy.{Policy}
use Rattle.sng_grants.specs.Topics.{id_of}
use Rattle.sng_queue.specs.Messages.{Message}
use Rattle.sng_queue.specs.declared.limits.TheConstants.{MAX_QUEUED, MAX_WAITING_NAME, MAX_WAITING_PAYLOAD}
use Rattle.sng_frames.specs.Writing.{written}
use Rattle.sng_frames.specs.declared.flags.Flags.{Flags}
use Rattle.sng_frames.specs.declared.flags.TopicIdType.{TopicIdType}
use Rattle.sng_frames.specs.declared.flags.TopicIdType.TheVariants.{Normal, Predefined, Short}
use Rattle.sng_frames.specs.declared.qos.FrameQos.{FrameQos}
use Rattle.sng_frames.specs.declared.qos.FrameQos.TheVariants as qos
use Rattle.sng_frames.specs.declared.messages.acks.TopicAck.{TopicAck}
use Rattle.sng_frames.specs.declared.messages.connect.Connect.{Connect}
use Rattle.sng_frames.specs.declared.frame.SnFrame.TheVariants as frame
use Rattle.sng_states.specs.declared.state.ClientState.{ClientState}
use Rattle.sng_states.specs.declared.state.ClientState.TheVariants.{Awake}
use Rattle.sng_book.specs.Denials.{is_allowed}
use Rattle.sng_book.specs.declared.address.Address.{Address}
use Rattle.sng_book.specs.declared.decision.Decision.{Decision}
use Rattle.sng_book.specs.declared.decision.Decision.TheVariants as note
use Rattle.sng_book.specs.declared.decision.Who.TheVariants as who
use Rattle.sng_book.specs.declared.outcome.Place.TheVariants as place
use Rattle.sng_book.specs.declared.outcome.Denial.TheVariants.{Form, Room, Peer}
use Rattle.sng_book.specs.declared.outcome.FormDenial.TheVariants.{OutOfTurn}
use Rattle.sng_book.specs.declared.outcome.RoomDenial.TheVariants.{Full, TooLong}
use Rattle.sng_book.specs.declared.outcome.PeerDenial.TheVariants.{ClientRefused, Gone}
use Rattle.sng_book.specs.declared.outcome.Outcome.{Outcome}
use Rattle.sng_book.specs.declared.outcome.Outcome.TheVariants.{Allowed, Denied}
use Rattle.sng_book.specs.declared.out.Out.{Out}
use Rattle.sng_book.specs.declared.out.Out.TheVariants.{Send, Wire, Note}
use Rattle.sng_book.specs.declared.row.Row.{Row}
use Rattle.sng_ids.specs.declared.limits.TheConstants.{MAX_TOPIC_IDS}
use Rattle.sng_laws.specs.LawsRules.{Rule, judged, receive_rules, IsDenial}
use Rattle.sng_laws.specs.Views.{last_policy, policy_in_force}
use Rattle.sng_laws.specs.ViewsClients.{phase_of, is_among, with_name, names_told, id_told}
use Rattle.sng_laws.specs.ViewsFlight.{number_in}
use Rattle.sng_laws.specs.ViewsHanding.{is_at_least_once, is_taking, is_away, brought_in, due_of}
use Rattle.sng_laws.specs.ViewsHanding.{settled_of, waits_for, Announced, progress_of, number_of, is_idle}
use Rattle.sng_laws.specs.ViewsHanding.{name_announced, regack_has_turn, puback_has_turn, names_known}

-- ---- what forbids a message to a client (RFC 9431, 2.3)

-- what decides how messages go to a client: the policy in force, who and where it is, the names that it was
-- told ids of and those that it knows, and the MsgId that it was given last
pub record Mailing : Type 0 where
  pub policy : Policy
  pub id : List ℕ
  pub address : Address
  pub told : List (List ℕ)
  pub known : List (List ℕ)
  pub number : ℕ

-- a name is known to a client that was told ids of some names and knows some: it has two octets, or a
-- predefined id, or an id that the client was told and knows
abbrev pub is_known : Policy → List (List ℕ) → List (List ℕ) → List ℕ → Bool
is_known policy told known name =
    (length name == 2) || (is_some (id_of policy.topics name) || (is_among name told && is_among name known))

abbrev pub knows : Mailing → List ℕ → Bool
knows c name = is_known c.policy c.told c.known name

-- what forbids it as its turn comes, in order: the policy, and a name that would need an id where
-- `MAX_TOPIC_IDS` were told
abbrev pub hand_rules : Mailing → List ℕ → List Rule
hand_rules c name =
    receive_rules c.policy c.id name
    ++ (
      not (knows c name) && (not (is_among name c.told) && not (nat_lt (length c.told) MAX_TOPIC_IDS)),
      Room (Full place.Ids),
    ) ∷ []

-- ---- its frames (MQTT-SN 1.2, 5.3.11, 5.4.10, 5.4.12, 6.5 and 6.10)

-- MsgIds count from 1 to 65,535 and begin again
abbrev pub next_number : ℕ → ℕ
next_number number = number % 65535 + 1

abbrev pub frame_qos : Qos → FrameQos
frame_qos AtMostOnce = qos.AtMostOnce
frame_qos AtLeastOnce = qos.AtLeastOnce

-- the least predefined id of the name, or else the one that the client was told
abbrev pub id_meant : Option ℕ → ℕ → TopicIdType × ℕ
id_meant (Some id) told = (Predefined, id)
id_meant None told = (Normal, told)

-- the type and the id by which it is sent: a name of two octets is its own short name
abbrev pub topic_meant : Mailing → List ℕ → TopicIdType × ℕ
topic_meant c name =
    if length name == 2 then (Short, number_in name)
    else id_meant (id_of c.policy.topics name) (id_told name c.told)

-- no flag is set
abbrev pub unset : Flags
unset =
    record {
      dup = false;
      qos = qos.AtMostOnce;
      retain = false;
      will = false;
      clean = false;
      id_type = Normal;
    }

-- the PUBLISH has the payload, the Retain and the QoS of the message, and at QoS 1 the next MsgId
abbrev pub publish_to : Mailing → Message → Out
publish_to c m =
    let topic = topic_meant c m.name in
    Send c.address (written (frame.Publish (record {
      flags = record unset { qos = frame_qos m.qos; retain = m.retain; id_type = topic.0 };
      topic_id = topic.1;
      msg_id = if is_at_least_once m.qos then next_number c.number else 0;
      payload = m.payload;
    })))

-- the REGISTER tells the id of the name, or the next
abbrev pub register_to : Mailing → List ℕ → Out
register_to c name =
    Send c.address (written (frame.Register
    (record { topic_id = id_told name c.told; msg_id = next_number c.number; name = name })))

-- ---- what leaves as messages may leave, the oldest first

-- behind a message at QoS 1 nothing leaves until it is answered
abbrev pub sent_before : Message → List Out → List Out
sent_before m rest = if is_at_least_once m.qos then [] else rest

abbrev pub handed_one : Mailing → Message → Outcome → List Out → List Out
handed_one c m (Denied rule) rest = Note (note.Hand c.id m.name (Denied rule)) ∷ rest
handed_one c m Allowed rest =
    if knows c m.name
    then Note (note.Hand c.id m.name Allowed) ∷ publish_to c m ∷ sent_before m rest
    else Note (note.Announce c.id m.name) ∷ register_to c m.name ∷ []

-- each message is judged: denied it is noted, and the next one has its turn; a known one is sent; for one
-- that is not, an id is announced
abbrev pub handed_out : Mailing → List Message → List Out
handed_out c [] = []
handed_out c (m ∷ more) = handed_one c m (judged (hand_rules c m.name)) (handed_out c more)

-- whether it ends with something open: an announcement, or a message at QoS 1
abbrev pub opens_by : Mailing → Message → Outcome → Bool → Bool
opens_by c m (Denied rule) rest = rest
opens_by c m Allowed rest = if knows c m.name then is_at_least_once m.qos || rest else true

abbrev pub opens : Mailing → List Message → Bool
opens c [] = false
opens c (m ∷ more) = opens_by c m (judged (hand_rules c m.name)) (opens c more)

-- an awake client for which nothing is open then, so that nothing waits either, is told so by PINGRESP, and
-- sleeps again (6.14)
abbrev pub pong_to : Address → Out
pong_to to = Send to (written frame.PingResponse)

abbrev pub handed_awake : Bool → Mailing → List Message → List Out
handed_awake awake c ms =
    handed_out c ms ++ (if awake && not (opens c ms) then pong_to c.address ∷ [] else [])

-- as the rows show it
abbrev pub mailing : List Row → List ℕ → Address → Mailing
mailing h id to = record {
  policy = last_policy h;
  id = id;
  address = to;
  told = names_told id h;
  known = names_known id h;
  number = number_of id h;
}

-- ---- as a client leaves or connects

-- what waits for it is gone
abbrev pub gone_answer : List Row → List ℕ → List Out
gone_answer h id = map (λ m. Note (note.Hand id m.name (Denied (Peer Gone)))) (waits_for id h)

-- what waits for one that connects: a clean CONNECT drops it before its answer; else it is handed over behind
-- CONNACK, and no topic id is known, but with Will it goes on waiting
abbrev pub around_welcome : List Row → Address → Connect → Out → List Out
around_welcome h from c ack =
    if c.flags.clean
    then gone_answer h c.client_id ++ ack ∷ []
    else (if c.flags.will
    then ack ∷ []
    else ack ∷ handed_out (record (mailing h c.client_id from) { told = []; known = [] })
    (waits_for c.client_id h))

-- ---- REGACK and PUBACK of a client (5.4.11, 5.4.13, 6.5 and 6.6)

abbrev pub is_awake : Option ClientState → Bool
is_awake (Some Awake) = true
is_awake other = false

abbrev pub out_of_turn : List ℕ → List Out
out_of_turn id = Note (note.Frame (who.Client id) (Denied (Form OutOfTurn))) ∷ []

-- the message whose name was announced is refused
abbrev pub refused_by : List ℕ → ℕ → List Message → List Out
refused_by id code [] = []
refused_by id code (m ∷ more) = Note (note.Hand id m.name (Denied (Peer (ClientRefused code)))) ∷ []

-- in turn a REGACK that accepts the id confirms it, any other refuses the front; and what may leave then
-- leaves
abbrev pub regack_answer : List Row → Address → TopicAck → List ℕ → List Out
regack_answer h from r id =
    let now = progress_of id h in
    let c = mailing h id from in
    if regack_has_turn id now h r
    then (if r.code.0 == 0
    then handed_awake (is_awake (phase_of id h))
    (record c { known = with_name (name_announced now.unanswered) c.known }) (waits_for id h)
    else refused_by id r.code.0 (waits_for id h)
    ++ handed_awake (is_awake (phase_of id h)) c (drop 1 (waits_for id h)))
    else out_of_turn id

abbrev pub puback_answer : List Row → Address → TopicAck → List ℕ → List Out
puback_answer h from r id =
    if puback_has_turn id (progress_of id h) h r
    then handed_awake (is_awake (phase_of id h)) (mailing h id from) (waits_for id h)
    else out_of_turn id

-- ---- a message of the broker (MQTT 3.1.1, 3.3)

-- no datagram can carry its name or its payload
abbrev pub is_too_long : Message → Bool
is_too_long m =
    not (nat_le (length m.name) MAX_WAITING_NAME && nat_le (length m.payload) MAX_WAITING_PAYLOAD)

-- the client takes messages, and nothing is open with it
abbrev pub is_ready : List Row → List ℕ → Bool
is_ready h id = is_taking (phase_of id h) && is_idle (progress_of id h).unanswered

-- what one that concerns the client lets out: it is refused at once, or handed over at once, or waits
abbrev pub arrival_answer : List Row → List ℕ → Address → Message → List Out
arrival_answer h id to m =
    if is_too_long m
    then Note (note.Hand id m.name (Denied (Room TooLong))) ∷ []
    else (if not (nat_lt (length (waits_for id h)) MAX_QUEUED)
    then Note (note.Hand id m.name (Denied (Room (Full place.Queue)))) ∷ []
    else (if is_ready h id then handed_out (mailing h id to) (m ∷ []) else []))

abbrev pub arrivals : List Row → List ℕ → Option Address → Option Message → List Out
arrivals h id None m = []
arrivals h id (Some to) None = []
arrivals h id (Some to) (Some m) = arrival_answer h id to m

-- ---- what holds at every row

-- the k-th settlement of the client is for its k-th message that was due, and no message comes out before it
-- was due
pub record SettledInOrder (h : List Row) (id : List ℕ) : Type 0 where
  pub few : length (settled_of id h) ≤ length (due_of id h)
  pub names : map (λ hand. hand.0) (settled_of id h)
      ≡ map (λ m. m.name) (take (length (settled_of id h)) (due_of id h))

-- the messages that the broker sent, and how often one was handed over to the client
abbrev pub sent_of : List Row → List Publish
sent_of [] = []
sent_of (row ∷ earlier) = sent_of earlier ++ option_to_list (brought_in row.event)

abbrev pub handed_of : List ℕ → List Row → List (List ℕ × Outcome)
handed_of id h = filter (λ hand. is_allowed hand.1) (settled_of id h)

-- a client is handed no more messages than the broker sent
abbrev pub HandedOnce : List Row → List ℕ → Type 0
HandedOnce h id = length (handed_of id h) ≤ length (sent_of h)

-- the message of the name is the oldest of those that wait
abbrev pub IsFront : List ℕ → List Message → Type 0
IsFront name [] = ⊥
IsFront name (m ∷ more) = m.name ≡ name

-- while the announcement of a name is open, the oldest that waits for the client is of that name
abbrev pub FrontAnnounced : List Row → List ℕ → Type 0
FrontAnnounced h id =
    (name : List ℕ) → (progress_of id h).unanswered ≡ Some (Announced name) → IsFront name (waits_for id h)

-- a client that takes messages has nothing waiting, or something is open with it
abbrev pub NothingIdles : List Row → List ℕ → Type 0
NothingIdles h id = is_ready h id ≡ true → waits_for id h ≡ []

-- and nothing waits for a client without a session
abbrev pub NoneKept : List Row → List ℕ → Type 0
NoneKept h id = is_away (phase_of id h) ≡ true → waits_for id h ≡ []

-- and so is a note that a message was handed over, an id of its name announced, or what is open sent again or
-- not
abbrev pub IsJudged : Policy → Decision → Type 0
IsJudged policy (note.Hand id name Allowed) = judged (receive_rules policy id name) ≡ Allowed
IsJudged policy (note.Hand id name (Denied rule)) = IsDenial policy id name rule
IsJudged policy (note.Announce id name) = judged (receive_rules policy id name) ≡ Allowed
IsJudged policy (note.Retry client name outcome) = outcome ≡ judged (receive_rules policy client name)
IsJudged policy other = Unit {0}

abbrev pub AllJudged : Policy → List Out → Type 0
AllJudged policy [] = Unit {0}
AllJudged policy (Note said ∷ outs) = IsJudged policy said × AllJudged policy outs
AllJudged policy (Send to datagram ∷ outs) = AllJudged policy outs
AllJudged policy (Wire packet ∷ outs) = AllJudged policy outs

-- at each row, by the policy in force at it
abbrev pub EachHandJudged : List Row → Type 0
EachHandJudged [] = Unit {0}
EachHandJudged (row ∷ earlier) = EachHandJudged earlier × AllJudged (policy_in_force (row ∷ earlier)) row.outs
