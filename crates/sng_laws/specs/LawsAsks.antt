-- How the asks of a client are judged, noted and answered in a lawful history, and the packets of the broker,
-- in the views' words.
use Rattle.std.specs.Prelude.{ℕ, zero, suc, ◌+◌, Bool, true, false, ◌&&◌, not, nat_lt, List, [], ◌∷◌, ◌++◌}
use Rattle.std.specs.Prelude.{filter, length, slice_get, if◌then◌else◌, Option, Some, None, is_some}
use Rattle.std.specs.List.{flat_map}
use Rattle.sng_text.specs.Texts.{is_name}
use Rattle.sng_grants.specs.Sources.{scope_of}
use Rattle.sng_grants.specs.declared.policy.Policy.{Policy}
use Rattle.sng_policy.specs.Grants.{lists}
use Rattle.mqtt_frames.specs.declared.packet.Publish as mqtt
use Rattle.mqtt_frames.specs.declared.packet.Packet.{Packet}
use Rattle.mqtt_frames.specs.declared.packet.Packet.TheVariants as packet
use Rattle.sng_frames.specs.Writing.{written}
use Rattle.sng_frames.specs.declared.flags.TopicIdType.{TopicIdType}
use Rattle.sng_frames.specs.declared.flags.TopicIdType.TheVariants.{Normal, Predefined, Short, Reserved}
use Rattle.sng_frames.specs.declared.qos.FrameQos.{FrameQos}
use Rattle.sng_frames.specs.declared.qos.FrameQos.TheVariants as qos
use Rattle.sng_frames.specs.declared.messages.publish.Publish.{Publish}
use Rattle.sng_frames.specs.declared.messages.register.Register.{Register}
use Rattle.sng_frames.specs.declared.return_code.ReturnCode.{ReturnCode}
use Rattle.sng_frames.specs.declared.return_code.TheConstants.ReturnCode.{ACCEPTED}
use Rattle.sng_frames.specs.declared.frame.SnFrame.TheVariants as frame
use Rattle.sng_outbox.specs.Sending.{is_at_least_once}
use Rattle.sng_grants.specs.Limits.{flight_limit}
use Rattle.sng_book.specs.declared.address.Address.{Address}
use Rattle.sng_book.specs.declared.decision.Decision.TheVariants as note
use Rattle.sng_book.specs.declared.decision.Who.TheVariants as who
use Rattle.sng_book.specs.declared.outcome.IdKind.TheVariants as kind
use Rattle.sng_book.specs.declared.outcome.Place.TheVariants as place
use Rattle.sng_book.specs.declared.outcome.Denial.TheVariants.{Form, Grant, Room}
use Rattle.sng_book.specs.declared.outcome.FormDenial.TheVariants.{NotSupported, NoSession, BadName, IdType}
use Rattle.sng_book.specs.declared.outcome.FormDenial.TheVariants.{UnknownId, OutOfTurn}
use Rattle.sng_book.specs.declared.outcome.GrantDenial.TheVariants.{NoScope, MissingPub}
use Rattle.sng_book.specs.declared.outcome.RoomDenial.TheVariants.{UpstreamDown, Full}
use Rattle.sng_book.specs.declared.outcome.Outcome.{Outcome}
use Rattle.sng_book.specs.declared.outcome.Outcome.TheVariants.{Allowed, Denied}
use Rattle.sng_book.specs.declared.out.Out.{Out}
use Rattle.sng_book.specs.declared.out.Out.TheVariants.{Send, Note}
use Rattle.sng_book.specs.declared.row.Row.{Row}
use Rattle.sng_ids.specs.declared.limits.TheConstants.{MAX_TOPIC_IDS}
use Rattle.sng_states.specs.declared.limits.TheConstants.{MAX_OPEN_IDS}
use Rattle.sng_laws.specs.Views.{last_policy, last_limits, is_up}
use Rattle.sng_laws.specs.LawsHanding.{arrivals, out_of_turn}
use Rattle.sng_laws.specs.ViewsMessages.{is_without_session, is_exactly_once}
use Rattle.sng_laws.specs.ViewsOpenIds.{is_open, open_of}
use Rattle.sng_laws.specs.ViewsHanding.{meant_for}
use Rattle.sng_laws.specs.ViewsClients.{phase_of, address_of, accepted, is_among, names_told, id_told}
use Rattle.sng_laws.specs.ViewsLink.{waiting, publications}
use Rattle.sng_laws.specs.ViewsFlight.{in_flight}
use Rattle.sng_laws.specs.ViewsWanted.{is_refusal, filter_with, wanted}
use Rattle.sng_laws.specs.LawsRules.{Rule, judged, may_publish}
use Rattle.sng_laws.specs.LawsEnds.{refused_answer}
use Rattle.sng_laws.specs.LawsAnswers.{bye, code_for, is_active, is_bad_short, is_nameless, name_read}
use Rattle.sng_laws.specs.LawsAnswers.{or_empty}

-- a client may ask while it is active and the policy in force lists it
abbrev pub may_ask : List Row → List ℕ → Bool
may_ask h id = is_active (phase_of id h) && lists (last_policy h) id

-- ---- REGISTER (MQTT-SN 1.2, 5.4.10, 5.4.11 and 6.5)

-- what forbids a REGISTER of a client, in order
abbrev pub register_rules : List Row → List ℕ → List ℕ → List Rule
register_rules h id name =
    let policy = last_policy h in
    let told = names_told id h in
    (not (is_active (phase_of id h)), Form OutOfTurn)
    ∷ (not (lists policy id), Grant (NoScope id))
    ∷ (not (is_name name), Form BadName)
    ∷ (not (may_publish (scope_of policy.clients id) name), Grant (MissingPub name))
    ∷ (not (is_among name told) && not (nat_lt (length told) MAX_TOPIC_IDS), Room (Full place.Ids))
    ∷ []

-- REGACK with an id, the MsgId that came, and a code
abbrev pub regack_to : Address → ℕ → Register → ReturnCode → Out
regack_to to id r code =
    Send to (written (frame.RegisterAck (record { topic_id = id; msg_id = r.msg_id; code = code })))

-- where the REGISTER is allowed it tells the id, and else the rule's code with no id
abbrev pub regack : Address → ℕ → Register → Outcome → Out
regack to id r Allowed = regack_to to id r ACCEPTED
regack to id r (Denied rule) = regack_to to 0 r (code_for rule)

-- by nobody there is no session
abbrev pub register_stranger : Address → List Out
register_stranger from =
    Note (note.Register (who.Address from) None (Denied (Form NoSession))) ∷ bye from ∷ []

-- of a client it is noted, with the name where the client may ask and names one, and REGACK answers
abbrev pub register_answer : List Row → Address → Register → List ℕ → List Out
register_answer h from r id =
    let outcome = judged (register_rules h id r.name) in
    Note (note.Register (who.Client id)
    (if may_ask h id && is_name r.name then Some r.name else None) outcome)
    ∷ regack from (id_told r.name (names_told id h)) r outcome
    ∷ []

-- ---- PUBLISH of a session (5.4.12, 5.4.13, 6.6 and 6.7)

-- QoS 0, 1 or 2
abbrev pub is_of_session : FrameQos → Bool
is_of_session q = not (is_without_session q)

-- QoS 1 or 2, at which what is allowed is answered, and waits at QoS 1
abbrev pub is_acknowledged : FrameQos → Bool
is_acknowledged qos.AtLeastOnce = true
is_acknowledged qos.ExactlyOnce = true
is_acknowledged other = false

-- the type that stands for nothing
abbrev pub is_reserved : TopicIdType → Bool
is_reserved Reserved = true
is_reserved other = false

-- the name with this id among those told: the first has id 1
abbrev pub told_as : ℕ → List (List ℕ) → Option (List ℕ)
told_as zero names = None
told_as (suc place) names = slice_get names place

-- a normal id that was not told
abbrev pub is_untold : List (List ℕ) → TopicIdType → ℕ → Bool
is_untold told Normal id = not (is_some (told_as id told))
is_untold told other id = false

-- the name that the topic id stands for to a client who was told these names
abbrev pub name_meant : Policy → List (List ℕ) → TopicIdType → ℕ → Option (List ℕ)
name_meant policy told Normal id = told_as id told
name_meant policy told Predefined id = name_read policy Predefined id
name_meant policy told Short id = name_read policy Short id
name_meant policy told Reserved id = None

-- how many publishes of QoS 1 wait or are in flight
abbrev pub unacknowledged : List Row → ℕ
unacknowledged h =
    length (filter (λ p. is_at_least_once p.qos) (publications (waiting h))) + length (in_flight h)

-- what forbids a publish of a client, in order
abbrev pub session_rules : List Row → List ℕ → Publish → List Rule
session_rules h id p =
    let policy = last_policy h in
    let type = p.flags.id_type in
    let told = names_told id h in
    let name = or_empty (name_meant policy told type p.topic_id) in
    (not (is_active (phase_of id h)), Form OutOfTurn)
    ∷ (not (lists policy id), Grant (NoScope id))
    ∷ (is_reserved type, Form IdType)
    ∷ (is_bad_short type p.topic_id, Form BadName)
    ∷ (is_nameless policy type p.topic_id, Form (UnknownId kind.Predefined p.topic_id))
    ∷ (is_untold told type p.topic_id, Form (UnknownId kind.Normal p.topic_id))
    ∷ (not (may_publish (scope_of policy.clients id) name), Grant (MissingPub name))
    ∷ (not (is_up h), Room UpstreamDown)
    ∷ (
      is_exactly_once p.flags.qos && not (nat_lt (length (open_of id h)) MAX_OPEN_IDS),
      Room (Full place.Exchanges),
    )
    ∷ (
      is_acknowledged p.flags.qos && not (nat_lt (unacknowledged h) (flight_limit (last_limits h))),
      Room (Full place.InFlight),
    )
    ∷ (not (nat_lt (length (waiting h)) (last_limits h).waiting), Room (Full place.Outbox))
    ∷ []

-- PUBACK names the TopicId and the MsgId that came
abbrev pub puback_to : Address → Publish → ReturnCode → Out
puback_to to p code =
    Send to (written (frame.PublishAck (record { topic_id = p.topic_id; msg_id = p.msg_id; code = code })))

-- PUBREC and PUBCOMP name a MsgId alone
abbrev pub pubrec_to : Address → ℕ → Out
pubrec_to to number = Send to (written (frame.PublishReceived number))

abbrev pub pubcomp_to : Address → ℕ → Out
pubcomp_to to number = Send to (written (frame.PublishComplete number))

-- one that is allowed is answered at QoS 1 by PUBACK, and at QoS 2 by PUBREC
abbrev pub accepted_to : Address → Publish → FrameQos → List Out
accepted_to to p qos.AtMostOnce = []
accepted_to to p qos.AtLeastOnce = puback_to to p ACCEPTED ∷ []
accepted_to to p qos.ExactlyOnce = pubrec_to to p.msg_id ∷ []
accepted_to to p qos.WithoutSession = []

-- and one that is denied always by PUBACK
abbrev pub puback : Address → Publish → Outcome → List Out
puback to p Allowed = accepted_to to p p.flags.qos
puback to p (Denied rule) = puback_to to p (code_for rule) ∷ []

-- by nobody there is no session, either
abbrev pub publish_stranger : Address → List Out
publish_stranger from = Note (note.Publish (who.Address from) None (Denied (Form NoSession))) ∷ bye from ∷ []

-- it repeats one that was allowed: it is at QoS 2, the client is active, and its MsgId is open, whatever else
-- it says
abbrev pub is_repeat : List Row → List ℕ → Publish → Bool
is_repeat h id p =
    is_exactly_once p.flags.qos && (is_active (phase_of id h) && is_open p.msg_id (open_of id h))

-- of a client it is noted, with the name where the client may ask and the id stands for one
abbrev pub asked_answer : List Row → Address → Publish → List ℕ → List Out
asked_answer h from p id =
    let outcome = judged (session_rules h id p) in
    let name = name_meant (last_policy h) (names_told id h) p.flags.id_type p.topic_id in
    Note (note.Publish (who.Client id) (if may_ask h id then name else None) outcome) ∷ puback from p outcome

-- but a repeat, which PUBREC answers alone
abbrev pub publish_answer : List Row → Address → Publish → List ℕ → List Out
publish_answer h from p id =
    if is_repeat h id p then pubrec_to from p.msg_id ∷ [] else asked_answer h from p id

-- ---- PUBREL (5.4.14 and 6.6)

-- of an active client PUBCOMP answers it, without a note; else it is out of turn
abbrev pub release_answer : List Row → Address → ℕ → List ℕ → List Out
release_answer h from number id =
    if is_active (phase_of id h) then pubcomp_to from number ∷ [] else out_of_turn id

-- ---- packets of the broker (MQTT 3.1.1, 3.3)

-- a message comes to each client that it concerns, in order; one under a text that is no topic name is noted;
-- and where an acknowledgement is owed, for which there is no place, that, too
abbrev pub message_answer : List Row → mqtt.Publish → List Out
message_answer h p =
    flat_map (λ id. arrivals h id (address_of id h) (meant_for id p h)) (accepted h)
    ++ (if is_name p.name then [] else Note (note.Frame who.Broker (Denied (Form BadName))) ∷ [])
    ++ (if is_some p.packet_id && (is_up h && not (nat_lt (length (waiting h)) (last_limits h).waiting))
    then Note note.Outbox ∷ [] else [])

-- a SUBACK whose first code refuses ends the filter of the SUBSCRIBE that it answers, for each client for
-- whom it stands
abbrev pub suback_answer : List Row → Option (List ℕ) → List Out
suback_answer h None = []
suback_answer h (Some text) = refused_answer h text

-- the other answers that the gateway waits for let nothing out, and any other packet is not supported
abbrev pub packet_answer : List Row → Packet → List Out
packet_answer h (packet.Publish p) = message_answer h p
packet_answer h (packet.PublishAck packet_id) = []
packet_answer h (packet.SubscribeAck answer) =
    if is_refusal answer.codes then suback_answer h (filter_with answer.packet_id (wanted h)) else []
packet_answer h (packet.UnsubscribeAck packet_id) = []
packet_answer h packet.PingResponse = []
packet_answer h other = Note (note.Frame who.Broker (Denied (Form NotSupported))) ∷ []
