-- How a SUBSCRIBE and an UNSUBSCRIBE are judged, noted and answered in a lawful history, and which
-- subscriptions a replacement of the policy ends, in the views' words.
use Rattle.std.specs.Prelude.{ℕ, ◌≡◌, ◌⊎◌, Bool, true, false, ◌&&◌, not, nat_lt, List, [], ◌∷◌, ◌++◌, length}
use Rattle.std.specs.Prelude.{if◌then◌else◌, Option, Some, None, is_some}
use Rattle.std.specs.List.{flat_map}
use Rattle.std.specs.Str.{bytes_eq}
use Rattle.sng_text.specs.Texts.{is_name, is_filter}
use Rattle.sng_text.specs.Matching.{matches}
use Rattle.sng_grants.specs.Sources.{scope_of}
use Rattle.sng_grants.specs.declared.policy.Policy.{Policy}
use Rattle.sng_policy.specs.Grants.{lists, topic, subscribe_grant, receive_grant}
use Rattle.sng_policy.specs.Laws.{HasFilters}
use Rattle.sng_policy.specs.declared.grant.NameGrant.TheVariants as on_name
use Rattle.sng_policy.specs.declared.grant.FilterGrant.{FilterGrant}
use Rattle.sng_policy.specs.declared.grant.FilterGrant.TheVariants as on_filter
use Rattle.sng_fan.specs.Subscriptions.{stands}
use Rattle.sng_fan.specs.declared.limits.TheConstants.{MAX_SUBSCRIPTIONS}
use Rattle.sng_frames.specs.Writing.{written}
use Rattle.sng_frames.specs.declared.flags.TopicIdType.{TopicIdType}
use Rattle.sng_frames.specs.declared.flags.TopicIdType.TheVariants.{Normal, Predefined, Short, Reserved}
use Rattle.sng_frames.specs.declared.messages.subscribe.TopicRequest.{TopicRequest}
use Rattle.sng_frames.specs.declared.qos.FrameQos.{FrameQos}
use Rattle.sng_frames.specs.declared.qos.FrameQos.TheVariants as qos
use Rattle.sng_frames.specs.declared.return_code.TheConstants.ReturnCode.{ACCEPTED}
use Rattle.sng_frames.specs.declared.frame.SnFrame.TheVariants as frame
use Rattle.sng_book.specs.Denials.{is_allowed}
use Rattle.sng_book.specs.declared.address.Address.{Address}
use Rattle.sng_book.specs.declared.decision.Decision.TheVariants as note
use Rattle.sng_book.specs.declared.decision.Who.TheVariants as who
use Rattle.sng_book.specs.declared.outcome.IdKind.TheVariants as kind
use Rattle.sng_book.specs.declared.outcome.Place.TheVariants as place
use Rattle.sng_book.specs.declared.outcome.Denial.TheVariants.{Form, Grant, Room}
use Rattle.sng_book.specs.declared.outcome.FormDenial.TheVariants.{NoSession, BadName, BadFilter, IdType}
use Rattle.sng_book.specs.declared.outcome.FormDenial.TheVariants.{UnknownId, OutOfTurn}
use Rattle.sng_book.specs.declared.outcome.GrantDenial.TheVariants.{NoScope, Uncovered}
use Rattle.sng_book.specs.declared.outcome.RoomDenial.TheVariants.{UpstreamDown, Full}
use Rattle.sng_book.specs.declared.outcome.Outcome.{Outcome}
use Rattle.sng_book.specs.declared.outcome.Outcome.TheVariants.{Allowed, Denied}
use Rattle.sng_book.specs.declared.out.Out.{Out}
use Rattle.sng_book.specs.declared.out.Out.TheVariants.{Send, Note}
use Rattle.sng_book.specs.declared.row.Row.{Row}
use Rattle.sng_ids.specs.declared.limits.TheConstants.{MAX_TOPIC_IDS}
use Rattle.sng_laws.specs.Views.{last_policy, last_limits, is_up}
use Rattle.sng_laws.specs.ViewsClients.{phase_of, is_at, accepted, is_among, tells_id, names_told, id_told}
use Rattle.sng_laws.specs.ViewsLink.{waiting}
use Rattle.sng_laws.specs.ViewsFlight.{number_in}
use Rattle.sng_laws.specs.ViewsStanding.{standing_of}
use Rattle.sng_laws.specs.LawsRules.{Rule, judged}
use Rattle.sng_laws.specs.LawsEnds.{Stays, texts_of, untold_note}
use Rattle.sng_laws.specs.LawsAnswers.{bye, code_for, is_active, or_empty}
use Rattle.sng_laws.specs.LawsHanding.{unset}
use Rattle.sng_laws.specs.LawsAsks.{may_ask, is_reserved}

-- ---- what a SUBSCRIBE or an UNSUBSCRIBE names (MQTT-SN 1.2, 5.4.15 and 5.4.17)

-- it is a text, but no topic filter
abbrev pub is_unfit : Option (List ℕ) → Bool
is_unfit None = false
is_unfit (Some text) = not (is_filter text)

-- a text is no topic filter, or the name of a predefined id or a short name is none
abbrev pub is_bad_filter : Policy → TopicIdType → List ℕ → Bool
is_bad_filter policy Normal octets = is_unfit (Some octets)
is_bad_filter policy Predefined octets = is_unfit (topic policy (number_in octets))
is_bad_filter policy Short octets = is_name octets && is_unfit (Some octets)
is_bad_filter policy Reserved octets = false

abbrev pub is_bad_name : TopicIdType → List ℕ → Bool
is_bad_name Short octets = not (is_name octets)
is_bad_name other octets = false

-- a predefined id has no name
abbrev pub is_unnamed : Policy → TopicIdType → List ℕ → Bool
is_unnamed policy Predefined octets = not (is_some (topic policy (number_in octets)))
is_unnamed policy other octets = false

abbrev pub if_filter : Option (List ℕ) → Option (List ℕ)
if_filter None = None
if_filter (Some text) = if is_filter text then Some text else None

-- the filter that it names, where it names one
abbrev pub filter_meant : Policy → TopicIdType → List ℕ → Option (List ℕ)
filter_meant policy Normal octets = if_filter (Some octets)
filter_meant policy Predefined octets = if_filter (topic policy (number_in octets))
filter_meant policy Short octets = if is_name octets then if_filter (Some octets) else None
filter_meant policy Reserved octets = None

-- what forbids it by its form, in order
abbrev pub form_rules : Policy → TopicRequest → List Rule
form_rules policy r =
    (is_reserved r.flags.id_type, Form IdType)
    ∷ (is_bad_filter policy r.flags.id_type r.topic, Form BadFilter)
    ∷ (is_bad_name r.flags.id_type r.topic, Form BadName)
    ∷ (is_unnamed policy r.flags.id_type r.topic, Form (UnknownId kind.Predefined (number_in r.topic)))
    ∷ []

-- ---- SUBSCRIBE (5.4.15, 5.4.16 and 6.9)

-- the name that the policy answers with where it denies a subscription
abbrev pub gap_in : FilterGrant → Option (List ℕ)
gap_in (on_filter.Uncovered gap) = Some gap
gap_in other = None

-- the filter is not covered: the policy answers with a gap
abbrev pub gap_rule : Policy → List ℕ → List ℕ → Rule
gap_rule policy id text =
    let gap = gap_in (subscribe_grant policy id text) in
    (is_some gap, Grant (Uncovered text (or_empty gap)))

-- what forbids a subscription that is covered, in order: a connection that is down, a name without an id
-- where `MAX_TOPIC_IDS` were told, a filter that does not stand for the client where `MAX_SUBSCRIPTIONS` do,
-- and as many items that wait as the policy in force allows
abbrev pub room_rules : List Row → List ℕ → TopicIdType → List ℕ → List Rule
room_rules h id type text =
    let told = names_told id h in
    let held = standing_of id h in
    (not (is_up h), Room UpstreamDown)
    ∷ (
      tells_id type text && (not (is_among text told) && not (nat_lt (length told) MAX_TOPIC_IDS)),
      Room (Full place.Ids),
    )
    ∷ (
      not (stands held text) && not (nat_lt (length held) MAX_SUBSCRIPTIONS),
      Room (Full place.Subscriptions),
    )
    ∷ (not (nat_lt (length (waiting h)) (last_limits h).waiting), Room (Full place.Outbox))
    ∷ []

-- what forbids a SUBSCRIBE of a client, in order
abbrev pub subscribe_rules : List Row → List ℕ → TopicRequest → List Rule
subscribe_rules h id r =
    let policy = last_policy h in
    let text = or_empty (filter_meant policy r.flags.id_type r.topic) in
    (not (is_active (phase_of id h)), Form OutOfTurn)
    ∷ (not (lists policy id), Grant (NoScope id))
    ∷ (form_rules policy r ++ gap_rule policy id text ∷ room_rules h id r.flags.id_type text)

-- messages go to a client at QoS 0 or 1
abbrev pub qos_granted : FrameQos → FrameQos
qos_granted qos.AtMostOnce = qos.AtMostOnce
qos_granted qos.AtLeastOnce = qos.AtLeastOnce
qos_granted qos.ExactlyOnce = qos.AtLeastOnce
qos_granted qos.WithoutSession = qos.AtMostOnce

-- the topic id that is answered: of a text that is told one its id, the predefined id, and else none
abbrev pub id_granted : List (List ℕ) → TopicIdType → List ℕ → ℕ
id_granted told Normal octets = if tells_id Normal octets then id_told octets told else 0
id_granted told Predefined octets = number_in octets
id_granted told Short octets = 0
id_granted told Reserved octets = 0

-- SUBACK names the QoS that is granted and the topic id, or else the rule's code with neither
abbrev pub suback : Address → ℕ → TopicRequest → Outcome → Out
suback to topic_id r Allowed =
    Send to (written (frame.SubscribeAck
    (record {
      flags = record unset { qos = qos_granted r.flags.qos };
      topic_id = topic_id;
      msg_id = r.msg_id;
      code = ACCEPTED;
    })))
suback to topic_id r (Denied rule) =
    Send to (written (frame.SubscribeAck
    (record { flags = unset; topic_id = 0; msg_id = r.msg_id; code = code_for rule })))

-- by nobody it has no session
abbrev pub subscribe_stranger : Address → List Out
subscribe_stranger from =
    Note (note.Subscribe (who.Address from) None (Denied (Form NoSession))) ∷ bye from ∷ []

-- of a client it is noted, with the filter where the client may ask and it names one, and answered
abbrev pub subscribe_answer : List Row → Address → TopicRequest → List ℕ → List Out
subscribe_answer h from r id =
    let outcome = judged (subscribe_rules h id r) in
    let text = filter_meant (last_policy h) r.flags.id_type r.topic in
    Note (note.Subscribe (who.Client id) (if may_ask h id then text else None) outcome)
    ∷ suback from (id_granted (names_told id h) r.flags.id_type r.topic) r outcome
    ∷ []

-- ---- UNSUBSCRIBE (5.4.17, 5.4.18 and 6.9)

-- what forbids an UNSUBSCRIBE of a client, in order: it needs no grant
abbrev pub unsubscribe_rules : List Row → List ℕ → TopicRequest → List Rule
unsubscribe_rules h id r =
    (not (is_active (phase_of id h)), Form OutOfTurn) ∷ form_rules (last_policy h) r

-- the filter ends for the active client at the address
abbrev pub stays_without : List Row → Address → List ℕ → Stays
stays_without h from text other one =
    not (is_at other from h && (is_active (phase_of other h) && bytes_eq text one))

abbrev pub unsubscribed_note : List Row → Address → List ℕ → Option (List ℕ) → Outcome → List Out
unsubscribed_note h from id (Some text) Allowed = untold_note (last_limits h) h (stays_without h from text) id text
unsubscribed_note h from id (Some text) (Denied rule) = []
unsubscribed_note h from id None outcome = []

abbrev pub unsubscribe_stranger : Address → List Out
unsubscribe_stranger from =
    Note (note.Unsubscribe (who.Address from) None (Denied (Form NoSession))) ∷ bye from ∷ []

-- it is noted, and behind it where the broker is not told that its filter stands for nobody any more; and
-- UNSUBACK answers
abbrev pub unsubscribe_answer : List Row → Address → TopicRequest → List ℕ → List Out
unsubscribe_answer h from r id =
    let outcome = judged (unsubscribe_rules h id r) in
    let text = filter_meant (last_policy h) r.flags.id_type r.topic in
    Note (note.Unsubscribe (who.Client id) (if is_active (phase_of id h) then text else None) outcome)
    ∷ (unsubscribed_note h from id text outcome ++ Send from (written (frame.UnsubscribeAck r.msg_id)) ∷ [])

-- ---- what the policy says to a SUBSCRIBE (RFC 9431, 2.3)

-- each name that the filter matches may be received
abbrev pub EachReceived : Policy → List ℕ → List ℕ → Type 0
EachReceived policy id text =
    (name : List ℕ) → is_name name ≡ true → matches text name ≡ true
    → receive_grant policy id name ≡ on_name.Allowed

-- the name shows that the filter is not covered: the filter matches it, and it may not be received
pub record ShowsGap (policy : Policy) (id text gap : List ℕ) (outcome : Outcome) : Type 0 where
  pub denied : outcome ≡ Denied (Grant (Uncovered text gap))
  pub name : is_name gap ≡ true
  pub matched : matches text gap ≡ true
  pub missing : receive_grant policy id gap ≡ on_name.Missing

-- a SUBSCRIBE that is well formed is denied as uncovered, with a gap, or else each name that its filter
-- matches may be received, and it is allowed where there is room
abbrev pub CoveredExactly : List Row → List ℕ → TopicRequest → List ℕ → Type 0
CoveredExactly h id r text =
    let policy = last_policy h in
    let outcome = judged (subscribe_rules h id r) in
    ((gap : List ℕ) × ShowsGap policy id text gap outcome)
    ⊎ (EachReceived policy id text × (outcome ≡ judged (room_rules h id r.flags.id_type text)))

-- this holds of each client that may ask and each SUBSCRIBE that names a filter, where the policy's scopes
-- hold filters
abbrev pub SubscribesExactly : List Row → List ℕ → TopicRequest → Type 0
SubscribesExactly h id r =
    (text : List ℕ) → may_ask h id ≡ true
    → filter_meant (last_policy h) r.flags.id_type r.topic ≡ Some text
    → HasFilters (scope_of (last_policy h).clients id) → CoveredExactly h id r text

-- ---- what a replacement ends

-- what forbids a subscription of a client under a policy
abbrev pub cover_rules : Policy → List ℕ → List ℕ → List Rule
cover_rules policy id text = (not (lists policy id), Grant (NoScope id)) ∷ gap_rule policy id text ∷ []

abbrev pub stays_under : Policy → Stays
stays_under policy id text = is_allowed (judged (cover_rules policy id text))

-- an end is noted, and behind it where the broker is not told that the filter stands for nobody any more
abbrev pub end_by : List Row → Policy → List ℕ → List ℕ → Outcome → List Out
end_by h policy id text Allowed = []
end_by h policy id text (Denied rule) =
    Note (note.End id text (Denied rule)) ∷ untold_note policy.limits h (stays_under policy) id text

-- of each client, in order, each filter that the policy does not allow ends, in the order in which each stood
-- first
abbrev pub replace_answer : List Row → Policy → List Out
replace_answer h policy =
    flat_map (λ id. flat_map (λ text. end_by h policy id text (judged (cover_rules policy id text)))
    (texts_of (standing_of id h))) (accepted h)
