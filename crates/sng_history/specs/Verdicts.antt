-- How an ask is judged as it comes, and a publish as it leaves. The first rule in this order that forbids an
-- ask is its verdict: not a frame, not supported, out of turn, no session or no scope or an unknown source,
-- the type of the topic id, not a topic name or not a topic filter, an id without a name, the missing grant,
-- the broker's connection, the room.
use Rattle.std.specs.Prelude.{ℕ, ◌/◌, ◌%◌, ◌==◌, ◌&&◌, ◌||◌, not, nat_lt, Bool, false, List, [], ◌∷◌}
use Rattle.std.specs.Prelude.{length, if◌then◌else◌, Option, Some, None, Ok, Err}
use Rattle.std.specs.Str.{bytes_eq}
use Rattle.std.specs.declared.result.Result.{Result}
use Rattle.sng_text.specs.Texts.{is_name, is_filter}
use Rattle.sng_text.specs.declared.qos.Qos.{Qos}
use Rattle.sng_text.specs.declared.qos.Qos.TheVariants.{AtMostOnce, AtLeastOnce}
use Rattle.sng_grants.specs.Limits.{Limits}
use Rattle.sng_grants.specs.declared.policy.Policy.{Policy}
use Rattle.sng_policy.specs.Grants.{publish_grant, source_grant, subscribe_grant, lists, lists_source, topic}
use Rattle.sng_policy.specs.declared.grant.NameGrant.{NameGrant}
use Rattle.sng_policy.specs.declared.grant.NameGrant.TheVariants as on_name
use Rattle.sng_policy.specs.declared.grant.FilterGrant.{FilterGrant}
use Rattle.sng_policy.specs.declared.grant.FilterGrant.TheVariants as on_filter
use Rattle.sng_policy.specs.declared.permission.Permission.{Permission}
use Rattle.sng_policy.specs.declared.permission.Permission.TheVariants as permission
use Rattle.sng_frames.specs.declared.messages.connect.Connect.{Connect}
use Rattle.sng_frames.specs.declared.messages.publish.Publish.{Publish}
use Rattle.sng_frames.specs.declared.messages.subscribe.TopicRequest.{TopicRequest}
use Rattle.sng_frames.specs.declared.flags.TopicIdType.{TopicIdType}
use Rattle.sng_frames.specs.declared.flags.TopicIdType.TheVariants.{Normal, Predefined, Short, Reserved}
use Rattle.sng_outbox.specs.declared.origin.Origin.{Origin}
use Rattle.sng_outbox.specs.declared.origin.Origin.TheVariants as origin
use Rattle.sng_book.specs.declared.decision.Decision.{Decision}
use Rattle.sng_book.specs.declared.decision.Decision.TheVariants as note
use Rattle.sng_book.specs.declared.decision.Who.TheVariants as who
use Rattle.sng_book.specs.declared.outcome.IdKind.TheVariants as kind
use Rattle.sng_book.specs.declared.outcome.Place.TheVariants as place
use Rattle.sng_book.specs.declared.outcome.Denial.{Denial}
use Rattle.sng_book.specs.declared.outcome.Denial.TheVariants.{Form, Grant, Room}
use Rattle.sng_book.specs.declared.outcome.FormDenial.TheVariants.{NotSupported, NoSession, BadName}
use Rattle.sng_book.specs.declared.outcome.FormDenial.TheVariants.{BadFilter, IdType, UnknownId, OutOfTurn}
use Rattle.sng_book.specs.declared.outcome.GrantDenial.{GrantDenial}
use Rattle.sng_book.specs.declared.outcome.GrantDenial.TheVariants.{NoScope, UnknownSource, MissingPub}
use Rattle.sng_book.specs.declared.outcome.GrantDenial.TheVariants.{MissingSub, Uncovered}
use Rattle.sng_book.specs.declared.outcome.RoomDenial.TheVariants.{UpstreamDown, Full}
use Rattle.sng_book.specs.declared.outcome.Outcome.{Outcome}
use Rattle.sng_book.specs.declared.outcome.Outcome.TheVariants.{Allowed, Denied}
use Rattle.sng_fan.specs.Subscriptions.{is_full}
use Rattle.sng_ids.specs.Ids.{Ids, name_of, is_full_for}
use Rattle.sng_states.specs.States.{is_due_messages}
pub use Rattle.sng_states.specs.States.{is_active}
use Rattle.sng_states.specs.OpenIds as ids_open
use Rattle.sng_history.specs.Clients.{Client}
use Rattle.sng_history.specs.Packets.{has_place}
use Rattle.sng_history.specs.Requests.{gets_id, id_in}
use Rattle.sng_history.specs.Room.{room_in}
use Rattle.sng_history.specs.State.{State, is_known, qos_of}

-- the policy does not list who asks: a client by its id, or a source
abbrev pub unlisted : Option (List ℕ) → GrantDenial
unlisted (Some client) = NoScope client
unlisted None = UnknownSource

-- no pair with the permission matches the name
abbrev pub missing : Permission → List ℕ → GrantDenial
missing permission.Publish name = MissingPub name
missing permission.Subscribe name = MissingSub name

-- what a policy answers about a name to an ask for the permission by a client or a source, as an outcome
abbrev pub name_outcome : Permission → Option (List ℕ) → List ℕ → NameGrant → Outcome
name_outcome needed asker name on_name.Allowed = Allowed
name_outcome needed asker name on_name.Unlisted = Denied (Grant (unlisted asker))
name_outcome needed asker name on_name.Missing = Denied (Grant (missing needed name))

-- what the policy says to a publish under the name, as it is asked for and again as it leaves
abbrev pub exit : Policy → Origin → List ℕ → Outcome
exit policy (origin.Client client) name =
    name_outcome permission.Publish (Some client) name (publish_grant policy client name)
exit policy (origin.Source source) name =
    name_outcome permission.Publish None name (source_grant policy source name)

-- the first of two rules that forbids
abbrev pub and_then : Outcome → Outcome → Outcome
and_then Allowed next = next
and_then (Denied denial) next = Denied denial

-- whether there is a connection, and room for one more publish at this QoS
abbrev pub room : State → Qos → Outcome
room s q = if s.up then room_in s.policy.limits s.link q else Denied (Room UpstreamDown)

-- a publish under the name at this QoS is judged: by the policy in force, then by the connection and the room
abbrev pub verdict : State → Origin → List ℕ → Qos → Outcome
verdict s asker name q = and_then (exit s.policy asker name) (room s q)

-- a number as its two octets, the high one first
abbrev pub octets_of : ℕ → List ℕ
octets_of n = n / 256 ∷ n % 256 ∷ []

-- the name of a predefined topic id, where the policy gives it one
abbrev pub predefined_name : ℕ → Option (List ℕ) → Result (List ℕ) Denial
predefined_name id None = Err (Form (UnknownId kind.Predefined id))
predefined_name id (Some name) = Ok name

abbrev pub told_name : ℕ → Option (List ℕ) → Result (List ℕ) Denial
told_name id None = Err (Form (UnknownId kind.Normal id))
told_name id (Some name) = Ok name

-- a normal id has the name that the client was told with it; without a session it has no place
abbrev pub normal_name : Option Ids → ℕ → Result (List ℕ) Denial
normal_name None id = Err (Form IdType)
normal_name (Some ids) id = told_name id (name_of id ids)

-- the name that a topic id stands for in a PUBLISH, or the rule that it breaks (MQTT-SN 1.2, 5.3.11, 6.7 and
-- 6.8), by the ids of the client where there is a session. A short name is the id's two octets, and a
-- predefined id has the name that the policy in force gives it
abbrev pub name_in : Policy → Option Ids → TopicIdType → ℕ → Result (List ℕ) Denial
name_in policy ids Short id = if is_name (octets_of id) then Ok (octets_of id) else Err (Form BadName)
name_in policy ids Predefined id = predefined_name id (topic policy id)
name_in policy ids Normal id = normal_name ids id
name_in policy ids Reserved id = Err (Form IdType)

-- the note of an ask by a listed source, given the name that was read
abbrev pub named_ask : State → List ℕ → Result (List ℕ) Denial → Decision
named_ask s source (Ok name) =
    note.Publish (who.Source source) (Some name) (verdict s (origin.Source source) name AtMostOnce)
named_ask s source (Err rule) = note.Publish (who.Source source) None (Denied rule)

-- the note of a PUBLISH without a session, of which only the sender's IPv4 address counts
abbrev pub source_ask : State → List ℕ → Publish → Decision
source_ask s source p =
    if lists_source s.policy source
    then named_ask s source (name_in s.policy None p.flags.id_type p.topic_id)
    else note.Publish (who.Source source) None (Denied (Grant UnknownSource))

-- the CONNECT is of MQTT-SN 1.2, whose ProtocolId is 1
abbrev pub entry_form : Connect → Outcome
entry_form c = if c.protocol_id == 1 then Allowed else Denied (Form NotSupported)

-- the policy lists the client
abbrev pub client_scope : Policy → List ℕ → Outcome
client_scope policy id = if lists policy id then Allowed else Denied (Grant (NoScope id))

-- a client that was accepted once has its place
abbrev pub entry_room : Limits → List Client → List ℕ → Outcome
entry_room limits xs id =
    if is_known id xs || nat_lt (length xs) limits.clients then Allowed else Denied (Room (Full place.Clients))

-- the verdict on a CONNECT (MQTT-SN 1.2, 5.4.4)
abbrev pub entry_by : Policy → List Client → Connect → Outcome
entry_by policy xs c =
    and_then (entry_form c)
    (and_then (client_scope policy c.client_id) (entry_room policy.limits xs c.client_id))

abbrev pub entry : State → Connect → Outcome
entry s c = entry_by s.policy s.clients c

-- a message of a client has its turn where the client is active
abbrev pub in_turn : Client → Outcome
in_turn x = if is_active x.phase then Allowed else Denied (Form OutOfTurn)

-- a PINGREQ may name a client; one that names another client has no session (MQTT-SN 1.2, 5.4.19)
abbrev pub names_other : Option (List ℕ) → List ℕ → Bool
names_other None own = false
names_other (Some id) own = not (bytes_eq id own)

-- one that names its client has its turn also where the client sleeps, or is awake
abbrev pub ping_turn : Option (List ℕ) → Client → Outcome
ping_turn None x = in_turn x
ping_turn (Some id) x = if is_due_messages x.phase then Allowed else Denied (Form OutOfTurn)

abbrev pub ping_verdict : Option (List ℕ) → Client → Outcome
ping_verdict client x = if names_other client x.id then Denied (Form NoSession) else ping_turn client x

-- ---- asks of a client

-- a client may ask where it has its turn and the policy lists it
abbrev pub may_ask : Policy → Client → Outcome
may_ask policy x = and_then (in_turn x) (client_scope policy x.id)

abbrev pub name_given : List ℕ → Result (List ℕ) Denial
name_given text = if is_name text then Ok text else Err (Form BadName)

-- a name without an id gets one while there are some
abbrev pub id_room : List ℕ → Ids → Outcome
id_room name ids = if is_full_for name ids then Denied (Room (Full place.Ids)) else Allowed

abbrev pub register_named : Policy → Client → Result (List ℕ) Denial → Decision
register_named policy x (Ok name) =
    note.Register (who.Client x.id) (Some name)
    (and_then (exit policy (origin.Client x.id) name) (id_room name x.ids))
register_named policy x (Err rule) = note.Register (who.Client x.id) None (Denied rule)

abbrev pub register_by : Policy → Client → List ℕ → Outcome → Decision
register_by policy x text Allowed = register_named policy x (name_given text)
register_by policy x text (Denied rule) = note.Register (who.Client x.id) None (Denied rule)

-- the note of a REGISTER of this name (MQTT-SN 1.2, 5.4.10 and 6.5)
abbrev pub register_ask : Policy → Client → List ℕ → Decision
register_ask policy x text = register_by policy x text (may_ask policy x)

abbrev pub publish_named : State → Client → Qos → Result (List ℕ) Denial → Decision
publish_named s x q (Ok name) =
    note.Publish (who.Client x.id) (Some name) (verdict s (origin.Client x.id) name q)
publish_named s x q (Err rule) = note.Publish (who.Client x.id) None (Denied rule)

abbrev pub publish_by : State → Client → Publish → Outcome → Decision
publish_by s x p Allowed =
    publish_named s x (qos_of p.flags.qos) (name_in s.policy (Some x.ids) p.flags.id_type p.topic_id)
publish_by s x p (Denied rule) = note.Publish (who.Client x.id) None (Denied rule)

-- the note of a PUBLISH of a client (MQTT-SN 1.2, 5.4.12 and 6.6)
abbrev pub publish_ask : State → Client → Publish → Decision
publish_ask s x p = publish_by s x p (may_ask s.policy x)

-- ---- publishes at QoS 2

-- the PUBLISH repeats one that was received and is not released: it has its turn, and its MsgId is open,
-- whatever else it says
abbrev pub is_repeat : Publish → Client → Bool
is_repeat p x = is_active x.phase && ids_open.has_id p.msg_id x.unreleased

-- whether there is room for it: for one more open MsgId of the client, and for one more publish at QoS 1, as
-- it goes on to the broker
abbrev pub once_room_in : State → Client → Publish → Outcome
once_room_in s x p =
    if ids_open.is_full_for p.msg_id x.unreleased then Denied (Room (Full place.Exchanges))
    else room_in s.policy.limits s.link AtLeastOnce

-- and whether there is a connection
abbrev pub once_room : State → Client → Publish → Outcome
once_room s x p = if s.up then once_room_in s x p else Denied (Room UpstreamDown)

abbrev pub publish_once_named : State → Client → Publish → Result (List ℕ) Denial → Decision
publish_once_named s x p (Ok name) =
    note.Publish (who.Client x.id) (Some name)
    (and_then (exit s.policy (origin.Client x.id) name) (once_room s x p))
publish_once_named s x p (Err rule) = note.Publish (who.Client x.id) None (Denied rule)

abbrev pub publish_once_by : State → Client → Publish → Outcome → Decision
publish_once_by s x p Allowed =
    publish_once_named s x p (name_in s.policy (Some x.ids) p.flags.id_type p.topic_id)
publish_once_by s x p (Denied rule) = note.Publish (who.Client x.id) None (Denied rule)

-- the note of a PUBLISH at QoS 2 that is no repeat (MQTT-SN 1.2, 5.4.12 and 6.6)
abbrev pub publish_once_ask : State → Client → Publish → Decision
publish_once_ask s x p = publish_once_by s x p (may_ask s.policy x)

-- ---- subscriptions

-- what a policy answers about a filter, as an outcome; a gap is a name that the filter matches and that may
-- not be received
abbrev pub filter_outcome : List ℕ → List ℕ → FilterGrant → Outcome
filter_outcome client filter on_filter.Allowed = Allowed
filter_outcome client filter on_filter.Unlisted = Denied (Grant (NoScope client))
filter_outcome client filter (on_filter.Uncovered gap) = Denied (Grant (Uncovered filter gap))

-- what the policy says to a subscription of the client by the filter, as it is asked for and at each
-- replacement
abbrev pub coverage : Policy → List ℕ → List ℕ → Outcome
coverage policy client filter = filter_outcome client filter (subscribe_grant policy client filter)

-- a text as a filter
abbrev pub as_filter : List ℕ → Result (List ℕ) Denial
as_filter text = if is_filter text then Ok text else Err (Form BadFilter)

-- the name of a predefined topic id as a filter
abbrev pub predefined_filter : ℕ → Option (List ℕ) → Result (List ℕ) Denial
predefined_filter id None = Err (Form (UnknownId kind.Predefined id))
predefined_filter id (Some name) = as_filter name

-- the filter that a SUBSCRIBE or an UNSUBSCRIBE names, or the rule that it breaks (MQTT-SN 1.2, 5.4.15 and
-- 5.4.17): a text, the name of a predefined id, or a short name
abbrev pub filter_in : Policy → TopicIdType → List ℕ → Result (List ℕ) Denial
filter_in policy Normal topic_given = as_filter topic_given
filter_in policy Short topic_given = if is_name topic_given then as_filter topic_given else Err (Form BadName)
filter_in policy Predefined topic_given =
    predefined_filter (id_in topic_given) (topic policy (id_in topic_given))
filter_in policy Reserved topic_given = Err (Form IdType)

-- whether there is room for the subscription: for an id of its name, for one more filter of the client, in
-- the outbox
abbrev pub subscribe_room_in : State → Client → TopicRequest → List ℕ → Outcome
subscribe_room_in s x r filter =
    if gets_id r.flags.id_type filter && is_full_for filter x.ids
    then Denied (Room (Full place.Ids))
    else (if is_full x.filters filter
    then Denied (Room (Full place.Subscriptions))
    else (if has_place s.policy.limits s.link then Allowed else Denied (Room (Full place.Outbox))))

-- and whether there is a connection
abbrev pub subscribe_room : State → Client → TopicRequest → List ℕ → Outcome
subscribe_room s x r filter = if s.up then subscribe_room_in s x r filter else Denied (Room UpstreamDown)

abbrev pub subscribe_named : State → Client → TopicRequest → Result (List ℕ) Denial → Decision
subscribe_named s x r (Ok filter) =
    note.Subscribe (who.Client x.id) (Some filter)
    (and_then (coverage s.policy x.id filter) (subscribe_room s x r filter))
subscribe_named s x r (Err rule) = note.Subscribe (who.Client x.id) None (Denied rule)

abbrev pub subscribe_by : State → Client → TopicRequest → Outcome → Decision
subscribe_by s x r Allowed = subscribe_named s x r (filter_in s.policy r.flags.id_type r.topic)
subscribe_by s x r (Denied rule) = note.Subscribe (who.Client x.id) None (Denied rule)

-- the note of a SUBSCRIBE of a client (MQTT-SN 1.2, 5.4.15 and 6.9)
abbrev pub subscribe_ask : State → Client → TopicRequest → Decision
subscribe_ask s x r = subscribe_by s x r (may_ask s.policy x)

abbrev pub unsubscribe_named : Client → Result (List ℕ) Denial → Decision
unsubscribe_named x (Ok filter) = note.Unsubscribe (who.Client x.id) (Some filter) Allowed
unsubscribe_named x (Err rule) = note.Unsubscribe (who.Client x.id) None (Denied rule)

abbrev pub unsubscribe_by : Policy → Client → TopicRequest → Outcome → Decision
unsubscribe_by policy x r Allowed = unsubscribe_named x (filter_in policy r.flags.id_type r.topic)
unsubscribe_by policy x r (Denied rule) = note.Unsubscribe (who.Client x.id) None (Denied rule)

-- the note of an UNSUBSCRIBE of a client, which needs no grant (MQTT-SN 1.2, 5.4.17 and 6.9)
abbrev pub unsubscribe_ask : Policy → Client → TopicRequest → Decision
unsubscribe_ask policy x r = unsubscribe_by policy x r (in_turn x)
