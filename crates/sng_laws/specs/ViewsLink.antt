-- What the rows show of the way to the broker: what was asked for, what waits, and what left.
use Rattle.std.specs.Prelude.{ℕ, ◌-◌, nat_le, Bool, true, false, ◌&&◌, ◌||◌, not, List, [], ◌∷◌, ◌++◌, map}
use Rattle.std.specs.Prelude.{filter, take, length, if◌then◌else◌, Option, Some, None}
use Rattle.std.specs.List.{list_any}
use Rattle.std.specs.Str.{bytes_eq}
use Rattle.sng_text.specs.declared.qos.Qos.{Qos}
use Rattle.sng_text.specs.declared.qos.Qos.TheVariants.{AtMostOnce, AtLeastOnce}
use Rattle.mqtt_frames.specs.declared.packet.Packet.{Packet}
use Rattle.mqtt_frames.specs.declared.packet.Packet.TheVariants as packet
use Rattle.sng_fan.specs.declared.held.Held.{Held}
use Rattle.sng_fan.specs.Subscriptions.{stands}
use Rattle.sng_frames.specs.Reading.{frame_of}
use Rattle.sng_frames.specs.declared.qos.FrameQos.{FrameQos}
use Rattle.sng_frames.specs.declared.qos.FrameQos.TheVariants as qos
use Rattle.sng_frames.specs.declared.messages.publish.Publish.{Publish}
use Rattle.sng_wills.specs.declared.will.Will.{Will}
use Rattle.sng_outbox.specs.Sending.{publishes}
use Rattle.sng_outbox.specs.declared.item.Item.{Item}
use Rattle.sng_outbox.specs.declared.item.Item.TheVariants as item
use Rattle.sng_outbox.specs.declared.item.Publication.{Publication}
use Rattle.sng_outbox.specs.declared.origin.Origin.{Origin}
use Rattle.sng_outbox.specs.declared.origin.Origin.TheVariants as origin
use Rattle.sng_book.specs.Denials.{is_allowed}
use Rattle.sng_book.specs.declared.address.Address.{Address}
use Rattle.sng_book.specs.declared.decision.Decision.{Decision}
use Rattle.sng_book.specs.declared.decision.Decision.TheVariants as note
use Rattle.sng_book.specs.declared.decision.Who.{Who}
use Rattle.sng_book.specs.declared.decision.Who.TheVariants as who
use Rattle.sng_book.specs.declared.outcome.Outcome.{Outcome}
use Rattle.sng_book.specs.declared.outcome.Outcome.TheVariants.{Allowed, Denied}
use Rattle.sng_book.specs.declared.event.Event.{Event}
use Rattle.sng_book.specs.declared.event.Event.TheVariants.{Datagram, Broker, Up, Down, Take, Replace, Tick}
use Rattle.sng_book.specs.declared.out.Out.{Out}
use Rattle.sng_book.specs.declared.out.Out.TheVariants.{Send, Wire, Note}
use Rattle.sng_book.specs.declared.row.Row.{Row}
use Rattle.sng_history.specs.declared.limits.TheConstants.{PING_MS}
use Rattle.sng_laws.specs.Views.{limits_at, is_up, ticks, greatest, clock_at}
pub use Rattle.sng_laws.specs.Views.{wires_in}
use Rattle.sng_laws.specs.ViewsMessages.{Message, Connects, Publishes}
use Rattle.sng_laws.specs.ViewsMessages.{message_in}
use Rattle.sng_laws.specs.ViewsMessages.{message_at}
use Rattle.sng_laws.specs.ViewsClients.{is_spoken, accepted, speaks_of}
use Rattle.sng_laws.specs.ViewsWills.{will_of}
use Rattle.sng_laws.specs.ViewsStanding.{begun_by, standing_after, standing_of}

-- ---- what was asked for

-- the QoS to the broker: QoS 1 stays, QoS 2 goes on at QoS 1, and any other at QoS 0
abbrev pub qos_upstream : FrameQos → Qos
qos_upstream qos.AtLeastOnce = AtLeastOnce
qos_upstream qos.ExactlyOnce = AtLeastOnce
qos_upstream other = AtMostOnce

-- the publish of who asked for it, under the name of its note, with the payload and the Retain of its
-- datagram
abbrev pub publication : Origin → List ℕ → Qos → Publish → Publication
publication asker name q p =
    record { origin = asker; name = name; payload = p.payload; qos = q; retain = p.flags.retain }

-- a client publishes at the QoS of its datagram, 1 at most, and a device without a session at QoS 0; nobody else
-- publishes
abbrev pub publication_by : Who → Option (List ℕ) → Publish → List Publication
publication_by (who.Client client) (Some name) p =
    publication (origin.Client client) name (qos_upstream p.flags.qos) p ∷ []
publication_by (who.Source source) (Some name) p = publication (origin.Source source) name AtMostOnce p ∷ []
publication_by (who.Client client) None p = []
publication_by (who.Source source) None p = []
publication_by (who.Address address) name p = []
publication_by who.Broker name p = []

-- the publish that a note of the row allows
abbrev pub allowed_by : Publish → Decision → List Publication
allowed_by p (note.Publish who name outcome) = if is_allowed outcome then publication_by who name p else []
allowed_by p other = []

abbrev pub allowed_in : Publish → List Out → List Publication
allowed_in p [] = []
allowed_in p (Note said ∷ outs) = allowed_by p said ++ allowed_in p outs
allowed_in p (Send to datagram ∷ outs) = allowed_in p outs
allowed_in p (Wire packet ∷ outs) = allowed_in p outs

-- the PUBLISH among messages
abbrev pub publish_in : Option Message → Option Publish
publish_in (Some (Publishes p)) = Some p
publish_in other = None

-- the publish that a note allows, of the PUBLISH that the row holds
abbrev pub allowed_of : Option Publish → Decision → List Publication
allowed_of None said = []
allowed_of (Some p) said = allowed_by p said

abbrev pub asks_for : Option Publish → List Out → List Publication
asks_for None outs = []
asks_for (Some p) outs = allowed_in p outs

-- the will of a client that is lost, as a publish of it
abbrev pub published_for : List ℕ → Option Will → List Publication
published_for id None = []
published_for id (Some will) =
    record {
      origin = origin.Client id;
      name = will.topic;
      payload = will.payload;
      qos = will.qos;
      retain = will.retain;
    } ∷ []

-- the note says that the will of the client found no place
abbrev pub is_will_denied : List ℕ → Decision → Bool
is_will_denied id (note.Will whom name outcome) = speaks_of id whom && not (is_allowed outcome)
is_will_denied id other = false

abbrev pub finds_no_place : List ℕ → List Out → Bool
finds_no_place id [] = false
finds_no_place id (Note said ∷ outs) = is_will_denied id said || finds_no_place id outs
finds_no_place id (Send to datagram ∷ outs) = finds_no_place id outs
finds_no_place id (Wire packet ∷ outs) = finds_no_place id outs

-- a client that is lost asks for its will, unless the row notes that it found no place
abbrev pub testament_by : List Row → List Out → Decision → List Publication
testament_by earlier all (note.Lost client) =
    if finds_no_place client all then [] else published_for client (will_of client earlier)
testament_by earlier all other = []

abbrev pub testaments_in : List Row → List Out → List Out → List Publication
testaments_in earlier all [] = []
testaments_in earlier all (Note said ∷ outs) = testament_by earlier all said ++ testaments_in earlier all outs
testaments_in earlier all (Send to datagram ∷ outs) = testaments_in earlier all outs
testaments_in earlier all (Wire packet ∷ outs) = testaments_in earlier all outs

-- clients are lost as the clock moves
abbrev pub testaments_with : Event → List Row → List Out → List Publication
testaments_with (Tick clock) earlier outs = testaments_in earlier outs outs
testaments_with other earlier outs = []

-- the publishes that were asked for and allowed with this event and these outs, and the wills of clients that
-- are lost
abbrev pub asked_with : Event → List Row → List Out → List Publication
asked_with e earlier outs = asks_for (publish_in (message_at e)) outs ++ testaments_with e earlier outs

-- everything that was ever asked for and allowed, the oldest first
abbrev pub asked : List Row → List Publication
asked [] = []
asked (row ∷ earlier) = asked earlier ++ asked_with row.event earlier row.outs

-- ---- what is owed to the broker

-- the note says that no more could wait
abbrev pub is_outbox : Decision → Bool
is_outbox note.Outbox = true
is_outbox other = false

abbrev pub is_outbox_noted : List Out → Bool
is_outbox_noted [] = false
is_outbox_noted (Note said ∷ outs) = is_outbox said || is_outbox_noted outs
is_outbox_noted (Send to datagram ∷ outs) = is_outbox_noted outs
is_outbox_noted (Wire packet ∷ outs) = is_outbox_noted outs

abbrev pub listed : {A : Type 0} → Option A → List A
listed None = []
listed (Some x) = x ∷ []

-- a message of the broker has a packet id at QoS 1, under which it is to be acknowledged
abbrev pub message_id : Packet → List ℕ
message_id (packet.Publish p) = listed p.packet_id
message_id other = []

-- a message that comes while up is acknowledged, unless the row notes that no more could wait
abbrev pub owed_with : Event → List Row → List Out → List ℕ
owed_with (Broker sent) earlier outs =
    if is_up earlier && not (is_outbox_noted outs) then message_id sent else []
owed_with other earlier outs = []

-- ---- the connection is kept alive

-- a PINGREQ is due to the broker at a tick while up, `PING_MS` or more after the connection began or the last
-- was asked for, whose clock is this one
abbrev pub is_ping_due : Event → List Row → ℕ → Bool
is_ping_due (Tick clock) earlier last =
    is_up earlier && nat_le PING_MS (greatest (clock ∷ ticks earlier) - last)
is_ping_due other earlier last = false

-- it is asked for, unless the row notes that no more could wait
abbrev pub asks_ping : Event → List Row → ℕ → List Out → Bool
asks_ping e earlier last outs = is_ping_due e earlier last && not (is_outbox_noted outs)

-- the clock as the last connection began, or the last PINGREQ was asked for; 0 before any
abbrev pub pinged_after : Event → List Row → List Out → ℕ → ℕ
pinged_after Up earlier outs last = clock_at earlier
pinged_after (Tick clock) earlier outs last =
    if asks_ping (Tick clock) earlier last outs then greatest (clock ∷ ticks earlier) else last
pinged_after other earlier outs last = last

abbrev pub pinged : List Row → ℕ
pinged [] = 0
pinged (row ∷ earlier) = pinged_after row.event earlier row.outs (pinged earlier)

abbrev pub pings_with : Event → List Row → List Out → List Item
pings_with e earlier outs = if asks_ping e earlier (pinged earlier) outs then item.Ping ∷ [] else []

-- ---- what waits

abbrev pub is_take : Event → Bool
is_take Take = true
is_take other = false

-- what waits leaves with this event
abbrev pub lets_out : Event → List Row → Bool
lets_out e earlier = is_take e && is_up earlier

-- the connection ends with this event, or another one begins: items that are not publishes are dropped
abbrev pub drops : Event → List Row → Bool
drops Up earlier = is_up earlier
drops Down earlier = true
drops other earlier = false

-- of what waited, what stays
abbrev pub kept : Event → List Row → List Item → List Item
kept e earlier items = if lets_out e earlier then [] else (if drops e earlier then publishes items else items)

-- what a note asks for, where it allows it: the publish, or the subscription to its filter
abbrev pub items_by : Option Publish → Decision → List Item
items_by p said = map item.Publish (allowed_of p said) ++ map item.Subscribe (begun_by said)

abbrev pub items_in : Option Publish → List Out → List Item
items_in p [] = []
items_in p (Note said ∷ outs) = items_by p said ++ items_in p outs
items_in p (Send to datagram ∷ outs) = items_in p outs
items_in p (Wire packet ∷ outs) = items_in p outs

-- what a message asks for: a CONNECT for nothing
abbrev pub items_for : Option Message → List Out → List Item
items_for (Some (Connects connect)) outs = []
items_for (Some (Publishes p)) outs = items_in (publish_in (Some (Publishes p))) outs
items_for None outs = []
items_for (Some _) outs = items_in None outs

-- the client's filters after a row with this event and these outs
abbrev pub standing_then : Event → List Row → List Out → List ℕ → List Held
standing_then e earlier outs id = standing_after (message_at e) id outs (standing_of id earlier)

-- of the filters that stood for the client those that do not any more, in the order in which each stood first
abbrev pub ceased : Event → List Row → List Out → List ℕ → List (List ℕ)
ceased e earlier outs id =
    filter (λ text. not (stands (standing_then e earlier outs id) text))
    (map (λ h. h.filter) (standing_of id earlier))

-- each filter as the last client ceases to hold it: the clients before have what stands for them afterwards,
-- and those behind what stood
abbrev pub released_among : Event → List Row → List Out → List (List ℕ) → List (List ℕ) → List (List ℕ)
released_among e earlier outs done [] = []
released_among e earlier outs done (id ∷ ids) =
    filter (λ text. not (list_any (λ one. stands (standing_then e earlier outs one) text) done
    || list_any (λ one. stands (standing_of one earlier) text) ids)) (ceased e earlier outs id)
    ++ released_among e earlier outs (done ++ id ∷ []) ids

-- the broker is told with a message of a session, and with a replacement
abbrev pub is_told : Event → Bool
is_told (Datagram from datagram) = is_spoken (message_in (frame_of datagram))
is_told (Replace policy) = true
is_told other = false

-- the filters of which it is told that they stand for nobody any more, where so many items more may wait
abbrev pub told_with : Event → List Row → List Out → ℕ → List (List ℕ)
told_with e earlier outs places =
    if is_told e then take places (released_among e earlier outs [] (accepted earlier)) else []

-- what a row adds to what waits: what is asked for and allowed, an UNSUBSCRIBE of each filter that stands for
-- nobody any more while there is place by the policy in force, the acknowledgement that is owed, the wills of
-- clients that are lost, and the PINGREQ that is due
abbrev pub added : Event → List Row → List Item → List Out → List Item
added e earlier items outs =
    items_for (message_at e) outs
    ++ (map item.Unsubscribe (told_with e earlier outs ((limits_at e earlier).waiting - length items))
    ++ (map item.Acknowledge (owed_with e earlier outs)
    ++ (map item.Publish (testaments_with e earlier outs) ++ pings_with e earlier outs)))

-- what was added since the last take while up, without what was dropped
abbrev pub waiting : List Row → List Item
waiting [] = []
waiting (row ∷ earlier) =
    kept row.event earlier (waiting earlier) ++ added row.event earlier (waiting earlier) row.outs

-- the publishes among the items, in order
abbrev pub publications : List Item → List Publication
publications [] = []
publications (item.Publish p ∷ items) = p ∷ publications items
publications (item.Subscribe filter ∷ items) = publications items
publications (item.Unsubscribe filter ∷ items) = publications items
publications (item.Acknowledge packet_id ∷ items) = publications items
publications (item.Ping ∷ items) = publications items

-- a SUBSCRIBE of the filter is among these items
abbrev pub subscribe_waits : List Item → List ℕ → Bool
subscribe_waits [] text = false
subscribe_waits (item.Subscribe filter ∷ items) text = bytes_eq text filter || subscribe_waits items text
subscribe_waits (item.Publish p ∷ items) text = subscribe_waits items text
subscribe_waits (item.Unsubscribe filter ∷ items) text = subscribe_waits items text
subscribe_waits (item.Acknowledge packet_id ∷ items) text = subscribe_waits items text
subscribe_waits (item.Ping ∷ items) text = subscribe_waits items text

-- ---- what left

-- a publish as it left: whose it was, its name, how it was judged, and the packet that follows its note at
-- once, where it is allowed
pub record Departure : Type 0 where
  pub whom : Who
  pub name : List ℕ
  pub outcome : Outcome
  pub packet : Option (List ℕ)

abbrev pub packet_next : List Out → Option (List ℕ)
packet_next [] = None
packet_next (Wire packet ∷ outs) = Some packet
packet_next (Send to datagram ∷ outs) = None
packet_next (Note said ∷ outs) = None

abbrev pub departure : Decision → List Out → List Departure
departure (note.Forward who name Allowed) outs =
    record { whom = who; name = name; outcome = Allowed; packet = packet_next outs } ∷ []
departure (note.Forward who name (Denied rule)) outs =
    record { whom = who; name = name; outcome = Denied rule; packet = None } ∷ []
departure other outs = []

-- the publishes that leave in a row, in order
abbrev pub departures : List Out → List Departure
departures [] = []
departures (Note said ∷ outs) = departure said outs ++ departures outs
departures (Send to datagram ∷ outs) = departures outs
departures (Wire packet ∷ outs) = departures outs

-- every publish that left, the oldest first
abbrev pub left : List Row → List Departure
left [] = []
left (row ∷ earlier) = left earlier ++ departures row.outs

-- what a row sends to clients, and to whom
abbrev pub sends_in : List Out → List (Address × List ℕ)
sends_in [] = []
sends_in (Send to datagram ∷ outs) = (to, datagram) ∷ sends_in outs
sends_in (Wire packet ∷ outs) = sends_in outs
sends_in (Note said ∷ outs) = sends_in outs
