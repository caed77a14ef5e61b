-- How what waits leaves for the broker.
use Rattle.std.specs.Prelude.{ℕ, false, List, [], ◌∷◌, ◌++◌, if◌then◌else◌, Option, Some}
use Rattle.sng_grants.specs.declared.policy.Policy.{Policy}
use Rattle.mqtt_frames.specs.Packets.{written}
use Rattle.mqtt_frames.specs.declared.packet.Packet.TheVariants as packet
use Rattle.mqtt_frames.specs.declared.packet.RequestedQos.TheVariants as requested
use Rattle.sng_outbox.specs.declared.in_flight.InFlight.{InFlight}
use Rattle.sng_outbox.specs.declared.item.Item.{Item}
use Rattle.sng_outbox.specs.declared.item.Item.TheVariants as item
use Rattle.sng_outbox.specs.declared.item.Publication.{Publication}
use Rattle.sng_book.specs.Whom.{who_of}
use Rattle.sng_book.specs.declared.decision.Decision.TheVariants as note
use Rattle.sng_book.specs.declared.outcome.Outcome.{Outcome}
use Rattle.sng_book.specs.declared.outcome.Outcome.TheVariants.{Allowed, Denied}
use Rattle.sng_book.specs.declared.out.Out.{Out}
use Rattle.sng_book.specs.declared.out.Out.TheVariants.{Wire, Note}
use Rattle.sng_history.specs.Links.{Link, wants, may_open, next_packet_id, packet_id_by, exited, resumed}
use Rattle.sng_history.specs.Links.{filters_wanted, subscribe_sent, subscribe_left}
use Rattle.sng_history.specs.Links.{unsubscribe_left}
use Rattle.sng_history.specs.Verdicts.{exit}

-- the packet of a publish: its own name, payload and Retain, and its packet id at QoS 1 (MQTT 3.1.1, 3.3)
abbrev pub packet_of : Publication → Option ℕ → List ℕ
packet_of p packet_id =
    written (packet.Publish (record {
      dup = false;
      retain = p.retain;
      packet_id = packet_id;
      name = p.name;
      payload = p.payload;
    }))

-- the packet that acknowledges a message of the broker (MQTT 3.1.1, 3.4)
abbrev pub acknowledged : ℕ → Out
acknowledged packet_id = Wire (written (packet.PublishAck packet_id))

-- the outcomes of items that leave under the policy; of the items a publish alone is judged
abbrev pub exits_of : Policy → List Item → List Outcome
exits_of policy [] = []
exits_of policy (item.Publish p ∷ items) = exit policy p.origin p.name ∷ exits_of policy items
exits_of policy (item.Subscribe filter ∷ items) = exits_of policy items
exits_of policy (item.Unsubscribe filter ∷ items) = exits_of policy items
exits_of policy (item.Acknowledge packet_id ∷ items) = exits_of policy items
exits_of policy (item.Ping ∷ items) = exits_of policy items

-- a publish leaves with this outcome, of which a note is made; where it is allowed its packet goes out behind
-- the note
abbrev pub forwarded : Publication → Option ℕ → Outcome → List Out
forwarded p packet_id Allowed =
    Note (note.Forward (who_of p.origin) p.name Allowed) ∷ Wire (packet_of p packet_id) ∷ []
forwarded p packet_id (Denied denial) = Note (note.Forward (who_of p.origin) p.name (Denied denial)) ∷ []

-- the packets that subscribe by the filter, at QoS 1, and unsubscribe from it (MQTT 3.1.1, 3.8 and 3.10)
abbrev pub subscribe_packet : ℕ → List ℕ → Out
subscribe_packet packet_id filter =
    Wire (written (packet.Subscribe
    (record {
      packet_id = packet_id;
      requests = record { filter = filter; qos = requested.AtLeastOnce } ∷ [];
    })))

abbrev pub unsubscribe_packet : ℕ → List ℕ → Out
unsubscribe_packet packet_id filter =
    Wire (written (packet.Unsubscribe (record { packet_id = packet_id; filters = filter ∷ [] })))

-- a SUBSCRIBE that has to leave goes out where it may be open, with the next packet id
abbrev pub subscribe_out : Link → List ℕ → List Out
subscribe_out link filter =
    if may_open link.wanted filter then subscribe_packet (next_packet_id link) filter ∷ [] else []

-- it has to leave where its filter is wanted, and an UNSUBSCRIBE where it is not, with the next packet id
abbrev pub subscribe_leaves : Link → List ℕ → List Out
subscribe_leaves link filter = if wants link.wanted filter then subscribe_out link filter else []

abbrev pub unsubscribe_leaves : Link → List ℕ → List Out
unsubscribe_leaves link filter =
    if wants link.wanted filter then [] else unsubscribe_packet (next_packet_id link) filter ∷ []

-- a SUBSCRIBE of each of these filters has to leave
abbrev pub subscribing : Link → List (List ℕ) → List Out
subscribing link [] = []
subscribing link (filter ∷ filters) =
    subscribe_out link filter ++ subscribing (subscribe_sent link filter) filters

-- the packet that keeps the connection alive (MQTT 3.1.1, 3.12)
abbrev pub pinging : Out
pinging = Wire (written packet.PingRequest)

-- items leave on the link, in order, with the outcomes of the publishes among them; each acknowledgement and
-- each PINGREQ goes out
abbrev pub leaving : Link → List Item → List Outcome → List Out
leaving link [] outcomes = []
leaving link (item.Publish p ∷ items) [] = []
leaving link (item.Publish p ∷ items) (outcome ∷ outcomes) =
    forwarded p (packet_id_by link p.qos) outcome ++ leaving (exited link p outcome) items outcomes
leaving link (item.Subscribe filter ∷ items) outcomes =
    subscribe_leaves link filter ++ leaving (subscribe_left link filter) items outcomes
leaving link (item.Unsubscribe filter ∷ items) outcomes =
    unsubscribe_leaves link filter ++ leaving (unsubscribe_left link filter) items outcomes
leaving link (item.Acknowledge packet_id ∷ items) outcomes =
    acknowledged packet_id ∷ leaving link items outcomes
leaving link (item.Ping ∷ items) outcomes = pinging ∷ leaving link items outcomes

-- the outcomes of the publishes in flight under the policy, as a connection begins
abbrev pub agains_of : Policy → List InFlight → List Outcome
agains_of policy [] = []
agains_of policy (sent ∷ flights) =
    exit policy sent.publication.origin sent.publication.name ∷ agains_of policy flights

-- a publish in flight is judged again; where it is allowed it is sent under its packet id, as a new message
-- of the new session (MQTT 3.1.1, 3.3.1.1 and 4.4)
abbrev pub sent_again : InFlight → Outcome → List Out
sent_again sent Allowed =
    Note (note.Again (who_of sent.publication.origin) sent.publication.name Allowed)
    ∷ Wire (packet_of sent.publication (Some sent.packet_id)) ∷ []
sent_again sent (Denied denial) =
    Note (note.Again (who_of sent.publication.origin) sent.publication.name (Denied denial)) ∷ []

abbrev pub resending : List InFlight → List Outcome → List Out
resending [] outcomes = []
resending (sent ∷ flights) [] = []
resending (sent ∷ flights) (outcome ∷ outcomes) = sent_again sent outcome ++ resending flights outcomes

-- what goes out as a connection begins at this clock: what is in flight, with these outcomes, and then a
-- SUBSCRIBE of each filter that is wanted
abbrev pub beginning : Link → ℕ → List Outcome → List Out
beginning link clock outcomes =
    resending link.in_flight outcomes ++ subscribing (resumed link clock outcomes) (filters_wanted link)
