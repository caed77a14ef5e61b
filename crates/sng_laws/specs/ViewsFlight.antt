-- What the rows show of the publishes that were sent to the broker at QoS 1: which of them are in flight, and
-- under which packet id; and of the packet ids that were given.
use Rattle.std.specs.Prelude.{ℕ, ◌+◌, ◌-◌, ◌*◌, ◌==◌, not, List, [], ◌∷◌, ◌++◌, map, length, drop, filter}
use Rattle.std.specs.Prelude.{if◌then◌else◌, Option, Some, None}
use Rattle.mqtt_frames.specs.Fronts.{decode}
use Rattle.mqtt_frames.specs.declared.packet.Packet.{Packet}
use Rattle.mqtt_frames.specs.declared.packet.Packet.TheVariants as packet
use Rattle.mqtt_frames.specs.declared.wire.decode.Front.{Front}
use Rattle.mqtt_frames.specs.declared.wire.decode.Front.TheVariants as front
use Rattle.sng_outbox.specs.Sending.{is_at_least_once}
use Rattle.sng_outbox.specs.declared.in_flight.InFlight.{InFlight}
use Rattle.sng_outbox.specs.declared.item.Publication.{Publication}
use Rattle.sng_book.specs.Denials.{is_allowed}
use Rattle.sng_book.specs.declared.decision.Decision.{Decision}
use Rattle.sng_book.specs.declared.decision.Decision.TheVariants as note
use Rattle.sng_book.specs.declared.outcome.Outcome.TheVariants.{Allowed, Denied}
use Rattle.sng_book.specs.declared.event.Event.{Event}
use Rattle.sng_book.specs.declared.event.Event.TheVariants.{Broker, Up}
use Rattle.sng_book.specs.declared.out.Out.{Out}
use Rattle.sng_book.specs.declared.out.Out.TheVariants.{Send, Wire, Note}
use Rattle.sng_book.specs.declared.row.Row.{Row}
use Rattle.sng_laws.specs.ViewsLink.{Departure, packet_next, departure, departures, lets_out, publications}
use Rattle.sng_laws.specs.ViewsLink.{waiting}

-- ---- what was judged again

-- a publish in flight that is judged again, seen as one that leaves
abbrev pub return : Decision → List Out → List Departure
return (note.Again who name Allowed) outs =
    record { whom = who; name = name; outcome = Allowed; packet = packet_next outs } ∷ []
return (note.Again who name (Denied rule)) outs =
    record { whom = who; name = name; outcome = Denied rule; packet = None } ∷ []
return other outs = []

-- the publishes that are judged again in a row, in order
abbrev pub agains : List Out → List Departure
agains [] = []
agains (Note said ∷ outs) = return said outs ++ agains outs
agains (Send to datagram ∷ outs) = agains outs
agains (Wire packet ∷ outs) = agains outs

-- ---- what is in flight

-- a number by its two octets, the high one first
abbrev pub number_in : List ℕ → ℕ
number_in [] = 0
number_in (high ∷ []) = 0
number_in (high ∷ low ∷ octets) = high * 256 + low

-- in a PUBLISH at QoS 1 the packet id stands just before the payload (MQTT 3.1.1, 3.3.2.2)
abbrev pub id_before : List ℕ → List ℕ → ℕ
id_before payload sent = number_in (drop (length sent - (length payload + 2)) sent)

-- the packet id that the packet of the publish shows
abbrev pub id_shown : Publication → Option (List ℕ) → ℕ
id_shown p None = 0
id_shown p (Some sent) = id_before p.payload sent

-- a publish that left, allowed and at QoS 1, is in flight
abbrev pub flight_of : Publication → Departure → List InFlight
flight_of p d =
    if is_allowed d.outcome
    then (if is_at_least_once p.qos then record { packet_id = id_shown p d.packet; publication = p } ∷ []
    else [])
    else []

-- those of publishes and of how they left, one for each and in order
abbrev pub flights_of : List Publication → List Departure → List InFlight
flights_of [] ds = []
flights_of (p ∷ ps) [] = []
flights_of (p ∷ ps) (d ∷ ds) = flight_of p d ++ flights_of ps ds

-- of what leaves in the row, what is in flight from then on
abbrev pub launched : Event → List Row → List Out → List InFlight
launched e earlier outs =
    if lets_out e earlier then flights_of (publications (waiting earlier)) (departures outs) else []

-- all but those with this packet id
abbrev pub others : ℕ → List InFlight → List InFlight
others packet_id flights = filter (λ sent. not (sent.packet_id == packet_id)) flights

-- a PUBACK of the broker ends the one with its packet id
abbrev pub unanswered : Packet → List InFlight → List InFlight
unanswered (packet.PublishAck packet_id) flights = others packet_id flights
unanswered other flights = flights

-- of those that are judged again, those that are allowed
abbrev pub allowed_again : List InFlight → List Departure → List InFlight
allowed_again [] ds = []
allowed_again (sent ∷ flights) [] = sent ∷ flights
allowed_again (sent ∷ flights) (d ∷ ds) =
    if is_allowed d.outcome then sent ∷ allowed_again flights ds else allowed_again flights ds

-- of those in flight, those that stay so
abbrev pub staying : Event → List Out → List InFlight → List InFlight
staying (Broker sent) outs flights = unanswered sent flights
staying Up outs flights = allowed_again flights (agains outs)
staying other outs flights = flights

-- the publishes in flight, in the order of their sending: they left allowed at QoS 1, had no PUBACK since,
-- and were not denied again
abbrev pub in_flight : List Row → List InFlight
in_flight [] = []
in_flight (row ∷ earlier) =
    staying row.event row.outs (in_flight earlier) ++ launched row.event earlier row.outs

-- ---- packet ids

-- a SUBSCRIBE and an UNSUBSCRIBE have a packet id that the gateway gave; that of a PUBACK is the broker's own
-- (MQTT 3.1.1, 2.3.1)
abbrev pub id_in : Packet → List ℕ
id_in (packet.Subscribe sent) = sent.packet_id ∷ []
id_in (packet.Unsubscribe sent) = sent.packet_id ∷ []
id_in other = []

abbrev pub id_read : Front → List ℕ
id_read (front.Whole sent size) = id_in sent
id_read front.Waiting = []
id_read (front.Faulty fault) = []

-- the packet id that the publish got as it left so, at QoS 1
abbrev pub id_left : Publication → Departure → List ℕ
id_left p d = map (λ sent. sent.packet_id) (flight_of p d)

-- those of the first of these publishes, as they left so, one for each and in order
abbrev pub ids_left : List Publication → List Departure → List ℕ
ids_left ps [] = []
ids_left [] (d ∷ ds) = []
ids_left (p ∷ ps) (d ∷ ds) = id_left p d ++ ids_left ps ds

-- the publishes behind those that left so
abbrev pub behind : List Publication → List Departure → List Publication
behind ps [] = ps
behind [] (d ∷ ds) = []
behind (p ∷ ps) (d ∷ ds) = behind ps ds

-- the packet ids that are given in a row, in order, where these publishes wait: with the note of each that
-- leaves its own, and with any other packet but a PUBLISH that of the packet. A publish that is sent again
-- keeps the one that it has
abbrev pub given_in : List Publication → List Out → List ℕ
given_in ps [] = []
given_in ps (Note said ∷ outs) =
    ids_left ps (departure said outs) ++ given_in (behind ps (departure said outs)) outs
given_in ps (Wire sent ∷ outs) = id_read (decode sent) ++ given_in ps outs
given_in ps (Send to datagram ∷ outs) = given_in ps outs

-- the last of these ids, or else the one before
abbrev pub last_among : List ℕ → ℕ → ℕ
last_among [] before = before
last_among (packet_id ∷ ids) before = last_among ids packet_id

-- the packet id that was given last, 0 before any
abbrev pub last_id : List Row → ℕ
last_id [] = 0
last_id (row ∷ earlier) = last_among (given_in (publications (waiting earlier)) row.outs) (last_id earlier)
