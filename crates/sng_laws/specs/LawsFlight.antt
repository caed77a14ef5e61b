-- What is in flight to the broker, what is sent again over a new connection, and each packet that goes out,
-- in the views' words.
use Rattle.std.specs.Prelude.{ℕ, ◌≡◌, ◌≤◌, ◌&&◌, ◌||◌, nat_lt, Bool, false, true, List, [], ◌∷◌, ◌++◌, length, map}
use Rattle.std.specs.Prelude.{MatchBool, if◌then◌else◌, Some, is_some}
use Rattle.std.specs.List.{list_any}
use Rattle.sng_grants.specs.declared.policy.Policy.{Policy}
use Rattle.mqtt_frames.specs.Packets.{written}
use Rattle.mqtt_frames.specs.declared.packet.Packet.TheVariants as packet
use Rattle.mqtt_frames.specs.declared.packet.RequestedQos.TheVariants as requested
use Rattle.sng_outbox.specs.PacketIds.{is_used, next_id}
use Rattle.sng_outbox.specs.declared.in_flight.InFlight.{InFlight}
use Rattle.sng_outbox.specs.declared.item.Item.{Item}
use Rattle.sng_outbox.specs.declared.item.Item.TheVariants as item
use Rattle.sng_book.specs.Denials.{is_allowed}
use Rattle.sng_book.specs.Whom.{who_of}
use Rattle.sng_book.specs.declared.event.Event.{Event}
use Rattle.sng_book.specs.declared.event.Event.TheVariants.{Up, Take}
use Rattle.sng_book.specs.declared.out.Out.{Out}
use Rattle.sng_book.specs.declared.row.Row.{Row}
use Rattle.sng_history.specs.Links.{Wanted, open_ids}
use Rattle.sng_history.specs.declared.limits.TheConstants.{MAX_OPEN_SUBSCRIBES}
use Rattle.sng_laws.specs.Views.{last_policy, is_up}
use Rattle.sng_laws.specs.ViewsLink.{Departure, listed, departures, wires_in}
use Rattle.sng_laws.specs.ViewsFlight.{agains, allowed_again, in_flight, id_left, last_among, last_id}
use Rattle.sng_laws.specs.ViewsStanding.{held_in, is_for}
use Rattle.sng_laws.specs.ViewsWanted.{with_open, with_debt, outgoing, wanted}
use Rattle.sng_laws.specs.LawsRules.{judged, publish_rules}

-- ---- judged again

-- the publish in flight is judged again for its own origin and name, and where that allows it, its packet
-- follows, as a new one under the same packet id (MQTT 3.1.1, 3.3)
pub record Returns (policy : Policy) (sent : InFlight) (d : Departure) : Type 0 where
  pub whom : d.whom ≡ who_of sent.publication.origin
  pub name : d.name ≡ sent.publication.name
  pub judgement : d.outcome ≡ judged (publish_rules policy sent.publication.origin sent.publication.name)
  pub packet : is_allowed d.outcome ≡ true
      → d.packet ≡ Some (written (packet.Publish (record {
        dup = false;
        retain = sent.publication.retain;
        packet_id = Some sent.packet_id;
        name = sent.publication.name;
        payload = sent.publication.payload;
      })))

-- one for each, in order
abbrev pub AllReturn : Policy → List InFlight → List Departure → Type 0
AllReturn policy [] [] = Unit {0}
AllReturn policy (sent ∷ flights) (d ∷ ds) = Returns policy sent d × AllReturn policy flights ds
AllReturn policy [] (d ∷ ds) = ⊥
AllReturn policy (sent ∷ flights) [] = ⊥

abbrev pub is_beginning : Event → Bool
is_beginning Up = true
is_beginning other = false

-- as a connection begins, each publish in flight is judged again, under the policy in force at that row; at
-- no other row an `again` is noted
abbrev pub EachReturns : List Row → Type 0
EachReturns [] = Unit {0}
EachReturns (row ∷ earlier) =
    EachReturns earlier
    × MatchBool (is_beginning row.event)
    (AllReturn (last_policy earlier) (in_flight earlier) (agains row.outs)) (agains row.outs ≡ [])

-- ---- packet ids

-- these are packet ids (MQTT 3.1.1, 2.3.1), no two of them equal
abbrev pub AreIds : List ℕ → Type 0
AreIds [] = Unit {0}
AreIds (packet_id ∷ ids) =
    (1 ≤ packet_id) × (packet_id ≤ 65535) × (is_used ids packet_id ≡ false) × AreIds ids

-- no two publishes in flight have one packet id
abbrev pub IdsApart : List Row → Type 0
IdsApart h = AreIds (map (λ sent. sent.packet_id) (in_flight h))

-- the packet ids of the publishes in flight, the filters that stand for anybody with their open SUBSCRIBEs,
-- and the packet id that was given last
pub record Given : Type 0 where
  pub in_flight : List ℕ
  pub wanted : List Wanted
  pub last : ℕ

-- those after the rows, where these publishes are in flight
abbrev pub given_at : List InFlight → List Row → Given
given_at flights h =
    record { in_flight = map (λ sent. sent.packet_id) flights; wanted = wanted h; last = last_id h }

-- the next one: it counts on past those in flight and those of open SUBSCRIBEs
abbrev pub next_given : Given → ℕ
next_given given = next_id (given.in_flight ++ open_ids given.wanted) given.last

-- once publishes got these
abbrev pub given_publishes : Given → List ℕ → Given
given_publishes given ids =
    record given { in_flight = given.in_flight ++ ids; last = last_among ids given.last }

-- one more SUBSCRIBE may be open, or one by the filter is, which the next takes the place of
abbrev pub may_subscribe : Given → List ℕ → Bool
may_subscribe given text =
    nat_lt (length (open_ids given.wanted)) MAX_OPEN_SUBSCRIBES
    || list_any (λ w. is_for text w && is_some w.open_id) given.wanted

-- once a SUBSCRIBE by the filter had to leave: it got the next one, or is owed where it may not be open
abbrev pub given_subscribe : Given → List ℕ → Given
given_subscribe given text =
    if may_subscribe given text
    then record given { wanted = with_open given.wanted text (next_given given); last = next_given given }
    else record given { wanted = with_debt given.wanted text }

-- once an UNSUBSCRIBE got the next one
abbrev pub given_unsubscribe : Given → Given
given_unsubscribe given = record given { last = next_given given }

-- ---- each packet

-- the packets that follow notes at once
abbrev pub packets_of : List Departure → List (List ℕ)
packets_of [] = []
packets_of (d ∷ ds) = listed d.packet ++ packets_of ds

-- the packets that subscribe by the filter, at QoS 1, and unsubscribe from it, under this packet id (MQTT
-- 3.1.1, 3.8 and 3.10)
abbrev pub subscribe_with : ℕ → List ℕ → List ℕ
subscribe_with packet_id text =
    written (packet.Subscribe (record {
      packet_id = packet_id;
      requests = record { filter = text; qos = requested.AtLeastOnce } ∷ [];
    }))

abbrev pub unsubscribe_with : ℕ → List ℕ → List ℕ
unsubscribe_with packet_id text =
    written (packet.Unsubscribe (record { packet_id = packet_id; filters = text ∷ [] }))

-- the SUBSCRIBE of the filter that has to leave, with the next packet id, where it may be open
abbrev pub subscribe_by : Given → List ℕ → List (List ℕ)
subscribe_by given text =
    if may_subscribe given text then subscribe_with (next_given given) text ∷ [] else []

-- a publish that leaves gets the next packet id, or none
abbrev pub AreNext : Given → List ℕ → Type 0
AreNext given [] = Unit {0}
AreNext given (packet_id ∷ []) = packet_id ≡ next_given given
AreNext given (packet_id ∷ another ∷ ids) = ⊥

-- the packets of items that leave, in order: of a publish the one that follows its note, for an
-- acknowledgement the PUBACK with its packet id (MQTT 3.1.1, 3.4), a PINGREQ (3.12), a SUBSCRIBE where its
-- filter stands for somebody then and it may be open, and an UNSUBSCRIBE where its filter stands for nobody.
-- A publish at QoS 1, a SUBSCRIBE and an UNSUBSCRIBE have each the next packet id
abbrev pub PacketsFor : (List ℕ → Bool) → Given → List Item → List Departure → List (List ℕ) → Type 0
PacketsFor held given [] ds sent = sent ≡ []
PacketsFor held given (item.Publish p ∷ items) [] sent = PacketsFor held given items [] sent
PacketsFor held given (item.Publish p ∷ items) (d ∷ ds) sent =
    AreNext given (id_left p d)
    × ((rest : List (List ℕ)) × ((sent ≡ listed d.packet ++ rest)
    × PacketsFor held (given_publishes given (id_left p d)) items ds rest))
PacketsFor held given (item.Acknowledge packet_id ∷ items) ds sent =
    (rest : List (List ℕ)) × ((sent ≡ written (packet.PublishAck packet_id) ∷ rest)
    × PacketsFor held given items ds rest)
PacketsFor held given (item.Subscribe text ∷ items) ds sent =
    (rest : List (List ℕ))
    × ((sent ≡ (if held text then subscribe_by given text else []) ++ rest)
    × PacketsFor held (if held text then given_subscribe given text else given) items ds rest)
PacketsFor held given (item.Unsubscribe text ∷ items) ds sent =
    (rest : List (List ℕ))
    × ((sent ≡ (if held text then rest else unsubscribe_with (next_given given) text ∷ rest))
    × PacketsFor held (if held text then given else given_unsubscribe given) items ds rest)
PacketsFor held given (item.Ping ∷ items) ds sent =
    (rest : List (List ℕ)) × ((sent ≡ written packet.PingRequest ∷ rest)
    × PacketsFor held given items ds rest)

-- the SUBSCRIBEs of these filters, which have to leave in this order
abbrev pub subscribes_with : Given → List (List ℕ) → List (List ℕ)
subscribes_with given [] = []
subscribes_with given (text ∷ texts) =
    subscribe_by given text ++ subscribes_with (given_subscribe given text) texts

-- what goes to the broker in a row: at a take while up the packets of all that leaves; as a connection begins
-- those of what is judged again, and then a SUBSCRIBE of each filter that stands for anybody; and else nothing
abbrev pub PacketsAt : Event → List Row → List Out → Type 0
PacketsAt Take earlier outs =
    MatchBool (is_up earlier)
    (PacketsFor (held_in earlier) (given_at (in_flight earlier) earlier) (outgoing earlier) (departures outs)
    (wires_in outs))
    (wires_in outs ≡ [])
PacketsAt Up earlier outs =
    wires_in outs
    ≡ packets_of (agains outs)
    ++ subscribes_with (given_at (allowed_again (in_flight earlier) (agains outs)) earlier)
    (map (λ w. w.filter) (wanted earlier))
PacketsAt other earlier outs = wires_in outs ≡ []

abbrev pub EachPacket : List Row → Type 0
EachPacket [] = Unit {0}
EachPacket (row ∷ earlier) = EachPacket earlier × PacketsAt row.event earlier row.outs
