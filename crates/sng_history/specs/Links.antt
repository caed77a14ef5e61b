-- The link to the broker, and how what leaves on it moves it (MQTT 3.1.1, 2.3.1 and 4.4).
use Rattle.std.specs.Prelude.{ℕ, Bool, ◌==◌, ◌&&◌, ◌||◌, true, false, nat_lt, List, [], ◌∷◌, ◌++◌, length, map}
use Rattle.std.specs.Prelude.{if◌then◌else◌, Option, Some, None, is_some}
use Rattle.std.specs.List.{filter, list_any}
use Rattle.std.specs.Str.{bytes_eq}
use Rattle.sng_text.specs.declared.qos.Qos.{Qos}
use Rattle.sng_text.specs.declared.qos.Qos.TheVariants.{AtMostOnce, AtLeastOnce}
use Rattle.sng_outbox.specs.PacketIds.{next_id}
use Rattle.sng_outbox.specs.declared.in_flight.InFlight.{InFlight}
use Rattle.sng_outbox.specs.declared.item.Item.{Item}
use Rattle.sng_outbox.specs.declared.item.Item.TheVariants as item
use Rattle.sng_outbox.specs.declared.item.Publication.{Publication}
use Rattle.sng_book.specs.declared.outcome.Outcome.{Outcome}
use Rattle.sng_book.specs.declared.outcome.Outcome.TheVariants.{Allowed, Denied}
use Rattle.sng_history.specs.declared.limits.TheConstants.{MAX_OPEN_SUBSCRIBES}

-- a filter that stands for somebody
pub record Wanted : Type 0 where
  pub filter : List ℕ
  -- the packet id of its open SUBSCRIBE, where it has one: its last one, which the broker did not answer yet
  pub open_id : Option ℕ
  -- a SUBSCRIBE of it is owed: it had to leave while as many were open as may be
  pub owed : Bool

pub record Link : Type 0 where
  -- what waits to leave, the oldest first
  pub waiting : List Item
  -- the publishes that were sent at QoS 1 and are not acknowledged yet, in the order of their sending
  pub in_flight : List InFlight
  -- the packet id that was used last
  pub last : ℕ
  -- the filters that stand for anybody, in the order in which each stood first
  pub wanted : List Wanted
  -- the clock, in ms, as the connection began
  pub pinged : ℕ

-- nothing waits, and nothing was sent
abbrev pub idle : Link
idle = record { waiting = []; in_flight = []; last = 0; wanted = []; pinged = 0 }

abbrev pub open_id : Option ℕ → List ℕ
open_id None = []
open_id (Some packet_id) = packet_id ∷ []

-- the packet ids of the open SUBSCRIBEs
abbrev pub open_ids : List Wanted → List ℕ
open_ids [] = []
open_ids (w ∷ wanted) = open_id w.open_id ++ open_ids wanted

-- it is this filter
abbrev pub is_filter_of : List ℕ → Wanted → Bool
is_filter_of filter w = bytes_eq filter w.filter

-- the filter is wanted
abbrev pub wants : List Wanted → List ℕ → Bool
wants wanted filter = list_any (is_filter_of filter) wanted

-- one more SUBSCRIBE may be open, or one of the filter is, which the next takes the place of
abbrev pub may_open : List Wanted → List ℕ → Bool
may_open wanted filter =
    nat_lt (length (open_ids wanted)) MAX_OPEN_SUBSCRIBES
    || list_any (λ w. is_filter_of filter w && is_some w.open_id) wanted

-- a SUBSCRIBE of the filter is open with this packet id, and none that was before; none is owed
abbrev pub opened : List Wanted → List ℕ → ℕ → List Wanted
opened wanted filter packet_id =
    map (λ w. if is_filter_of filter w then record w { open_id = Some packet_id; owed = false } else w) wanted

-- a SUBSCRIBE of the filter is owed
abbrev pub owing : List Wanted → List ℕ → List Wanted
owing wanted filter = map (λ w. if is_filter_of filter w then record w { owed = true } else w) wanted

abbrev pub has_id : ℕ → Option ℕ → Bool
has_id packet_id None = false
has_id packet_id (Some used) = used == packet_id

-- its open SUBSCRIBE has this packet id
abbrev pub is_open : ℕ → Wanted → Bool
is_open packet_id w = has_id packet_id w.open_id

-- no SUBSCRIBE is open with this packet id any more
abbrev pub closed : List Wanted → ℕ → List Wanted
closed wanted packet_id = map (λ w. if is_open packet_id w then record w { open_id = None } else w) wanted

-- the next packet id: it counts on past those of publishes in flight and of open SUBSCRIBEs
abbrev pub next_packet_id : Link → ℕ
next_packet_id link = next_id (map (λ sent. sent.packet_id) link.in_flight ++ open_ids link.wanted) link.last

-- the packet id of a publish that leaves; at QoS 0 it has none
abbrev pub packet_id_by : Link → Qos → Option ℕ
packet_id_by link AtMostOnce = None
packet_id_by link AtLeastOnce = Some (next_packet_id link)

-- the link once the publish was sent
abbrev pub sent_by : Link → Publication → Qos → Link
sent_by link p AtMostOnce = link
sent_by link p AtLeastOnce =
    record link {
      last = next_packet_id link;
      in_flight = link.in_flight ++ record { packet_id = next_packet_id link; publication = p } ∷ [];
    }

-- the link once the publish left with this outcome
abbrev pub exited : Link → Publication → Outcome → Link
exited link p Allowed = sent_by link p p.qos
exited link p (Denied rule) = link

-- the link once a SUBSCRIBE of the filter had to leave: it was sent, or is owed where it may not be open
abbrev pub subscribe_sent : Link → List ℕ → Link
subscribe_sent link filter =
    if may_open link.wanted filter
    then record link { last = next_packet_id link; wanted = opened link.wanted filter (next_packet_id link) }
    else record link { wanted = owing link.wanted filter }

-- the link once an UNSUBSCRIBE was sent, whose packet id nothing waits for
abbrev pub unsubscribe_sent : Link → Link
unsubscribe_sent link = record link { last = next_packet_id link }

-- the link once a SUBSCRIBE of each of these had to leave
abbrev pub subscribes_sent : Link → List (List ℕ) → Link
subscribes_sent link [] = link
subscribes_sent link (filter ∷ filters) = subscribes_sent (subscribe_sent link filter) filters

-- a SUBSCRIBE has to leave where its filter is wanted, and an UNSUBSCRIBE where it is not
abbrev pub subscribe_left : Link → List ℕ → Link
subscribe_left link filter = if wants link.wanted filter then subscribe_sent link filter else link

abbrev pub unsubscribe_left : Link → List ℕ → Link
unsubscribe_left link filter = if wants link.wanted filter then link else unsubscribe_sent link

-- of the publishes in flight those that are still allowed, with an outcome for each
abbrev pub still_in_flight : List InFlight → List Outcome → List InFlight
still_in_flight [] outcomes = []
still_in_flight (sent ∷ flights) [] = sent ∷ flights
still_in_flight (sent ∷ flights) (Allowed ∷ outcomes) = sent ∷ still_in_flight flights outcomes
still_in_flight (sent ∷ flights) (Denied rule ∷ outcomes) = still_in_flight flights outcomes

-- the link as a connection begins at this clock, once what is in flight was judged again with these outcomes
abbrev pub resumed : Link → ℕ → List Outcome → Link
resumed link clock outcomes =
    record link { in_flight = still_in_flight link.in_flight outcomes; pinged = clock }

-- the filters that are wanted
abbrev pub filters_wanted : Link → List (List ℕ)
filters_wanted link = map (λ w. w.filter) link.wanted

-- those of which a SUBSCRIBE is owed
abbrev pub filters_owed : Link → List (List ℕ)
filters_owed link = map (λ w. w.filter) (filter (λ w. w.owed) link.wanted)

-- what leaves at a take: first a SUBSCRIBE of each of those, and then what waits
abbrev pub outgoing : Link → List Item
outgoing link = map item.Subscribe (filters_owed link) ++ link.waiting

-- the link once these items left with these outcomes of the publishes among them
abbrev pub link_after : Link → List Item → List Outcome → Link
link_after link [] outcomes = link
link_after link (item.Publish p ∷ items) [] = link
link_after link (item.Publish p ∷ items) (outcome ∷ outcomes) =
    link_after (exited link p outcome) items outcomes
link_after link (item.Subscribe filter ∷ items) outcomes =
    link_after (subscribe_left link filter) items outcomes
link_after link (item.Unsubscribe filter ∷ items) outcomes =
    link_after (unsubscribe_left link filter) items outcomes
link_after link (item.Acknowledge packet_id ∷ items) outcomes = link_after link items outcomes
link_after link (item.Ping ∷ items) outcomes = link_after link items outcomes
