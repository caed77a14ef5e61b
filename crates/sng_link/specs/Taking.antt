-- How items leave one after another where the next packet id is known, and which are in flight then (MQTT
-- 3.1.1, 2.3.1, 3.3, 3.4, 3.8 and 3.10).
use Rattle.std.specs.Prelude.{ℕ, ◌≡◌, ◌≤◌, ◌+◌, Bool, true, false, List, [], ◌∷◌, ◌++◌, length, count_by}
use Rattle.std.specs.Prelude.{if◌then◌else◌, Option, Some, None}
use Rattle.std.specs.List.{list_any}
use Rattle.sng_text.specs.declared.qos.Qos.{Qos}
use Rattle.sng_text.specs.declared.qos.Qos.TheVariants.{AtMostOnce, AtLeastOnce}
use Rattle.sng_grants.specs.declared.policy.Policy.{Policy}
use Rattle.sng_outbox.specs.PacketIds.{Numbering, AreInUse, next_id}
use Rattle.sng_outbox.specs.Sending.{asks_for_ack}
use Rattle.sng_grants.specs.declared.limits.TheConstants.{MAX_FLIGHT}
use Rattle.sng_outbox.specs.declared.in_flight.InFlight.{InFlight}
use Rattle.sng_outbox.specs.declared.item.Item.{Item}
use Rattle.sng_outbox.specs.declared.item.Item.TheVariants as item
use Rattle.sng_outbox.specs.declared.item.Publication.{Publication}
use Rattle.sng_book.specs.declared.outcome.Outcome.{Outcome}
use Rattle.sng_book.specs.declared.outcome.Outcome.TheVariants.{Allowed, Denied}
use Rattle.sng_book.specs.declared.out.Out.{Out}
use Rattle.sng_history.specs.Good.{WantedOnce}
use Rattle.sng_history.specs.Links.{Link, Wanted, wants, may_open, opened, owing, is_open, open_ids}
use Rattle.sng_history.specs.Links.{next_packet_id, exited, subscribe_left, unsubscribe_left, link_after}
use Rattle.sng_history.specs.Exits.{acknowledged, exits_of, forwarded, leaving, pinging, subscribe_packet}
use Rattle.sng_history.specs.Exits.{unsubscribe_packet}
use Rattle.sng_history.specs.Verdicts.{exit}
use Rattle.sng_history.specs.declared.limits.TheConstants.{MAX_OPEN_SUBSCRIBES}
use Rattle.sng_wanted.specs.Filters.{id_for, owed_for, WantedRoom}
use Rattle.sng_link.specs.Flights.{ids_in_use, AreMarked, OwedAreClosed}
use Rattle.sng_link.specs.Steps.{forth_marks, Logged}
use Rattle.sng_link.specs.declared.step.Step.{Step}

-- the id is the next one, counted past those in use
abbrev pub IsNext : Numbering → ℕ → Type 0
IsNext n next = (ids : List ℕ) → length ids ≤ 65534 → AreInUse ids n.marks → next ≡ next_id ids n.last

-- the packet id of a publish at this QoS; at QoS 0 it has none
abbrev pub id_at : Qos → ℕ → Option ℕ
id_at AtMostOnce next = None
id_at AtLeastOnce next = Some next

-- the packet id under which a publish is in flight once it left with this outcome
abbrev pub flight_id : Qos → ℕ → Outcome → Option ℕ
flight_id qos next Allowed = id_at qos next
flight_id qos next (Denied denial) = None

-- nothing is taken into use
abbrev pub no_step : Step
no_step = record { packet_id = None; former = None; owed = false; owes = None }

-- this packet id is used up, and no former one is free
abbrev pub step_under : Option ℕ → Step
step_under packet_id = record { packet_id = packet_id; former = None; owed = false; owes = None }

-- a SUBSCRIBE of the filter is open with this packet id, in place of one that was open or owed
abbrev pub open_step : List Wanted → ℕ → List ℕ → Step
open_step wanted next filter = record {
  packet_id = Some next;
  former = id_for wanted filter;
  owed = owed_for wanted filter;
  owes = None;
}

-- one is owed, where none was
abbrev pub owe_step : List Wanted → List ℕ → Step
owe_step wanted filter =
    if owed_for wanted filter then no_step
    else record { packet_id = None; former = None; owed = false; owes = Some filter }

-- a SUBSCRIBE of a filter that is wanted: what it lets out, and what it takes into use
abbrev pub subscribe_outs : List Wanted → ℕ → List ℕ → List Out
subscribe_outs wanted next filter = if may_open wanted filter then subscribe_packet next filter ∷ [] else []

abbrev pub subscribe_step : List Wanted → ℕ → List ℕ → Step
subscribe_step wanted next filter =
    if may_open wanted filter then open_step wanted next filter else owe_step wanted filter

-- what an item lets out where these filters are wanted and this is the next packet id
abbrev pub item_outs : Policy → List Wanted → ℕ → Item → List Out
item_outs policy wanted next (item.Publish p) = forwarded p (id_at p.qos next) (exit policy p.origin p.name)
item_outs policy wanted next (item.Subscribe filter) =
    if wants wanted filter then subscribe_outs wanted next filter else []
item_outs policy wanted next (item.Unsubscribe filter) =
    if wants wanted filter then [] else unsubscribe_packet next filter ∷ []
item_outs policy wanted next (item.Acknowledge packet_id) = acknowledged packet_id ∷ []
item_outs policy wanted next item.Ping = pinging ∷ []

-- what it takes into use
abbrev pub item_step : Policy → List Wanted → ℕ → Item → Step
item_step policy wanted next (item.Publish p) =
    step_under (flight_id p.qos next (exit policy p.origin p.name))
item_step policy wanted next (item.Subscribe filter) =
    if wants wanted filter then subscribe_step wanted next filter else no_step
item_step policy wanted next (item.Unsubscribe filter) =
    if wants wanted filter then no_step else step_under (Some next)
item_step policy wanted next (item.Acknowledge packet_id) = no_step
item_step policy wanted next item.Ping = no_step

-- the id that was given last once this one was, where there is one
abbrev pub last_after : ℕ → Option ℕ → ℕ
last_after last None = last
last_after last (Some packet_id) = packet_id

-- what an UNSUBSCRIBE leaves under nothing keeps
abbrev pub kept_step : Item → Step → Step
kept_step (item.Unsubscribe filter) step = no_step
kept_step (item.Publish p) step = step
kept_step (item.Subscribe filter) step = step
kept_step (item.Acknowledge packet_id) step = step
kept_step item.Ping step = step

-- the numbering once an item left by this step
abbrev pub numbered : Numbering → Item → Step → Numbering
numbered n first step =
    record { marks = forth_marks n.marks (kept_step first step); last = last_after n.last step.packet_id }

abbrev pub opened_by : List Wanted → List ℕ → Option ℕ → List Wanted
opened_by wanted filter None = wanted
opened_by wanted filter (Some packet_id) = opened wanted filter packet_id

abbrev pub owing_by : List Wanted → Option (List ℕ) → List Wanted
owing_by wanted None = wanted
owing_by wanted (Some filter) = owing wanted filter

-- the filters once it left: of a SUBSCRIBE the packet id is the open one, or one is owed
abbrev pub wanted_after : List Wanted → Item → Step → List Wanted
wanted_after wanted (item.Subscribe filter) step = owing_by (opened_by wanted filter step.packet_id) step.owes
wanted_after wanted (item.Publish p) step = wanted
wanted_after wanted (item.Unsubscribe filter) step = wanted
wanted_after wanted (item.Acknowledge packet_id) step = wanted
wanted_after wanted item.Ping step = wanted

-- a SUBSCRIBE of the filter may be open with this packet id, where it is one
abbrev pub MayBeOpen : List Wanted → List ℕ → Option ℕ → Type 0
MayBeOpen wanted filter None = Unit {0}
MayBeOpen wanted filter (Some packet_id) =
    (list_any (is_open packet_id) wanted ≡ false) × (may_open wanted filter ≡ true)

-- the step is one of a SUBSCRIBE of the filter
abbrev pub IsSubscribeStep : List Wanted → List ℕ → Step → Type 0
IsSubscribeStep wanted filter step =
    MayBeOpen wanted filter step.packet_id × (step.packet_id ≡ None → step.former ≡ None)

-- the next packet id is open for no filter
abbrev pub NextIsFree : Numbering → List Wanted → Type 0
NextIsFree n wanted = (next : ℕ) → IsNext n next → list_any (is_open next) wanted ≡ false

-- the item left: what it let out, and its step, came behind what was there
pub record LeftBy (policy : Policy) (first : Item) (outs outs_then : List Out) (log log_then : List Step)
    (n then_n : Numbering) (w later : WantedRoom) : Type 0 where
  pub next : ℕ
  pub follows : IsNext n next
  pub small : next ≤ 65535
  pub outs_are : outs_then ≡ outs ++ item_outs policy w.wanted next first
  pub log_is : log_then ≡ log ++ item_step policy w.wanted next first ∷ []
  pub ids_are : then_n ≡ numbered n first (item_step policy w.wanted next first)
  pub wanted_is :
      later ≡ record w { wanted = wanted_after w.wanted first (item_step policy w.wanted next first) }

-- the link once the item left
abbrev pub item_left : Policy → Link → Item → Link
item_left policy link (item.Publish p) = exited link p (exit policy p.origin p.name)
item_left policy link (item.Subscribe filter) = subscribe_left link filter
item_left policy link (item.Unsubscribe filter) = unsubscribe_left link filter
item_left policy link (item.Acknowledge packet_id) = link
item_left policy link item.Ping = link

-- the steps of items that leave on the link
abbrev pub plan_of : Policy → Link → List Item → List Step
plan_of policy link [] = []
plan_of policy link (first ∷ items) =
    item_step policy link.wanted (next_packet_id link) first
    ∷ plan_of policy (item_left policy link first) items

-- a publish is in flight at QoS 1, where it has a packet id
abbrev pub flight_at : Publication → Qos → Option ℕ → List InFlight
flight_at p AtMostOnce packet_id = []
flight_at p AtLeastOnce None = []
flight_at p AtLeastOnce (Some packet_id) = record { packet_id = packet_id; publication = p } ∷ []

abbrev pub flight : Item → Option ℕ → List InFlight
flight (item.Publish p) packet_id = flight_at p p.qos packet_id
flight (item.Subscribe filter) packet_id = []
flight (item.Unsubscribe filter) packet_id = []
flight (item.Acknowledge id) packet_id = []
flight item.Ping packet_id = []

-- what is in flight once items left by a plan
abbrev pub flights : List Item → List Step → List InFlight
flights [] plan = []
flights (first ∷ items) [] = []
flights (first ∷ items) (step ∷ plan) = flight first step.packet_id ++ flights items plan

-- the link is so now, with these items left, and its packet ids are numbered so: those of publishes in flight
-- and of open SUBSCRIBEs are marked, there are few enough of them that one is always free, and the steps of the
-- log lead back to where they began. Of the publishes nothing is in the outbox yet
pub record Stands (from : List Bool) (first : List Wanted) (others : List Item) (log : List Step)
    (n : Numbering) (wanted : List Wanted) (now : Link) : Type 0 where
  pub wanted_is : now.wanted ≡ wanted
  pub once : WantedOnce now.wanted
  pub closed : OwedAreClosed now.wanted
  pub few : length (open_ids now.wanted) ≤ MAX_OPEN_SUBSCRIBES
  pub last : n.last ≡ now.last
  pub small : n.last ≤ 65535
  pub marked : AreMarked (ids_in_use now.in_flight now.wanted) n.marks
  pub room : count_by asks_for_ack others + length now.in_flight ≤ MAX_FLIGHT
  pub logged : Logged from first log n.marks now.wanted

-- of these items all left but the others, with these outs and by these steps
pub record Planned (policy : Policy) (from : List Bool) (link : Link) (items others : List Item)
    (outs : List Out) (log : List Step) (n : Numbering) (wanted : List Wanted) : Type 0 where
  pub now : Link
  pub stands : Stands from link.wanted others log n wanted now
  pub pinged : now.pinged ≡ link.pinged
  pub outs_left : outs ++ leaving now others (exits_of policy others)
      ≡ leaving link items (exits_of policy items)
  pub link_left : link_after now others (exits_of policy others)
      ≡ link_after link items (exits_of policy items)
  pub plan_left : log ++ plan_of policy now others ≡ plan_of policy link items

-- the link with another packet id last, and other filters
abbrev pub numbered_at : Link → Numbering → List Wanted → Link
numbered_at link n wanted = record link { last = n.last; wanted = wanted }

-- of these items, of which SUBSCRIBEs alone leave, all left but the others, with these outs
pub record Subscribed (policy : Policy) (from : List Bool) (first : List Wanted) (link : Link)
    (items others : List Item) (outs : List Out) (log : List Step) (n : Numbering) (wanted : List Wanted)
    : Type 0 where
  pub stands : Stands from first others log n wanted (numbered_at link n wanted)
  pub outs_left : outs ++ leaving (numbered_at link n wanted) others (exits_of policy others)
      ≡ leaving link items (exits_of policy items)
  pub link_left : link_after (numbered_at link n wanted) others (exits_of policy others)
      ≡ link_after link items (exits_of policy items)
