-- The state that a history leads to. Each field is moved by a function of the state before, the cause and the
-- outs of the row. More of the link to the broker is a further field of its record.
use Rattle.std.specs.Prelude.{ℕ, ◌≡◌, nat_le, Bool, true, false, ◌||◌, ◌&&◌, not, List, [], ◌∷◌, ◌++◌, map}
use Rattle.std.specs.Prelude.{if◌then◌else◌, Option, Some, None}
use Rattle.std.specs.List.{flat_map}
use Rattle.std.specs.Str.{bytes_eq}
use Rattle.sng_text.specs.declared.qos.Qos.{Qos}
use Rattle.sng_text.specs.declared.qos.Qos.TheVariants.{AtMostOnce, AtLeastOnce}
use Rattle.sng_grants.specs.Policies.{Policy, no_policy}
use Rattle.sng_frames.specs.declared.qos.FrameQos.{FrameQos}
use Rattle.sng_frames.specs.declared.qos.FrameQos.TheVariants as qos
use Rattle.sng_frames.specs.declared.messages.publish.Publish.{Publish}
use Rattle.sng_outbox.specs.Sending.{publishes}
use Rattle.sng_outbox.specs.declared.item.Item.{Item}
use Rattle.sng_outbox.specs.declared.item.Item.TheVariants as item
use Rattle.sng_outbox.specs.declared.origin.Origin.{Origin}
use Rattle.sng_outbox.specs.declared.origin.Origin.TheVariants as origin
use Rattle.sng_book.specs.Denials.{is_allowed}
use Rattle.sng_book.specs.declared.decision.Decision.{Decision}
use Rattle.sng_book.specs.declared.decision.Decision.TheVariants as note
use Rattle.sng_book.specs.declared.decision.Who.{Who}
use Rattle.sng_book.specs.declared.decision.Who.TheVariants as who
use Rattle.sng_book.specs.declared.outcome.Outcome.{Outcome}
use Rattle.sng_book.specs.declared.outcome.Outcome.TheVariants.{Allowed, Denied}
use Rattle.sng_book.specs.declared.event.Event.{Event}
use Rattle.sng_book.specs.declared.out.Out.{Out}
use Rattle.sng_book.specs.declared.out.Out.TheVariants.{Send, Wire, Note}
use Rattle.sng_book.specs.declared.row.Row.{Row}
use Rattle.sng_history.specs.Causes.{Cause, cause_of, publish_asked}
use Rattle.sng_history.specs.Causes.{ByConnect, ByMessage, BySource, ByBroken, ByPacket, ByUp, ByDown, ByTake}
use Rattle.sng_history.specs.Causes.{ByReplace, ByTick}
use Rattle.sng_history.specs.Clients.{Client, Around, blank, client_by}
use Rattle.sng_history.specs.Notes.{notes_of, exits_in}
use Rattle.sng_history.specs.Links.{Link, Wanted, idle, wants, link_after, resumed, filters_wanted}
use Rattle.sng_history.specs.Links.{subscribes_sent}
use Rattle.sng_history.specs.Links.{outgoing}
use Rattle.sng_history.specs.Packets.{answer_of, acknowledgements, answered}
use Rattle.sng_history.specs.Standing.{released, unsubscribes, still_wanted}
use Rattle.sng_history.specs.Ticking.{ticked}

-- the policy in force, the clock in ms, whether the broker's connection is up, the link, and the clients, in
-- the order in which each was accepted first
pub record State : Type 0 where
  pub policy : Policy
  pub clock : ℕ
  pub up : Bool
  pub link : Link
  pub clients : List Client

-- before any row nothing is granted, no limit is set, the clock is at 0, the connection is down, nothing waits, and no client
-- was accepted
abbrev pub opening : State
opening =
    record {
      policy = no_policy;
      clock = 0;
      up = false;
      link = idle;
      clients = [];
    }

-- a replacement puts its policy in force
abbrev pub policy_by : Cause → Policy → Policy
policy_by (ByConnect from connect) before = before
policy_by (ByMessage from request) before = before
policy_by (BySource from p) before = before
policy_by (ByBroken from rule) before = before
policy_by (ByPacket p) before = before
policy_by ByUp before = before
policy_by ByDown before = before
policy_by ByTake before = before
policy_by (ByReplace policy) before = policy
policy_by (ByTick clock) before = before

-- the clock does not go back
abbrev pub later : ℕ → ℕ → ℕ
later a b = if nat_le a b then b else a

abbrev pub clock_by : Cause → ℕ → ℕ
clock_by (ByConnect from connect) before = before
clock_by (ByMessage from request) before = before
clock_by (BySource from p) before = before
clock_by (ByBroken from rule) before = before
clock_by (ByPacket p) before = before
clock_by ByUp before = before
clock_by ByDown before = before
clock_by ByTake before = before
clock_by (ByReplace policy) before = before
clock_by (ByTick clock) before = later before clock

abbrev pub up_by : Cause → Bool → Bool
up_by (ByConnect from connect) before = before
up_by (ByMessage from request) before = before
up_by (BySource from p) before = before
up_by (ByBroken from rule) before = before
up_by (ByPacket p) before = before
up_by ByUp before = true
up_by ByDown before = false
up_by ByTake before = before
up_by (ByReplace policy) before = before
up_by (ByTick clock) before = before

-- what the notes of a row are read by
abbrev pub around : State → Cause → Around
around s c = record { policy = policy_by c s.policy; clock = clock_by c s.clock; cause = c }

-- one of these clients has the id
abbrev pub is_known : List ℕ → List Client → Bool
is_known id [] = false
is_known id (x ∷ xs) = bytes_eq id x.id || is_known id xs

-- who is accepted for the first time: the row begins with the note that says so
abbrev pub newcomer : List Client → Decision → List Client
newcomer xs (note.Connect id outcome) =
    if is_allowed outcome && not (is_known id xs) then blank id ∷ [] else []
newcomer xs (note.Left id) = []
newcomer xs (note.Register who name outcome) = []
newcomer xs (note.Publish who name outcome) = []
newcomer xs (note.Subscribe who filter outcome) = []
newcomer xs (note.Unsubscribe who filter outcome) = []
newcomer xs (note.Will who name outcome) = []
newcomer xs (note.Announce id name) = []
newcomer xs (note.Hand id name outcome) = []
newcomer xs (note.Retry id name outcome) = []
newcomer xs (note.Forward who name outcome) = []
newcomer xs (note.Again who name outcome) = []
newcomer xs (note.End id filter outcome) = []
newcomer xs (note.Lost id) = []
newcomer xs note.Outbox = []
newcomer xs (note.Frame who outcome) = []

abbrev pub entered_in : List Client → List Out → List Client
entered_in xs [] = []
entered_in xs (Note said ∷ outs) = newcomer xs said
entered_in xs (Send to datagram ∷ outs) = []
entered_in xs (Wire packet ∷ outs) = []

abbrev pub newcomers : Cause → List Client → List Out → List Client
newcomers (ByConnect from connect) xs outs = entered_in xs outs
newcomers (ByMessage from request) xs outs = []
newcomers (BySource from p) xs outs = []
newcomers (ByBroken from rule) xs outs = []
newcomers (ByPacket p) xs outs = []
newcomers ByUp xs outs = []
newcomers ByDown xs outs = []
newcomers ByTake xs outs = []
newcomers (ByReplace policy) xs outs = []
newcomers (ByTick clock) xs outs = []

-- the clients with whom a row deals
abbrev pub present_in : Cause → List Client → List Out → List Client
present_in c xs outs = xs ++ newcomers c xs outs

abbrev pub clients_by : State → Cause → List Out → List Client
clients_by s c outs = map (λ x. client_by (around s c) (notes_of x.id outs) x) (present_in c s.clients outs)

-- the item of a publish that was asked for under this name, at this QoS
abbrev pub item_for : Origin → List ℕ → Qos → Publish → Item
item_for asker name q p =
    item.Publish (record {
      origin = asker;
      name = name;
      payload = p.payload;
      qos = q;
      retain = p.flags.retain;
    })

-- the QoS at which a publish of a client goes on to the broker, which is 1 at most
abbrev pub qos_of : FrameQos → Qos
qos_of qos.AtMostOnce = AtMostOnce
qos_of qos.AtLeastOnce = AtLeastOnce
qos_of qos.ExactlyOnce = AtLeastOnce
qos_of qos.WithoutSession = AtMostOnce

-- the item of a publish that was asked for, where it was allowed. Without a session it has QoS 0 upstream
abbrev pub item_asked : Who → Option (List ℕ) → Outcome → Publish → List Item
item_asked (who.Source source) (Some name) outcome p =
    if is_allowed outcome then item_for (origin.Source source) name AtMostOnce p ∷ [] else []
item_asked (who.Source source) None outcome p = []
item_asked (who.Client client) (Some name) outcome p =
    if is_allowed outcome then item_for (origin.Client client) name (qos_of p.flags.qos) p ∷ [] else []
item_asked (who.Client client) None outcome p = []
item_asked (who.Address address) name outcome p = []
item_asked who.Broker name outcome p = []

abbrev pub publish_item : Who → Option (List ℕ) → Outcome → Option Publish → List Item
publish_item who name outcome None = []
publish_item who name outcome (Some p) = item_asked who name outcome p

-- the item of a subscription that was asked for, where it was allowed
abbrev pub subscribe_item : Option (List ℕ) → Outcome → List Item
subscribe_item (Some filter) Allowed = item.Subscribe filter ∷ []
subscribe_item (Some filter) (Denied rule) = []
subscribe_item None outcome = []

-- what a note adds to what waits, given the PUBLISH that the row holds
abbrev pub asked_by : Option Publish → Decision → List Item
asked_by p (note.Publish who name outcome) = publish_item who name outcome p
asked_by p (note.Subscribe who filter outcome) = subscribe_item filter outcome
asked_by p (note.Connect client outcome) = []
asked_by p (note.Register who name outcome) = []
asked_by p (note.Unsubscribe who filter outcome) = []
asked_by p (note.Will who name outcome) = []
asked_by p (note.Announce client name) = []
asked_by p (note.Hand client name outcome) = []
asked_by p (note.Retry client name outcome) = []
asked_by p (note.Forward who name outcome) = []
asked_by p (note.Again who name outcome) = []
asked_by p (note.End client filter outcome) = []
asked_by p (note.Lost client) = []
asked_by p (note.Left client) = []
asked_by p note.Outbox = []
asked_by p (note.Frame who outcome) = []

abbrev pub asked_out : Option Publish → Out → List Item
asked_out p (Note said) = asked_by p said
asked_out p (Send to datagram) = []
asked_out p (Wire packet) = []

-- what the notes of a row ask for, where it is allowed
abbrev pub asked_all : Option Publish → List Out → List Item
asked_all p outs = flat_map (asked_out p) outs

-- what is asked for in a row, and allowed: only the row of a message asks for anything
abbrev pub asked_in : Cause → List Out → List Item
asked_in (ByMessage from request) outs = asked_all (publish_asked request) outs
asked_in (BySource from p) outs = asked_all (Some p) outs
asked_in (ByConnect from connect) outs = []
asked_in (ByBroken from rule) outs = []
asked_in (ByPacket p) outs = []
asked_in ByUp outs = []
asked_in ByDown outs = []
asked_in ByTake outs = []
asked_in (ByReplace policy) outs = []
asked_in (ByTick clock) outs = []

-- a take while up leaves nothing, and a tick lets the wills of lost clients and a PINGREQ wait; a lost
-- connection, and a new one, leave the publishes alone; else what was asked for joins what waits, and behind
-- it the broker is told of filters that stand for nobody any more. What may wait is as many as the policy in
-- force at the row allows. The last list are the clients after the row
abbrev pub waiting_by : State → Cause → List Item → List Client → List Item
waiting_by s (ByMessage from request) asked after =
    s.link.waiting ++ (asked ++ unsubscribes s.policy.limits s.link (released s.clients after))
waiting_by s (BySource from p) asked after = s.link.waiting ++ asked
waiting_by s (ByConnect from connect) asked after =
    s.link.waiting ++ unsubscribes s.policy.limits s.link (released s.clients after)
waiting_by s (ByReplace policy) asked after =
    s.link.waiting ++ unsubscribes policy.limits s.link (released s.clients after)
waiting_by s (ByBroken from rule) asked after = s.link.waiting
waiting_by s (ByPacket p) asked after =
    s.link.waiting ++ acknowledgements s.policy.limits s.up s.link (answer_of p)
waiting_by s ByUp asked after = if s.up then publishes s.link.waiting else s.link.waiting
waiting_by s ByDown asked after = publishes s.link.waiting
waiting_by s ByTake asked after = if s.up then [] else s.link.waiting
waiting_by s (ByTick clock) asked after =
    (ticked s.policy.limits s.up s.link (later s.clock clock) s.clients).waiting

-- what leaves at a take while up moves the link, and a packet of the broker may answer what was sent. As a
-- connection begins, what is in flight and denied now is forgotten, and each filter that is wanted is
-- subscribed anew
abbrev pub link_moved : State → Cause → List Outcome → Link
link_moved s (ByConnect from connect) outcomes = s.link
link_moved s (ByMessage from request) outcomes = s.link
link_moved s (BySource from p) outcomes = s.link
link_moved s (ByBroken from rule) outcomes = s.link
link_moved s (ByPacket p) outcomes = answered s.link (answer_of p)
link_moved s ByUp outcomes = subscribes_sent (resumed s.link s.clock outcomes) (filters_wanted s.link)
link_moved s ByDown outcomes = s.link
link_moved s ByTake outcomes = if s.up then link_after s.link (outgoing s.link) outcomes else s.link
link_moved s (ByReplace policy) outcomes = s.link
link_moved s (ByTick clock) outcomes =
    ticked s.policy.limits s.up s.link (later s.clock clock) s.clients

-- a filter that is not wanted yet comes last
abbrev pub with_wanted : List Wanted → List ℕ → List Wanted
with_wanted wanted filter =
    if wants wanted filter then wanted else wanted ++ record { filter = filter; open_id = None; owed = false } ∷ []

-- the filters of the subscriptions among these items are wanted, too
abbrev pub joined : List Wanted → List Item → List Wanted
joined wanted [] = wanted
joined wanted (item.Subscribe filter ∷ items) = joined (with_wanted wanted filter) items
joined wanted (item.Publish p ∷ items) = joined wanted items
joined wanted (item.Unsubscribe filter ∷ items) = joined wanted items
joined wanted (item.Acknowledge packet_id ∷ items) = joined wanted items
joined wanted (item.Ping ∷ items) = joined wanted items

-- the filters that are wanted: what a SUBSCRIBE asks for joins them, and one that stands for nobody any more
-- is wanted no more
abbrev pub wanted_by : State → Cause → List Wanted → List Item → List Client → List Wanted
wanted_by s (ByMessage from request) wanted asked after = joined (still_wanted after wanted) asked
wanted_by s (ByConnect from connect) wanted asked after = still_wanted after wanted
wanted_by s (ByReplace policy) wanted asked after = still_wanted after wanted
wanted_by s (ByPacket p) wanted asked after = still_wanted after wanted
wanted_by s (BySource from p) wanted asked after = wanted
wanted_by s (ByBroken from rule) wanted asked after = wanted
wanted_by s ByUp wanted asked after = wanted
wanted_by s ByDown wanted asked after = wanted
wanted_by s ByTake wanted asked after = wanted
wanted_by s (ByTick clock) wanted asked after = wanted

-- the link after a row: what left with these outcomes, what was asked for, and the clients after it
abbrev pub link_by : State → Cause → List Outcome → List Item → List Client → Link
link_by s c outcomes asked after =
    let moved = link_moved s c outcomes in
    record moved { waiting = waiting_by s c asked after; wanted = wanted_by s c moved.wanted asked after }

-- the state after a row
abbrev pub after : State → Cause → List Out → State
after s c outs = record {
  policy = policy_by c s.policy;
  clock = clock_by c s.clock;
  up = up_by c s.up;
  link = link_by s c (exits_in outs) (asked_in c outs) (clients_by s c outs);
  clients = clients_by s c outs;
}

abbrev pub state_by : State → Event → List Out → State
state_by s e outs = after s (cause_of e) outs

-- what a history leads to from the state that it begins with; a history is the list of its rows, the newest
-- first
abbrev pub state_of : State → List Row → State
state_of first [] = first
state_of first (row ∷ earlier) = state_by (state_of first earlier) row.event row.outs

-- the history leads to the state
abbrev pub Leads : State → List Row → State → Type 0
Leads first h s = s ≡ state_of first h
