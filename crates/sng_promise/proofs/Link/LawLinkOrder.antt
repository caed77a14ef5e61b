-- What leaves for the broker leaves in order, by a take alone, and is nothing for a client.
use Rattle.std.proofs.Common.{◌≡◌, ℕ, ◌-◌, length, Bool, true, false, List, [], ◌∷◌, ◌++◌, map, refl, ap}
use Rattle.std.proofs.Common.{◌∙◌, if◌then◌else◌}
use Rattle.std.specs.Prelude.{Some, None, Option}
use Rattle.std.proofs.lemmas.List.{append-nil}
use Rattle.sng_grants.specs.declared.policy.Policy.{Policy}
use Rattle.sng_frames.specs.declared.messages.publish.Publish.{Publish}
use Rattle.sng_book.specs.declared.event.Event.{Event}
use Rattle.sng_book.specs.declared.row.Row.{Row}
use Rattle.sng_outbox.specs.Sending.{publishes}
use Rattle.sng_outbox.specs.declared.item.Item.{Item}
use Rattle.sng_outbox.specs.declared.item.Item.TheVariants as item
use Rattle.sng_outbox.specs.declared.item.Publication.{Publication}
use Rattle.sng_book.specs.declared.decision.Decision.{Decision}
use Rattle.sng_book.specs.declared.decision.Decision.TheVariants as note
use Rattle.sng_book.specs.declared.outcome.Outcome.{Outcome}
use Rattle.sng_book.specs.declared.outcome.Outcome.TheVariants.{Allowed, Denied}
use Rattle.sng_book.specs.declared.out.Out.{Out}
use Rattle.sng_book.specs.declared.out.Out.TheVariants.{Send, Wire, Note}
use Rattle.sng_history.specs.Notes.{exits_in, exit_of}
use Rattle.sng_history.specs.Verdicts.{exit}
use Rattle.sng_history.specs.Links.{Link, packet_id_by, exited}
use Rattle.sng_history.specs.Links.{subscribe_left, unsubscribe_left}
use Rattle.sng_history.specs.Links.{outgoing, filters_owed}
use Rattle.sng_history.specs.Exits.{exits_of, forwarded}
use Rattle.sng_history.specs.Exits.{subscribe_leaves}
use Rattle.sng_history.specs.Exits.{unsubscribe_leaves, leaving}
use Rattle.sng_laws.specs.ViewsMessages.{Message, Connects, Registers, Publishes, Subscribes, Unsubscribes}
use Rattle.sng_laws.specs.ViewsMessages.{Confirms, Acknowledges, Releases}
use Rattle.sng_laws.specs.ViewsMessages.{Other, message_at, States, Pings, Sleeps}
use Rattle.sng_laws.specs.ViewsStanding.{begun_by}
use Rattle.sng_laws.specs.ViewsLink.{Departure, allowed_by, publish_in, allowed_of, asks_for, asked_with}
use Rattle.sng_laws.specs.ViewsLink.{owed_with, items_by, items_in}
use Rattle.sng_laws.specs.ViewsLink.{items_for, told_with, added, publications, departure, departures}
use Rattle.sng_laws.specs.ViewsLink.{wires_in, sends_in}
use Rattle.sng_laws.specs.ViewsLink.{testaments_with, pings_with, asks_ping, pinged}
use Rattle.sng_laws.specs.LawsLink.{about_asked, about_left, AllDepart}
use Rattle.sng_laws.specs.LawsReached.{lets_go, Announced}
use Rattle.sng_promise.proofs.Link.LawLink.{subscribe_wires, unsubscribe_wires, wires_unsent}
use Rattle.sng_laws.specs.Views.{limits_at}

-- ---- any other row

pub departed_note : (said : Decision) (outs : List Out) → exit_of said ++ exits_in outs ≡ []
    → departure said outs ≡ []
departed_note (note.Forward who name outcome) outs none = absurd (let e = none in cc)
departed_note _ outs none = refl

pub later_exits : (said : Decision) (outs : List Out) → exit_of said ++ exits_in outs ≡ []
    → exits_in outs ≡ []
later_exits (note.Forward who name outcome) outs none = absurd (let e = none in cc)
later_exits (note.Again who name outcome) outs none = absurd (let e = none in cc)
later_exits (note.Connect client outcome) outs none = none
later_exits _ outs none = none

pub no_departures : (outs : List Out) → exits_in outs ≡ [] → departures outs ≡ []
no_departures [] none = refl
no_departures (Note said ∷ outs) none =
    rw (departed_note said outs none) (no_departures outs (later_exits said outs none))
no_departures (Send to datagram ∷ outs) none = no_departures outs none
no_departures (Wire sent ∷ outs) none = no_departures outs none

pub none_announced : (lets : Bool) (outs : List Out) → wires_in outs ≡ [] → Announced lets outs
none_announced lets [] none = tt
none_announced lets (Note said ∷ outs) none = none_announced (lets_go said) outs none
none_announced lets (Send to datagram ∷ outs) none = none_announced false outs none
none_announced lets (Wire sent ∷ outs) none = absurd (let e = none in cc)

-- ---- in order

pub about_all : (policy : Policy) (ps : List Publication) (ds : List Departure) → AllDepart policy ps ds
    → map about_left ds ≡ map about_asked ps
about_all policy [] [] all = refl
about_all policy (p ∷ ps) (d ∷ ds) all = rw (all.0.whom, all.0.name, about_all policy ps ds all.1) refl
about_all policy [] (d ∷ ds) all = absurd all
about_all policy (p ∷ ps) [] all = absurd all

pub publications_append : (xs ys : List Item) → publications (xs ++ ys) ≡ publications xs ++ publications ys
publications_append [] ys = refl
publications_append (item.Publish p ∷ xs) ys = ap (λ rest. p ∷ rest) (publications_append xs ys)
publications_append (item.Subscribe filter ∷ xs) ys = publications_append xs ys
publications_append (item.Unsubscribe filter ∷ xs) ys = publications_append xs ys
publications_append (item.Acknowledge packet_id ∷ xs) ys = publications_append xs ys
publications_append (item.Ping ∷ xs) ys = publications_append xs ys

publications_published : (ps : List Publication) (items : List Item)
    → publications (map item.Publish ps ++ items) ≡ ps ++ publications items
publications_published [] items = refl
publications_published (p ∷ ps) items = ap (λ rest. p ∷ rest) (publications_published ps items)

pub none_subscribed : (texts : List (List ℕ)) → publications (map item.Subscribe texts) ≡ []
none_subscribed [] = refl
none_subscribed (text ∷ texts) = none_subscribed texts

-- a SUBSCRIBE that is owed is no publish
pub outgoing_published : (link : Link) → publications (outgoing link) ≡ publications link.waiting
outgoing_published link =
    publications_append (map item.Subscribe (filters_owed link)) link.waiting
    ∙ ap (λ first. first ++ publications link.waiting) (none_subscribed (filters_owed link))

none_told : (texts : List (List ℕ)) (ids : List ℕ) (more : List Item)
    → publications (map item.Unsubscribe texts ++ (map item.Acknowledge ids ++ more)) ≡ publications more
none_told [] [] more = refl
none_told [] (packet_id ∷ ids) more = none_told [] ids more
none_told (text ∷ texts) ids more = none_told texts ids more

none_pinged : (b : Bool) → publications (if b then item.Ping ∷ [] else []) ≡ []
none_pinged true = refl
none_pinged false = refl

-- of what notes ask for, the publishes
by_note : (p : Option Publish) (said : Decision) → publications (items_by p said) ≡ allowed_of p said
by_note p said =
    publications_published (allowed_of p said) (map item.Subscribe (begun_by said))
    ∙ (ap (λ rest. allowed_of p said ++ rest) (none_subscribed (begun_by said))
    ∙ append-nil (allowed_of p said))

in_notes : (p : Option Publish) (outs : List Out) → publications (items_in p outs) ≡ asks_for p outs
in_notes None [] = refl
in_notes (Some p) [] = refl
in_notes None (Note said ∷ outs) =
    publications_append (items_by None said) (items_in None outs)
    ∙ (ap (λ first. first ++ publications (items_in None outs)) (by_note None said) ∙ in_notes None outs)
in_notes (Some p) (Note said ∷ outs) =
    publications_append (items_by (Some p) said) (items_in (Some p) outs)
    ∙ (ap (λ first. first ++ publications (items_in (Some p) outs)) (by_note (Some p) said)
    ∙ ap (λ rest. allowed_by p said ++ rest) (in_notes (Some p) outs))
in_notes None (Send to datagram ∷ outs) = in_notes None outs
in_notes (Some p) (Send to datagram ∷ outs) = in_notes (Some p) outs
in_notes None (Wire packet ∷ outs) = in_notes None outs
in_notes (Some p) (Wire packet ∷ outs) = in_notes (Some p) outs

for_message : (m : Option Message) (outs : List Out)
    → publications (items_for m outs) ≡ asks_for (publish_in m) outs
for_message (Some (Connects connect)) outs = refl
for_message (Some (Publishes p)) outs = in_notes (publish_in (Some (Publishes p))) outs
for_message (Some (Registers r)) outs = in_notes None outs
for_message (Some (Subscribes r)) outs = in_notes None outs
for_message (Some (Unsubscribes r)) outs = in_notes None outs
for_message (Some (Confirms r)) outs = in_notes None outs
for_message (Some (Acknowledges r)) outs = in_notes None outs
for_message (Some (States statement)) outs = in_notes None outs
for_message (Some (Releases number)) outs = in_notes None outs
for_message (Some (Pings client)) outs = in_notes None outs
for_message (Some (Sleeps duration)) outs = in_notes None outs
for_message (Some Other) outs = in_notes None outs
for_message None outs = refl

-- of what a row adds
pub publications_added : (e : Event) (h : List Row) (items : List Item) (outs : List Out)
    → publications (added e h items outs) ≡ asked_with e h outs
publications_added e h items outs =
    let first = items_for (message_at e) outs in
    let texts = told_with e h outs ((limits_at e h).waiting - length items) in
    let wills = testaments_with e h outs in
    let more = map item.Publish wills ++ pings_with e h outs in
    publications_append first (map item.Unsubscribe texts
    ++ (map item.Acknowledge (owed_with e h outs) ++ more))
    ∙ (ap (λ rest. publications first ++ rest)
    (none_told texts (owed_with e h outs) more
    ∙ (publications_published wills (pings_with e h outs)
    ∙ (ap (λ rest. wills ++ rest) (none_pinged (asks_ping e h (pinged h) outs)) ∙ append-nil wills)))
    ∙ ap (λ asked. asked ++ wills) (for_message (message_at e) outs))

publications_all : (items : List Item) → publications (publishes items) ≡ publications items
publications_all [] = refl
publications_all (item.Publish p ∷ items) = ap (λ rest. p ∷ rest) (publications_all items)
publications_all (item.Subscribe filter ∷ items) = publications_all items
publications_all (item.Unsubscribe filter ∷ items) = publications_all items
publications_all (item.Acknowledge packet_id ∷ items) = publications_all items
publications_all (item.Ping ∷ items) = publications_all items

pub publications_kept : (drops : Bool) (items : List Item)
    → publications (if drops then publishes items else items) ≡ publications items
publications_kept true items = publications_all items
publications_kept false items = refl

-- ---- nothing for a client

unsent_first : (p : Publication) (packet_id : Option ℕ) (o : Outcome) (outs : List Out) → sends_in outs ≡ []
    → sends_in (forwarded p packet_id o ++ outs) ≡ []
unsent_first p packet_id Allowed outs rest = rest
unsent_first p packet_id (Denied rule) outs rest = rest

pub all_unsent : (policy : Policy) (link : Link) (items : List Item)
    → sends_in (leaving link items (exits_of policy items)) ≡ []
all_unsent policy link [] = refl
all_unsent policy link (item.Publish p ∷ items) =
    let o = exit policy p.origin p.name in
    unsent_first p (packet_id_by link p.qos) o (leaving (exited link p o) items (exits_of policy items))
    (all_unsent policy (exited link p o) items)
all_unsent policy link (item.Subscribe text ∷ items) =
    let next = subscribe_left link text in
    wires_unsent (subscribe_leaves link text) (leaving next items (exits_of policy items))
    (subscribe_wires link text)
    ∙ all_unsent policy next items
all_unsent policy link (item.Unsubscribe text ∷ items) =
    let next = unsubscribe_left link text in
    wires_unsent (unsubscribe_leaves link text) (leaving next items (exits_of policy items))
    (unsubscribe_wires link text)
    ∙ all_unsent policy next items
all_unsent policy link (item.Acknowledge packet_id ∷ items) = all_unsent policy link items
all_unsent policy link (item.Ping ∷ items) = all_unsent policy link items
