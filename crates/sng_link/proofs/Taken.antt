-- What is in flight once all that waited left by a plan.
use Rattle.std.proofs.Common.{◌≡◌, ℕ, Bool, true, false, List, [], ◌∷◌, ◌++◌, length, suc, if◌then◌else◌}
use Rattle.std.proofs.Common.{◌==◌, ◌||◌, refl, sym, ◌∙◌, ap, subst}
use Rattle.std.specs.Prelude.{Some, None, slice_get, drop}
use Rattle.std.proofs.lemmas.List.{append_assoc, append-nil, map-append}
use Rattle.sng_text.specs.declared.qos.Qos.{Qos}
use Rattle.sng_text.specs.declared.qos.Qos.TheVariants.{AtMostOnce, AtLeastOnce}
use Rattle.sng_grants.specs.declared.policy.Policy.{Policy}
use Rattle.sng_outbox.specs.PacketIds.{Numbering, is_used}
use Rattle.sng_outbox.specs.Sending.{Sending, is_in_flight}
use Rattle.sng_outbox.specs.declared.in_flight.InFlight.{InFlight}
use Rattle.sng_outbox.specs.declared.item.Item.{Item}
use Rattle.sng_outbox.specs.declared.item.Item.TheVariants as item
use Rattle.sng_outbox.specs.declared.item.Publication.{Publication}
use Rattle.sng_book.specs.declared.outcome.Outcome.{Outcome}
use Rattle.sng_book.specs.declared.outcome.Outcome.TheVariants.{Allowed, Denied}
use Rattle.sng_book.specs.declared.out.Out.{Out}
use Rattle.sng_history.specs.Links.{Link, Wanted, wants, may_open, opened, owing, next_packet_id, sent_by}
use Rattle.sng_history.specs.Links.{exited, subscribe_sent, subscribe_left, unsubscribe_sent}
use Rattle.sng_history.specs.Links.{unsubscribe_left, link_after, open_ids}
use Rattle.sng_history.specs.Exits.{exits_of, leaving}
use Rattle.sng_history.specs.Verdicts.{exit}
use Rattle.sng_link.specs.Flights.{link_of, ids_of, ids_in_use, AreDistinct, AreMarked, OwedAreClosed}
use Rattle.sng_link.specs.Taking.{id_at, flight_id, flight_at, flights, item_left, plan_of, Planned}
use Rattle.sng_link.specs.declared.step.Step.{Step}
use Rattle.sng_link.proofs.Marks.{distinct_less, unused_both}

no_flight : (p : Publication) (q : Qos) → flight_at p q None ≡ []
no_flight p AtMostOnce = refl
no_flight p AtLeastOnce = refl

flight_sent : (m : Link) (p : Publication) (q : Qos)
    → (sent_by m p q).in_flight ≡ m.in_flight ++ flight_at p q (id_at q (next_packet_id m))
flight_sent m p AtMostOnce = sym (append-nil m.in_flight)
flight_sent m p AtLeastOnce = refl

flight_exited : (m : Link) (p : Publication) (o : Outcome)
    → (exited m p o).in_flight ≡ m.in_flight ++ flight_at p p.qos (flight_id p.qos (next_packet_id m) o)
flight_exited m p Allowed = flight_sent m p p.qos
flight_exited m p (Denied denial) =
    sym (ap (λ l. m.in_flight ++ l) (no_flight p p.qos) ∙ append-nil m.in_flight)

flights_if : (a b m : Link) (here : Bool) → a.in_flight ≡ m.in_flight → b.in_flight ≡ m.in_flight
    → (if here then a else b).in_flight ≡ m.in_flight
flights_if a b m true first second = first
flights_if a b m false first second = second

flights_after : (policy : Policy) (m : Link) (items : List Item)
    → (link_after m items (exits_of policy items)).in_flight
    ≡ m.in_flight ++ flights items (plan_of policy m items)
flights_after policy m [] = sym (append-nil m.in_flight)
flights_after policy m (item.Publish p ∷ items) =
    let o = exit policy p.origin p.name in
    let out = flight_at p p.qos (flight_id p.qos (next_packet_id m) o) in
    let more = flights items (plan_of policy (exited m p o) items) in
    flights_after policy (exited m p o) items ∙ ap (λ l. l ++ more) (flight_exited m p o)
    ∙ append_assoc m.in_flight out more
flights_after policy m (item.Subscribe filter ∷ items) =
    flights_after policy (subscribe_left m filter) items
    ∙ ap (λ l. l ++ flights items (plan_of policy (subscribe_left m filter) items))
    (flights_if (subscribe_sent m filter) m m (wants m.wanted filter)
    (flights_if (record m { last = next_packet_id m; wanted = opened m.wanted filter (next_packet_id m) })
    (record m { wanted = owing m.wanted filter }) m (may_open m.wanted filter) refl refl) refl)
flights_after policy m (item.Unsubscribe filter ∷ items) =
    flights_after policy (unsubscribe_left m filter) items
    ∙ ap (λ l. l ++ flights items (plan_of policy (unsubscribe_left m filter) items))
    (flights_if m (unsubscribe_sent m) m (wants m.wanted filter) refl refl)
flights_after policy m (item.Acknowledge packet_id ∷ items) = flights_after policy m items
flights_after policy m (item.Ping ∷ items) = flights_after policy m items

-- a plan has a place for each item
planned_length : (policy : Policy) (m : Link) (items : List Item)
    → length (plan_of policy m items) ≡ length items
planned_length policy m [] = refl
planned_length policy m (first ∷ items) = ap suc (planned_length policy (item_left policy m first) items)

module _ (policy : Policy) (from : List Bool) (link : Link) (items : List Item) (outs : List Out)
    (log : List Step) (n : Numbering) (wanted : List Wanted) where
  log_is : Planned policy from link items [] outs log n wanted → log ≡ plan_of policy link items
  log_is planned = sym (append-nil log) ∙ planned.plan_left

  pub whole_plan : Planned policy from link items [] outs log n wanted → length log ≡ length items
  whole_plan planned = ap length (log_is planned) ∙ planned_length policy link items

  pub all_outs : Planned policy from link items [] outs log n wanted
      → outs ≡ leaving link items (exits_of policy items)
  all_outs planned = sym (append-nil outs) ∙ planned.outs_left

link_is : (a b : Link) → b.in_flight ≡ a.in_flight → b.last ≡ a.last → b.wanted ≡ a.wanted
    → b.pinged ≡ a.pinged → record b { waiting = [] } ≡ record a { waiting = [] }
link_is a b flights_are last_is wanted_is pinged_is = cc

-- the link once all left by the plan
pub link_taken : (policy : Policy) (from : List Bool) (s left : Sending) (n after : Numbering)
    (wanted later : List Wanted) (pinged : ℕ) (outs : List Out) (log : List Step)
    → Planned policy from (link_of s n wanted pinged) s.waiting [] outs log after later
    → left ≡ record { waiting = []; in_flight = s.in_flight ++ flights s.waiting log }
    → link_of left after later pinged
    ≡ record (link_after (link_of s n wanted pinged) s.waiting (exits_of policy s.waiting))
    { waiting = [] }
link_taken policy from s left n after wanted later pinged outs log planned is =
    let link = link_of s n wanted pinged in
    let end = link_after link s.waiting (exits_of policy s.waiting) in
    let now_is : planned.now ≡ end = planned.link_left in
    let all : s.in_flight ++ flights s.waiting log ≡ end.in_flight =
    ap (λ p. s.in_flight ++ flights s.waiting p)
    (log_is policy from link s.waiting outs log after later planned)
    ∙ sym (flights_after policy link s.waiting) in
    rw is
    (link_is end (link_of (record { waiting = []; in_flight = s.in_flight ++ flights s.waiting log }) after
    later pinged) all (planned.stands.last ∙ ap (λ (l : Link). l.last) now_is)
    (sym planned.stands.wanted_is ∙ ap (λ (l : Link). l.wanted) now_is)
    (sym planned.pinged ∙ ap (λ (l : Link). l.pinged) now_is))

-- and the marks of its packet ids
pub marked_taken : (policy : Policy) (from : List Bool) (s left : Sending) (n after : Numbering)
    (wanted later : List Wanted) (outs : List Out) (log : List Step)
    → Planned policy from (link_of s n wanted 0) s.waiting [] outs log after later
    → left ≡ record { waiting = []; in_flight = s.in_flight ++ flights s.waiting log }
    → AreMarked (ids_in_use left.in_flight later) after.marks
marked_taken policy from s left n after wanted later outs log planned is =
    let flights_are : planned.now.in_flight ≡ left.in_flight =
    ap (λ (l : Link). l.in_flight) planned.link_left
    ∙ sym (ap (λ (l : Link). l.in_flight)
    (link_taken policy from s left n after wanted later 0 outs log planned is)) in
    rw (← flights_are, ← planned.stands.wanted_is) planned.stands.marked

pub closed_taken : (policy : Policy) (from : List Bool) (link : Link) (items others : List Item)
    (outs : List Out) (log : List Step) (n : Numbering) (wanted : List Wanted)
    → Planned policy from link items others outs log n wanted → OwedAreClosed wanted
closed_taken policy from link items others outs log n wanted planned =
    subst (λ w. OwedAreClosed w) planned.stands.wanted_is planned.stands.closed

-- of ids that are apart the first ones are
pub distinct_left : (a b : List ℕ) → AreDistinct (a ++ b) → AreDistinct a
distinct_left [] b distinct = tt
distinct_left (id ∷ a) b distinct =
    ((unused_both a b id distinct.0).0, distinct_left a b distinct.1)

-- the packet ids in flight are apart once all left
pub distinct_taken : (policy : Policy) (from : List Bool) (s : Sending) (n after : Numbering)
    (wanted later : List Wanted) (outs : List Out) (log : List Step)
    → Planned policy from (link_of s n wanted 0) s.waiting [] outs log after later
    → AreDistinct (ids_of (s.in_flight ++ flights s.waiting log))
distinct_taken policy from s n after wanted later outs log planned =
    let left : Sending = record { waiting = []; in_flight = s.in_flight ++ flights s.waiting log } in
    distinct_left (ids_of (s.in_flight ++ flights s.waiting log)) (open_ids later)
    (marked_taken policy from s left n after wanted later outs log planned refl).distinct

pub in_flight_ids : (f : List InFlight) (id : ℕ) → is_in_flight f id ≡ is_used (ids_of f) id
in_flight_ids [] id = refl
in_flight_ids (sent ∷ f) id = ap (λ b. (sent.packet_id == id) || b) (in_flight_ids f id)

-- one that comes last has a packet id that none of the others has
pub last_new : (f : List InFlight) (sent : InFlight) → AreDistinct (ids_of (f ++ sent ∷ []))
    → is_in_flight f sent.packet_id ≡ false
last_new f sent distinct =
    let ids : ids_of (f ++ sent ∷ []) ≡ ids_of f ++ sent.packet_id ∷ [] =
    map-append (λ (x : InFlight). x.packet_id) f (sent ∷ []) in
    let apart = (distinct_less (ids_of f) [] sent.packet_id (rw ids at distinct)).0 in
    in_flight_ids f sent.packet_id ∙ (rw (append-nil (ids_of f)) at apart)

-- the list by its first item
pub first_of : (items : List Item) (first : Item) → slice_get items 0 ≡ Some first
    → items ≡ first ∷ drop 1 items
first_of [] first is = absurd (cc)
first_of (item ∷ items) first is = cc

-- so the next one of those that leave is new
pub next_distinct : (all before rest more : List InFlight) → AreDistinct (ids_of all)
    → before ++ (rest ++ more) ≡ all → AreDistinct (ids_of (before ++ rest))
next_distinct all before rest more distinct is =
    let whole : (before ++ rest) ++ more ≡ all = append_assoc before rest more ∙ is in
    let ids : ids_of all ≡ ids_of (before ++ rest) ++ ids_of more =
    ap ids_of (sym whole) ∙ map-append (λ (x : InFlight). x.packet_id) (before ++ rest) more in
    distinct_left (ids_of (before ++ rest)) (ids_of more) (rw ids at distinct)
