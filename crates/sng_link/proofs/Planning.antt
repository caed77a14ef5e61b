-- How one more item leaves by a plan.
use Rattle.std.proofs.Common.{◌≡◌, ℕ, ◌+◌, ◌≤◌, Bool, true, false, List, [], ◌∷◌, ◌++◌, length, set, cond}
use Rattle.std.proofs.Common.{if◌then◌else◌, refl, sym, ◌∙◌, ap, subst, arith}
use Rattle.std.specs.Prelude.{Option, Some, None, reverse}
use Rattle.std.specs.List.{count_by, list_any, filter}
use Rattle.std.proofs.lemmas.List.{append_assoc, map-append, length-map, length-append, reverse-append}
use Rattle.std.proofs.lemmas.List.{set-get_or}
use Rattle.sng_text.specs.declared.qos.Qos.{Qos}
use Rattle.sng_text.specs.declared.qos.Qos.TheVariants.{AtMostOnce, AtLeastOnce}
use Rattle.sng_grants.specs.declared.policy.Policy.{Policy}
use Rattle.sng_outbox.specs.PacketIds.{Numbering, is_used, is_marked, next_id}
use Rattle.sng_outbox.specs.Sending.{asks_for_ack, is_at_least_once}
use Rattle.sng_grants.specs.declared.limits.TheConstants.{MAX_FLIGHT}
use Rattle.sng_outbox.specs.declared.in_flight.InFlight.{InFlight}
use Rattle.sng_outbox.specs.declared.item.Item.{Item}
use Rattle.sng_outbox.specs.declared.item.Item.TheVariants as item
use Rattle.sng_outbox.specs.declared.item.Publication.{Publication}
use Rattle.sng_outbox.proofs.IdLemmas.{next_free}
use Rattle.sng_outbox.proofs.LoadLemmas.{counted-front}
use Rattle.sng_book.specs.declared.outcome.Outcome.{Outcome}
use Rattle.sng_book.specs.declared.outcome.Outcome.TheVariants.{Allowed, Denied}
use Rattle.sng_book.specs.declared.out.Out.{Out}
use Rattle.sng_history.specs.Links.{Link, Wanted, wants, may_open, opened, owing, open_ids, next_packet_id}
use Rattle.sng_history.specs.Links.{packet_id_by, sent_by, exited, subscribe_sent}
use Rattle.sng_history.specs.Links.{unsubscribe_sent, is_open, link_after}
use Rattle.sng_history.specs.declared.limits.TheConstants.{MAX_OPEN_SUBSCRIBES}
use Rattle.sng_history.specs.Exits.{exits_of, forwarded, leaving}
use Rattle.sng_history.specs.Verdicts.{exit}
use Rattle.sng_history.proofs.FewOpen.{sent_open}
use Rattle.sng_wanted.specs.Filters.{id_for, owed_for, WantedRoom}
use Rattle.sng_link.specs.Flights.{ids_of, ids_in_use, AreMarked}
use Rattle.sng_link.specs.Steps.{forth_marks, back_marks, back_wanted, undone_marks, undone_wanted, IsBack}
use Rattle.sng_link.specs.Steps.{CanUndo, Logged}
use Rattle.sng_link.specs.Taking.{IsNext, id_at, flight_id, no_step, step_under, open_step, owe_step}
use Rattle.sng_link.specs.Taking.{subscribe_step, item_outs, item_step, numbered}
use Rattle.sng_link.specs.Taking.{wanted_after, item_left, plan_of, NextIsFree, LeftBy, Stands, Planned}
use Rattle.sng_link.specs.declared.step.Step.{Step}
use Rattle.sng_link.proofs.Marks.{one_between, back_forth, unused_both, used_right, AmongThem}
use Rattle.sng_link.proofs.Wanting.{back_same, back_opened, back_owing, opened_marked, opened_once}
use Rattle.sng_link.proofs.Wanting.{opened_closed, owing_closed, owing_ids, owing_once, owing_same}
use Rattle.sng_link.proofs.Wanting.{free_former, fresh_open, id_among}

-- one step more, which can be taken back
pub logged_more : (from : List Bool) (first : List Wanted) (log : List Step) (marks now : List Bool)
    (wanted later : List Wanted) (step : Step) → Logged from first log marks wanted
    → IsBack later step.packet_id step.former → back_marks now step ≡ marks → back_wanted later step ≡ wanted
    → Logged from first (log ++ step ∷ []) now later
logged_more from first log marks now wanted later step before back marks_are wanted_is =
    let newest : reverse (log ++ step ∷ []) ≡ step ∷ reverse log = reverse-append log (step ∷ []) in
    record {
      can =
          subst (λ l. CanUndo later l) (sym newest)
          (back, subst (λ w. CanUndo w (reverse log)) (sym wanted_is) before.can);
      marks_back =
          ap (λ l. undone_marks now l) newest ∙ ap (λ m. undone_marks m (reverse log)) marks_are
          ∙ before.marks_back;
      wanted_back =
          ap (λ l. undone_wanted later l) newest ∙ ap (λ w. undone_wanted w (reverse log)) wanted_is
          ∙ before.wanted_back;
    }

-- so few ids are in use that one is free
few_ids : (m : Link) → length m.in_flight ≤ MAX_FLIGHT → length (open_ids m.wanted) ≤ MAX_OPEN_SUBSCRIBES
    → length (ids_in_use m.in_flight m.wanted) ≤ 65534
few_ids m few most =
    let counted = length-map m.in_flight (λ (sent : InFlight). sent.packet_id) in
    let longer = length-append (ids_of m.in_flight) (open_ids m.wanted) in
    omega (arith, counted, longer, few, most)

pub next_is : (m : Link) (n : Numbering) (next : ℕ) → IsNext n next
    → AreMarked (ids_in_use m.in_flight m.wanted) n.marks → n.last ≡ m.last
    → length m.in_flight ≤ MAX_FLIGHT → length (open_ids m.wanted) ≤ MAX_OPEN_SUBSCRIBES
    → next ≡ next_packet_id m
next_is m n next follows marked last few most =
    follows (ids_in_use m.in_flight m.wanted) (few_ids m few most) marked.marked
    ∙ ap (λ l. next_id (ids_in_use m.in_flight m.wanted) l) last

pub next_fresh : (m : Link) (n : Numbering) (next : ℕ) → IsNext n next
    → AreMarked (ids_in_use m.in_flight m.wanted) n.marks → n.last ≤ 65535
    → length m.in_flight ≤ MAX_FLIGHT → length (open_ids m.wanted) ≤ MAX_OPEN_SUBSCRIBES
    → is_used (ids_in_use m.in_flight m.wanted) next ≡ false
next_fresh m n next follows marked small few most =
    let free = next_free (ids_in_use m.in_flight m.wanted) n.last (few_ids m few most) small in
    rw (follows (ids_in_use m.in_flight m.wanted) (few_ids m few most) marked.marked) free.2

module _ (from : List Bool) (start : List Wanted) (m : Link) (others : List Item) (log : List Step)
    (n : Numbering) where
  -- where fewer publishes are left
  room_left : (first : Item) → Stands from start (first ∷ others) log n m.wanted m
      → count_by asks_for_ack others + length m.in_flight ≤ MAX_FLIGHT
  room_left first stands =
      let fewer = counted-front first others in let room = stands.room in omega (arith, fewer, room)

  in_flight_few : (first : Item) → Stands from start (first ∷ others) log n m.wanted m
      → length m.in_flight ≤ MAX_FLIGHT
  in_flight_few first stands = let room = stands.room in omega (arith, room)

  -- nothing is taken into use
  pub stands_still : (first : Item) → Stands from start (first ∷ others) log n m.wanted m
      → Stands from start others (log ++ no_step ∷ []) n m.wanted m
  stands_still first stands = record {
    wanted_is = refl;
    once = stands.once;
    closed = stands.closed;
    few = stands.few;
    last = stands.last;
    small = stands.small;
    marked = stands.marked;
    room = room_left first stands;
    logged = logged_more from start log n.marks n.marks m.wanted m.wanted no_step stands.logged tt refl refl;
  }

  -- a publish is in flight
  pub stands_sent : (p : Publication) (next : ℕ) → asks_for_ack (item.Publish p) ≡ true → IsNext n next
      → next ≤ 65535 → Stands from start (item.Publish p ∷ others) log n m.wanted m
      → Stands from start others (log ++ step_under (Some next) ∷ [])
      (record { marks = set n.marks next true; last = next }) m.wanted (sent_by m p AtLeastOnce)
  stands_sent p next asks follows small stands =
      let room = stands.room in
      let few = in_flight_few (item.Publish p) stands in
      let fewer = counted-front (item.Publish p) others in
      let one : count_by asks_for_ack (item.Publish p ∷ others) ≡ 1 + count_by asks_for_ack others =
      fewer ∙ ap (λ b. cond b 1 0 + count_by asks_for_ack others) asks in
      let same = next_is m n next follows stands.marked stands.last few stands.few in
      let free = next_fresh m n next follows stands.marked stands.small few stands.few in
      let sent : List InFlight = record { packet_id = next_packet_id m; publication = p } ∷ [] in
      let longer = length-append m.in_flight sent in
      let ids : ids_in_use (m.in_flight ++ sent) m.wanted ≡ ids_of m.in_flight ++ next ∷ open_ids m.wanted =
      ap (λ l. l ++ open_ids m.wanted)
      (map-append (λ (s : InFlight). s.packet_id) m.in_flight sent
      ∙ ap (λ id. ids_of m.in_flight ++ id ∷ []) (sym same))
      ∙ append_assoc (ids_of m.in_flight) (next ∷ []) (open_ids m.wanted) in
      record {
        wanted_is = refl;
        once = stands.once;
        closed = stands.closed;
        few = stands.few;
        last = same;
        small = small;
        marked =
            rw ids (one_between (ids_of m.in_flight)
            (open_ids m.wanted) n.marks next small stands.marked free);
        room = omega (arith, room, one, longer);
        logged =
            logged_more from start log n.marks (set n.marks next true) m.wanted m.wanted
            (step_under (Some next)) stands.logged tt
            (back_forth (ids_in_use m.in_flight m.wanted) n.marks next None false small stands.marked.marked
            free tt)
            (back_same m.wanted next (unused_both (ids_of m.in_flight) (open_ids m.wanted) next free).1);
      }

  -- a SUBSCRIBE is open
  stands_opened : (filter : List ℕ) (next : ℕ) → wants m.wanted filter ≡ true
      → may_open m.wanted filter ≡ true → IsNext n next
      → next ≤ 65535 → Stands from start (item.Subscribe filter ∷ others) log n m.wanted m
      → Stands from start others (log ++ open_step m.wanted next filter ∷ [])
      (record { marks = forth_marks n.marks (open_step m.wanted next filter); last = next })
      (opened m.wanted filter next)
      (record m { last = next_packet_id m; wanted = opened m.wanted filter (next_packet_id m) })
  stands_opened filter next wanted may follows small stands =
      let few = in_flight_few (item.Subscribe filter) stands in
      let same = next_is m n next follows stands.marked stands.last few stands.few in
      let free = next_fresh m n next follows stands.marked stands.small few stands.few in
      let unopened = (unused_both (ids_of m.in_flight) (open_ids m.wanted) next free).1 in
      let step : Step = open_step m.wanted next filter in
      let now =
      opened_marked (ids_of m.in_flight) m.wanted filter next n.marks small wanted stands.once
      stands.marked free in
      let sent = sent_open m filter (record { once = stands.once; few = stands.few }) in
      let most : length (open_ids (opened m.wanted filter (next_packet_id m))) ≤ MAX_OPEN_SUBSCRIBES =
      (rw may at sent.few) in
      subst (λ k. Stands from start others
      (log ++ open_step m.wanted next filter ∷ [])
      (record { marks = forth_marks n.marks (open_step m.wanted next filter); last = next })
      (opened m.wanted filter next)
      (record m { last = k; wanted = opened m.wanted filter k })) same
      (record {
        wanted_is = refl;
        once = opened_once m.wanted filter next stands.once;
        closed = opened_closed m.wanted filter next stands.closed;
        few = rw (sym same) at most;
        last = refl;
        small = small;
        marked = now;
        room = room_left (item.Subscribe filter) stands;
        logged =
            logged_more from start log n.marks (forth_marks n.marks step) m.wanted
            (opened m.wanted filter next) step stands.logged
            (free_former (ids_of m.in_flight) (opened m.wanted filter next) (set n.marks next true)
            (id_for m.wanted filter) now)
            (back_forth (ids_in_use m.in_flight m.wanted) n.marks next
            (id_for m.wanted filter) (owed_for m.wanted filter) small stands.marked.marked free
            (among_all (ids_of m.in_flight) (open_ids m.wanted) (id_for m.wanted filter)
            (id_among m.wanted filter)))
            (back_opened m.wanted filter next stands.once unopened);
      })
    where
      among_all : (before ids : List ℕ) (former : Option ℕ) → AmongThem ids former
          → AmongThem (before ++ ids) former
      among_all before ids None there = tt
      among_all before ids (Some former) there = used_right before ids former there

  -- one that may not be open is owed
  stands_owed : (filter : List ℕ) (owed : Bool) → owed_for m.wanted filter ≡ owed
      → may_open m.wanted filter ≡ false
      → Stands from start (item.Subscribe filter ∷ others) log n m.wanted m
      → (let step : Step =
      if owed then no_step else record { packet_id = None; former = None; owed = false; owes = Some filter }
      in
      Stands from start others (log ++ step ∷ []) n (wanted_after m.wanted (item.Subscribe filter) step)
      (record m { wanted = owing m.wanted filter }))
  stands_owed filter true is shut stands =
      subst (λ w. Stands from start others (log ++ no_step ∷ []) n m.wanted (record m { wanted = w }))
      (sym (owing_same m.wanted filter stands.once is)) (stands_still (item.Subscribe filter) stands)
  stands_owed filter false is shut stands =
      let ids = owing_ids m.wanted filter in
      let step : Step = record { packet_id = None; former = None; owed = false; owes = Some filter } in
      record {
        wanted_is = refl;
        once = owing_once m.wanted filter stands.once;
        closed = owing_closed m.wanted filter shut stands.closed;
        few = rw ids stands.few;
        last = stands.last;
        small = stands.small;
        marked = rw ids stands.marked;
        room = room_left (item.Subscribe filter) stands;
        logged =
            logged_more from start log n.marks n.marks m.wanted (owing m.wanted filter) step
            stands.logged tt refl (back_owing m.wanted filter stands.once is);
      }

  -- an UNSUBSCRIBE uses its packet id up
  pub stands_passed : (filter : List ℕ) (next : ℕ) → IsNext n next → next ≤ 65535
      → Stands from start (item.Unsubscribe filter ∷ others) log n m.wanted m
      → Stands from start others (log ++ step_under (Some next) ∷ [])
      (record { marks = n.marks; last = next }) m.wanted (unsubscribe_sent m)
  stands_passed filter next follows small stands =
      let few = in_flight_few (item.Unsubscribe filter) stands in
      let same = next_is m n next follows stands.marked stands.last few stands.few in
      let free = next_fresh m n next follows stands.marked stands.small few stands.few in
      let off : is_marked n.marks next ≡ false = stands.marked.marked.same next ∙ free in
      record {
        wanted_is = refl;
        once = stands.once;
        closed = stands.closed;
        few = stands.few;
        last = same;
        small = small;
        marked = stands.marked;
        room = room_left (item.Unsubscribe filter) stands;
        logged =
            logged_more from start log n.marks n.marks m.wanted m.wanted
            (step_under (Some next)) stands.logged tt
            (ap (λ b. set n.marks next b) (sym off) ∙ set-get_or n.marks next false)
            (back_same m.wanted next (unused_both (ids_of m.in_flight) (open_ids m.wanted) next free).1);
      }

  -- the link once an item left, whatever it is
  abbrev pub StandsBy : Item → Step → Link → Type 0
  StandsBy first step now =
      Stands from start others (log ++ step ∷ []) (numbered n first step)
      (wanted_after m.wanted first step) now

  publish_at : (p : Publication) (q : Qos) (next : ℕ) → p.qos ≡ q → IsNext n next → next ≤ 65535
      → Stands from start (item.Publish p ∷ others) log n m.wanted m
      → StandsBy (item.Publish p) (step_under (id_at q next)) (sent_by m p q)
  publish_at p AtMostOnce next is follows small stands = stands_still (item.Publish p) stands
  publish_at p AtLeastOnce next is follows small stands =
      stands_sent p next (ap is_at_least_once is) follows small stands

  publish_by : (p : Publication) (o : Outcome) (next : ℕ) → IsNext n next → next ≤ 65535
      → Stands from start (item.Publish p ∷ others) log n m.wanted m
      → StandsBy (item.Publish p) (step_under (flight_id p.qos next o)) (exited m p o)
  publish_by p Allowed next follows small stands = publish_at p p.qos next refl follows small stands
  publish_by p (Denied denial) next follows small stands = stands_still (item.Publish p) stands

  opened_by : (filter : List ℕ) (next : ℕ) (may : Bool) → may_open m.wanted filter ≡ may
      → wants m.wanted filter ≡ true → IsNext n next → next ≤ 65535
      → Stands from start (item.Subscribe filter ∷ others) log n m.wanted m
      → StandsBy (item.Subscribe filter)
      (if may then open_step m.wanted next filter else owe_step m.wanted filter)
      (if may then record m { last = next_packet_id m; wanted = opened m.wanted filter (next_packet_id m) }
      else record m { wanted = owing m.wanted filter })
  opened_by filter next true is wanted follows small stands =
      stands_opened filter next wanted is follows small stands
  opened_by filter next false is wanted follows small stands =
      owed_by filter (owed_for m.wanted filter) (stands_owed filter (owed_for m.wanted filter) refl is stands)
    where
      owed_by : (filter : List ℕ) (owed : Bool)
          → (let step : Step =
          if owed then no_step
          else record { packet_id = None; former = None; owed = false; owes = Some filter } in
          Stands from start others (log ++ step ∷ []) n (wanted_after m.wanted (item.Subscribe filter) step)
          (record m { wanted = owing m.wanted filter }))
          → StandsBy (item.Subscribe filter)
          (if owed then no_step
          else record { packet_id = None; former = None; owed = false; owes = Some filter })
          (record m { wanted = owing m.wanted filter })
      owed_by filter true stands = stands
      owed_by filter false stands = stands

  subscribe_by : (filter : List ℕ) (next : ℕ) (here : Bool) → wants m.wanted filter ≡ here → IsNext n next
      → next ≤ 65535 → Stands from start (item.Subscribe filter ∷ others) log n m.wanted m
      → StandsBy (item.Subscribe filter)
      (if here then subscribe_step m.wanted next filter else no_step)
      (if here then subscribe_sent m filter else m)
  subscribe_by filter next true is follows small stands =
      opened_by filter next (may_open m.wanted filter) refl is follows small stands
  subscribe_by filter next false is follows small stands = stands_still (item.Subscribe filter) stands

  unsubscribe_by : (filter : List ℕ) (next : ℕ) (here : Bool) → IsNext n next → next ≤ 65535
      → Stands from start (item.Unsubscribe filter ∷ others) log n m.wanted m
      → StandsBy (item.Unsubscribe filter) (if here then no_step else step_under (Some next))
      (if here then m else unsubscribe_sent m)
  unsubscribe_by filter next true follows small stands = stands_still (item.Unsubscribe filter) stands
  unsubscribe_by filter next false follows small stands = stands_passed filter next follows small stands

  pub stands_more : (policy : Policy) (first : Item) (next : ℕ) → IsNext n next → next ≤ 65535
      → Stands from start (first ∷ others) log n m.wanted m
      → StandsBy first (item_step policy m.wanted next first) (item_left policy m first)
  stands_more policy (item.Publish p) next follows small stands =
      publish_by p (exit policy p.origin p.name) next follows small stands
  stands_more policy (item.Subscribe filter) next follows small stands =
      subscribe_by filter next (wants m.wanted filter) refl follows small stands
  stands_more policy (item.Unsubscribe filter) next follows small stands =
      unsubscribe_by filter next (wants m.wanted filter) follows small stands
  stands_more policy (item.Acknowledge packet_id) next follows small stands =
      stands_still (item.Acknowledge packet_id) stands
  stands_more policy item.Ping next follows small stands = stands_still item.Ping stands

ids_alike : (m : Link) (q : Qos) → packet_id_by m q ≡ id_at q (next_packet_id m)
ids_alike m AtMostOnce = refl
ids_alike m AtLeastOnce = refl

-- what the first of the items lets out
pub leaving_first : (policy : Policy) (m : Link) (first : Item) (others : List Item)
    → leaving m (first ∷ others) (exits_of policy (first ∷ others))
    ≡ item_outs policy m.wanted (next_packet_id m) first
    ++ leaving (item_left policy m first) others (exits_of policy others)
leaving_first policy m (item.Publish p) others =
    let o = exit policy p.origin p.name in
    ap (λ k. forwarded p k o ++ leaving (exited m p o) others (exits_of policy others)) (ids_alike m p.qos)
leaving_first policy m (item.Subscribe filter) others = refl
leaving_first policy m (item.Unsubscribe filter) others = refl
leaving_first policy m (item.Acknowledge packet_id) others = refl
leaving_first policy m item.Ping others = refl

pub link_first : (policy : Policy) (m : Link) (first : Item) (others : List Item)
    → link_after m (first ∷ others) (exits_of policy (first ∷ others))
    ≡ link_after (item_left policy m first) others (exits_of policy others)
link_first policy m (item.Publish p) others = refl
link_first policy m (item.Subscribe filter) others = refl
link_first policy m (item.Unsubscribe filter) others = refl
link_first policy m (item.Acknowledge packet_id) others = refl
link_first policy m item.Ping others = refl

pinged_sent : (m : Link) (p : Publication) (q : Qos) → (sent_by m p q).pinged ≡ m.pinged
pinged_sent m p AtMostOnce = refl
pinged_sent m p AtLeastOnce = refl

pinged_exited : (m : Link) (p : Publication) (o : Outcome) → (exited m p o).pinged ≡ m.pinged
pinged_exited m p Allowed = pinged_sent m p p.qos
pinged_exited m p (Denied denial) = refl

pinged_if : (m a b : Link) (here : Bool) → a.pinged ≡ m.pinged → b.pinged ≡ m.pinged
    → (if here then a else b).pinged ≡ m.pinged
pinged_if m a b true first second = first
pinged_if m a b false first second = second

pinged_left : (policy : Policy) (m : Link) (first : Item) → (item_left policy m first).pinged ≡ m.pinged
pinged_left policy m (item.Publish p) = pinged_exited m p (exit policy p.origin p.name)
pinged_left policy m (item.Subscribe filter) =
    pinged_if m (subscribe_sent m filter) m (wants m.wanted filter)
    (pinged_if m (record m { last = next_packet_id m; wanted = opened m.wanted filter (next_packet_id m) })
    (record m { wanted = owing m.wanted filter }) (may_open m.wanted filter) refl refl) refl
pinged_left policy m (item.Unsubscribe filter) =
    pinged_if m m (unsubscribe_sent m) (wants m.wanted filter) refl refl
pinged_left policy m (item.Acknowledge packet_id) = refl
pinged_left policy m item.Ping = refl

planned_more : (policy : Policy) (from : List Bool) (link : Link) (items : List Item) (first : Item)
    (others : List Item) (outs : List Out) (log : List Step) (n : Numbering) (wanted : List Wanted) (next : ℕ)
    → IsNext n next → next ≤ 65535 → Planned policy from link items (first ∷ others) outs log n wanted
    → Planned policy from link items others (outs ++ item_outs policy wanted next first)
    (log ++ item_step policy wanted next first ∷ [])
    (numbered n first (item_step policy wanted next first))
    (wanted_after wanted first (item_step policy wanted next first))
planned_more policy from link items first others outs log n wanted next follows small before =
    let m = before.now in
    let stands : Stands from link.wanted (first ∷ others) log n m.wanted m =
    subst (λ w. Stands from link.wanted (first ∷ others) log n w before.now)
    (sym before.stands.wanted_is) before.stands in
    let room = stands.room in
    let few : length m.in_flight ≤ MAX_FLIGHT = omega (arith, room) in
    let same : next ≡ next_packet_id m = next_is m n next follows stands.marked stands.last few stands.few in
    subst (λ w. Planned policy from link items others (outs ++ item_outs policy w next first)
    (log ++ item_step policy w next first ∷ []) (numbered n first (item_step policy w next first))
    (wanted_after w first (item_step policy w next first))) before.stands.wanted_is
    (record {
      now = item_left policy m first;
      stands = stands_more from link.wanted m others log n policy first next follows small stands;
      pinged = pinged_left policy m first ∙ before.pinged;
      outs_left =
          append_assoc outs (item_outs policy m.wanted next first)
          (leaving (item_left policy m first) others (exits_of policy others))
          ∙ ap (λ k. outs ++ (item_outs policy m.wanted k first
          ++ leaving (item_left policy m first) others (exits_of policy others))) same
          ∙ ap (λ l. outs ++ l) (sym (leaving_first policy m first others)) ∙ before.outs_left;
      link_left = sym (link_first policy m first others) ∙ before.link_left;
      plan_left =
          append_assoc log (item_step policy m.wanted next first ∷ [])
          (plan_of policy (item_left policy m first) others)
          ∙ ap (λ k. log ++ (item_step policy m.wanted k first
          ∷ plan_of policy (item_left policy m first) others)) same ∙ before.plan_left;
    })

-- nothing left yet
pub planned_first : (policy : Policy) (from : List Bool) (link : Link) (items : List Item) (log : List Step)
    (n : Numbering) (wanted : List Wanted) → Stands from link.wanted items [] n wanted link → log ≡ []
    → Planned policy from link items items [] log n wanted
planned_first policy from link items log n wanted stands no_log = rw no_log (record {
  now = link;
  stands = stands;
  pinged = refl;
  outs_left = refl;
  link_left = refl;
  plan_left = refl;
})

-- the same in the words of the code
pub planned_step : (policy : Policy) (from : List Bool) (link : Link) (items : List Item) (first : Item)
    (others left : List Item) (base outs outs_then more : List Out) (log log_then : List Step)
    (n then_n : Numbering) (w later : WantedRoom)
    → outs ≡ base ++ more → Planned policy from link items left more log n w.wanted
    → left ≡ first ∷ others → LeftBy policy first outs outs_then log log_then n then_n w later
    → (all : List Out) × (outs_then ≡ base ++ all)
    × Planned policy from link items others all log_then then_n later.wanted
planned_step policy from link items first others left base outs outs_then more log log_then n then_n w later
    outs_is before left_is gone = (
      more ++ item_outs policy w.wanted gone.next first,
      gone.outs_are ∙ ap (λ l. l ++ item_outs policy w.wanted gone.next first) outs_is
          ∙ append_assoc base more (item_outs policy w.wanted gone.next first),
      rw (gone.log_is, gone.ids_are, gone.wanted_is)
          (planned_more policy from link items first others more log n w.wanted gone.next gone.follows
          gone.small (rw left_is at before)),
    )

pub planned_logged : (policy : Policy) (from : List Bool) (link : Link) (items others : List Item)
    (outs : List Out) (log : List Step) (n : Numbering) (wanted : List Wanted)
    → Planned policy from link items others outs log n wanted → Logged from link.wanted log n.marks wanted
planned_logged policy from link items others outs log n wanted planned =
    subst (λ w. Logged from link.wanted log n.marks w) planned.stands.wanted_is planned.stands.logged

-- the next packet id is open for none
pub stands_free : (from : List Bool) (first : List Wanted) (others : List Item) (log : List Step)
    (n : Numbering) (wanted : List Wanted) (now : Link) → Stands from first others log n wanted now
    → NextIsFree n wanted
stands_free from first others log n wanted now stands next follows =
    let room = stands.room in
    let few : length now.in_flight ≤ MAX_FLIGHT = omega (arith, room) in
    let free : is_used (ids_in_use now.in_flight now.wanted) next ≡ false =
    next_fresh now n next follows stands.marked stands.small few stands.few in
    subst (λ w. list_any (is_open next) w ≡ false) stands.wanted_is
    (fresh_open (ids_of now.in_flight) now.wanted next free)
