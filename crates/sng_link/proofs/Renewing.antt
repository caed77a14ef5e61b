-- How SUBSCRIBEs alone leave: of the filters of which one is owed, and of all as a connection begins, once the
-- packet ids of publishes that are denied are free.
use Rattle.std.proofs.Common.{◌≡◌, ℕ, ◌≤◌, Bool, true, false, ◌||◌, List, [], ◌∷◌, ◌++◌, length, map, set}
use Rattle.std.proofs.Common.{if◌then◌else◌, refl, sym, ◌∙◌, ap, subst, arith}
use Rattle.std.specs.Prelude.{Some, None, Result, Ok, Err, OnErr}
use Rattle.std.specs.List.{count_by}
use Rattle.std.proofs.lemmas.List.{append_assoc, append-nil}
use Rattle.std.proofs.lemmas.Slice.Eq.{bytes_eq-Decides}
use Rattle.sng_grants.specs.declared.limits.TheConstants.{MAX_FLIGHT}
use Rattle.sng_grants.specs.declared.policy.Policy.{Policy}
use Rattle.sng_outbox.specs.PacketIds.{Numbering}
use Rattle.sng_outbox.specs.Sending.{Sending, asks_for_ack, load}
use Rattle.sng_outbox.specs.declared.in_flight.InFlight.{InFlight}
use Rattle.sng_outbox.specs.declared.item.Item.{Item}
use Rattle.sng_outbox.specs.declared.item.Item.TheVariants as item
use Rattle.sng_outbox.proofs.MarkLemmas.{undone}
use Rattle.sng_book.specs.Denials.{is_allowed}
use Rattle.sng_book.specs.declared.out.Out.{Out}
use Rattle.sng_book.specs.declared.outcome.Outcome.{Outcome}
use Rattle.sng_book.specs.declared.outcome.Outcome.TheVariants.{Allowed, Denied}
use Rattle.sng_history.specs.declared.limits.TheConstants.{MAX_OPEN_SUBSCRIBES}
use Rattle.sng_history.specs.Good.{WantedOnce}
use Rattle.sng_history.specs.Exits.{agains_of, exits_of, leaving, subscribe_out, subscribing}
use Rattle.sng_history.specs.Links.{Link, Wanted, wants, may_open, opened, owing, is_filter_of, open_ids}
use Rattle.sng_history.specs.Links.{still_in_flight, resumed, next_packet_id, subscribe_sent, subscribe_left}
use Rattle.sng_history.specs.Links.{subscribes_sent, link_after, outgoing, filters_owed}
use Rattle.sng_wanted.specs.Filters.{WantedRoom}
use Rattle.sng_link.specs.Flights.{link_of, ids_of, ids_in_use, AreMarked, OwedAreClosed}
use Rattle.sng_link.specs.Resending.{staying, denied_steps, freed_all, AllWanted}
use Rattle.sng_link.specs.Steps.{Logged}
use Rattle.sng_link.specs.Taking.{IsNext, item_outs, item_step, numbered, wanted_after, numbered_at}
use Rattle.sng_link.specs.Taking.{LeftBy, Stands, Subscribed}
use Rattle.sng_link.specs.declared.step.Step.{Step}
use Rattle.sng_link.proofs.Marks.{one_less, among, or_true}
use Rattle.sng_link.proofs.Parting.{staying_allowed}
use Rattle.sng_link.proofs.Planning.{logged_more, next_is, stands_more, leaving_first, link_first}
use Rattle.sng_link.proofs.Wanting.{opened_wants, owing_wants}

-- the packet ids of those that do not stay are free
pub denied_marked : (before : List ℕ) (flights : List InFlight) (stays : List Bool) (rest : List ℕ)
    (marks : List Bool) → AreMarked (before ++ (ids_of flights ++ rest)) marks
    → AreMarked (before ++ (ids_of (staying flights stays) ++ rest))
    (freed_all marks (denied_steps flights stays))
denied_marked before [] stays rest marks are = are
denied_marked before (sent ∷ flights) [] rest marks are = are
denied_marked before (sent ∷ flights) (true ∷ stays) rest marks are =
    rw (← append_assoc before (sent.packet_id ∷ []) (ids_of (staying flights stays) ++ rest))
    (denied_marked (before ++ sent.packet_id ∷ []) flights stays rest marks
    (rw (append_assoc before (sent.packet_id ∷ []) (ids_of flights ++ rest)) are))
denied_marked before (sent ∷ flights) (false ∷ stays) rest marks are =
    denied_marked before flights stays rest (set marks sent.packet_id false)
    (one_less before (ids_of flights ++ rest) marks sent.packet_id are)

-- and that can be taken back
pub denied_logged : (from : List Bool) (first : List Wanted) (log : List Step) (before : List ℕ)
    (flights : List InFlight) (stays : List Bool) (rest : List ℕ) (marks : List Bool) (wanted : List Wanted)
    → AreMarked (before ++ (ids_of flights ++ rest)) marks → Logged from first log marks wanted
    → Logged from first (log ++ denied_steps flights stays)
    (freed_all marks (denied_steps flights stays)) wanted
denied_logged from first log before [] stays rest marks wanted are logged = rw (append-nil log) logged
denied_logged from first log before (sent ∷ flights) [] rest marks wanted are logged =
    rw (append-nil log) logged
denied_logged from first log before (sent ∷ flights) (true ∷ stays) rest marks wanted are logged =
    denied_logged from first log (before ++ sent.packet_id ∷ []) flights stays rest marks wanted
    (rw (append_assoc before (sent.packet_id ∷ []) (ids_of flights ++ rest)) are) logged
denied_logged from first log before (sent ∷ flights) (false ∷ stays) rest marks wanted are logged =
    let step : Step =
    record { packet_id = None; former = Some sent.packet_id; owed = false; owes = None } in
    let back = ap (λ (n : Numbering). n.marks)
    (undone (before ++ sent.packet_id ∷ (ids_of flights ++ rest))
    (record { marks = marks; last = 0 }) sent.packet_id false are.marked
    (among before (ids_of flights ++ rest) sent.packet_id)) in
    let more =
    logged_more from first log marks
    (set marks sent.packet_id false) wanted wanted step logged tt back refl in
    let later =
    denied_logged from first (log ++ step ∷ []) before flights stays rest
    (set marks sent.packet_id false) wanted
    (one_less before (ids_of flights ++ rest) marks sent.packet_id are) more in
    rw (← append_assoc log (step ∷ []) (denied_steps flights stays)) later

-- what holds in any case holds of a call that failed
pub on_err : {A B : Type 0} (r : Result A B) (P : Type 0) → P → OnErr r P
on_err (Ok x) P holds = tt
on_err (Err e) P holds = holds

-- ---- SUBSCRIBEs leave

-- the link is where its packet ids and filters are
at_same : (link : Link) (n : Numbering) (wanted : List Wanted) → n.last ≡ link.last → link.wanted ≡ wanted
    → link ≡ numbered_at link n wanted
at_same link n wanted last is = rw (last, ← is) refl

pub subscribed_first : (policy : Policy) (from : List Bool) (first : List Wanted) (link : Link)
    (items : List Item) (log : List Step) (n : Numbering) (wanted : List Wanted)
    → Stands from first items log n wanted link
    → Subscribed policy from first link items items [] log n wanted
subscribed_first policy from first link items log n wanted stands =
    let same = at_same link n wanted stands.last stands.wanted_is in
    record {
      stands = subst (λ l. Stands from first items log n wanted l) same stands;
      outs_left = ap (λ l. leaving l items (exits_of policy items)) (sym same);
      link_left = ap (λ l. link_after l items (exits_of policy items)) (sym same);
    }

-- a SUBSCRIBE changes the packet id that was used last, and the filters
left_by : (m a b : Link) (here may : Bool) (n : Numbering) (wanted : List Wanted)
    → a ≡ record m { last = a.last; wanted = a.wanted } → b ≡ record m { last = b.last; wanted = b.wanted }
    → (let now : Link = if here then (if may then a else b) else m in
    n.last ≡ now.last → now.wanted ≡ wanted → now ≡ numbered_at m n wanted)
left_by m a b true true n wanted a_is b_is last is =
    a_is ∙ ap (λ l. record m { last = l; wanted = a.wanted }) (sym last)
    ∙ ap (λ w. record m { last = n.last; wanted = w }) is
left_by m a b true false n wanted a_is b_is last is =
    b_is ∙ ap (λ l. record m { last = l; wanted = b.wanted }) (sym last)
    ∙ ap (λ w. record m { last = n.last; wanted = w }) is
left_by m a b false may n wanted a_is b_is last is = at_same m n wanted last is

left_at : (m : Link) (filter : List ℕ) (n : Numbering) (wanted : List Wanted)
    → n.last ≡ (subscribe_left m filter).last → (subscribe_left m filter).wanted ≡ wanted
    → subscribe_left m filter ≡ numbered_at m n wanted
left_at m filter n wanted last is =
    left_by m (record m { last = next_packet_id m; wanted = opened m.wanted filter (next_packet_id m) })
    (record m { wanted = owing m.wanted filter }) (wants m.wanted filter) (may_open m.wanted filter) n wanted
    refl refl last is

-- one more leaves
subscribed_more : (policy : Policy) (from : List Bool) (first : List Wanted) (link : Link)
    (items : List Item) (filter : List ℕ) (others : List Item) (outs : List Out) (log : List Step)
    (n : Numbering) (wanted : List Wanted) (next : ℕ) → IsNext n next → next ≤ 65535
    → Subscribed policy from first link items (item.Subscribe filter ∷ others) outs log n wanted
    → (let step : Step = item_step policy wanted next (item.Subscribe filter) in
    Subscribed policy from first link items others
    (outs ++ item_outs policy wanted next (item.Subscribe filter)) (log ++ step ∷ [])
    (numbered n (item.Subscribe filter) step) (wanted_after wanted (item.Subscribe filter) step))
subscribed_more policy from first link items filter others outs log n wanted next follows small before =
    let m : Link = numbered_at link n wanted in
    let one : Item = item.Subscribe filter in
    let step : Step = item_step policy wanted next one in
    let later = wanted_after wanted one step in
    let stands = before.stands in
    let room = stands.room in
    let few : length m.in_flight ≤ MAX_FLIGHT = omega (arith, room) in
    let same : next ≡ next_packet_id m = next_is m n next follows stands.marked stands.last few stands.few in
    let now : Stands from first others (log ++ step ∷ []) (numbered n one step) later
    (subscribe_left m filter) =
    stands_more from first m others log n policy one next follows small stands in
    let at : subscribe_left m filter ≡ numbered_at link (numbered n one step) later =
    left_at m filter (numbered n one step) later now.last now.wanted_is in
    record {
      stands = subst (λ l. Stands from first others (log ++ step ∷ []) (numbered n one step) later l) at now;
      outs_left =
          ap (λ l. (outs ++ item_outs policy wanted next one) ++ leaving l others (exits_of policy others)) (sym at)
          ∙ append_assoc outs (item_outs policy wanted next one)
          (leaving (subscribe_left m filter) others (exits_of policy others))
          ∙ ap (λ k. outs ++ (item_outs policy wanted k one
          ++ leaving (subscribe_left m filter) others (exits_of policy others))) same
          ∙ ap (λ l. outs ++ l) (sym (leaving_first policy m one others)) ∙ before.outs_left;
      link_left =
          ap (λ l. link_after l others (exits_of policy others)) (sym at)
          ∙ sym (link_first policy m one others) ∙ before.link_left;
    }

-- the same in the words of the code
pub subscribed_step : (policy : Policy) (from : List Bool) (first : List Wanted) (link : Link)
    (items : List Item) (filter : List ℕ) (others left : List Item) (base outs outs_then more : List Out)
    (log log_then : List Step) (n then_n : Numbering) (w later : WantedRoom)
    → outs ≡ base ++ more → Subscribed policy from first link items left more log n w.wanted
    → left ≡ item.Subscribe filter ∷ others
    → LeftBy policy (item.Subscribe filter) outs outs_then log log_then n then_n w later
    → (all : List Out) × (outs_then ≡ base ++ all)
    × Subscribed policy from first link items others all log_then then_n later.wanted
subscribed_step policy from first link items filter others left base outs outs_then more log log_then n then_n w
    later outs_is before left_is gone =
    let one : Item = item.Subscribe filter in (
      more ++ item_outs policy w.wanted gone.next one,
      gone.outs_are ∙ ap (λ l. l ++ item_outs policy w.wanted gone.next one) outs_is
          ∙ append_assoc base more (item_outs policy w.wanted gone.next one),
      rw (gone.log_is, gone.ids_are, gone.wanted_is)
          (subscribed_more policy from first link items filter others more log n w.wanted gone.next
          gone.follows gone.small (rw left_is at before)),
    )

pub subscribed_logged : (policy : Policy) (from : List Bool) (first : List Wanted) (link : Link)
    (items others : List Item) (outs : List Out) (log : List Step) (n : Numbering) (wanted : List Wanted)
    → Subscribed policy from first link items others outs log n wanted → Logged from first log n.marks wanted
subscribed_logged policy from first link items others outs log n wanted before = before.stands.logged

-- what left is no more to be taken back
pub stands_anew : (from : List Bool) (first : List Wanted) (others : List Item) (log : List Step)
    (n : Numbering) (wanted : List Wanted) (now : Link) → Stands from first others log n wanted now
    → Stands n.marks wanted others [] n wanted now
stands_anew from first others log n wanted now stands = record {
  wanted_is = stands.wanted_is;
  once = stands.once;
  closed = stands.closed;
  few = stands.few;
  last = stands.last;
  small = stands.small;
  marked = stands.marked;
  room = stands.room;
  logged = record { can = tt; marks_back = refl; wanted_back = stands.wanted_is };
}

-- ---- as a connection begins

-- each filter that is wanted is one of them
pub wants_mid : (seen left : List Wanted) (w : Wanted) → wants (seen ++ w ∷ left) w.filter ≡ true
wants_mid [] left w = rw ((bytes_eq-Decides w.filter w.filter).1 refl) refl
wants_mid (v ∷ seen) left w =
    ap (λ b. is_filter_of w.filter v || b) (wants_mid seen left w) ∙ or_true (is_filter_of w.filter v)

all_from : (seen left : List Wanted) → AllWanted (seen ++ left) (map (λ (w : Wanted). w.filter) left)
all_from seen [] = tt
all_from seen (w ∷ left) = (
  wants_mid seen left w,
  subst (λ l. AllWanted l (map (λ (w : Wanted). w.filter) left))
      (append_assoc seen (w ∷ []) left) (all_from (seen ++ w ∷ []) left),
)

sent_by : (m : Link) (filter other : List ℕ) (may : Bool)
    → wants (let now : Link =
    if may then record m { last = next_packet_id m; wanted = opened m.wanted filter (next_packet_id m) }
    else record m { wanted = owing m.wanted filter } in now).wanted other ≡ wants m.wanted other
sent_by m filter other true = opened_wants m.wanted filter other (next_packet_id m)
sent_by m filter other false = owing_wants m.wanted filter other

all_sent : (m : Link) (filter : List ℕ) (left : List (List ℕ)) → AllWanted m.wanted left
    → AllWanted (subscribe_sent m filter).wanted left
all_sent m filter [] all = tt
all_sent m filter (other ∷ left) all =
    (sent_by m filter other (may_open m.wanted filter) ∙ all.0, all_sent m filter left all.1)

-- where each is wanted, each SUBSCRIBE has to leave
pub all_leave : (policy : Policy) (m : Link) (filters : List (List ℕ)) → AllWanted m.wanted filters
    → (leaving m (map item.Subscribe filters) (exits_of policy (map item.Subscribe filters))
    ≡ subscribing m filters)
    × (link_after m (map item.Subscribe filters) (exits_of policy (map item.Subscribe filters))
    ≡ subscribes_sent m filters)
all_leave policy m [] all = (refl, refl)
all_leave policy m (filter ∷ filters) all =
    let later = all_leave policy (subscribe_sent m filter) filters (all_sent m filter filters all.1) in
    let items = map item.Subscribe filters in (
      rw all.0 (ap (λ l. subscribe_out m filter ++ l) later.0),
      ap (λ b. link_after (if b then subscribe_sent m filter else m) items (exits_of policy items)) all.0
          ∙ later.1,
    )

pub all_wanted : (wanted : List Wanted) → AllWanted wanted (map (λ (w : Wanted). w.filter) wanted)
all_wanted wanted = all_from [] wanted

fewer_stay : (flights : List InFlight) (outcomes : List Outcome)
    → length (still_in_flight flights outcomes) ≤ length flights
fewer_stay [] outcomes = omega arith
fewer_stay (sent ∷ flights) [] = omega arith
fewer_stay (sent ∷ flights) (Allowed ∷ outcomes) =
    let fewer = fewer_stay flights outcomes in omega (arith, fewer)
fewer_stay (sent ∷ flights) (Denied rule ∷ outcomes) =
    let fewer = fewer_stay flights outcomes in omega (arith, fewer)

-- no SUBSCRIBE will be in flight
pub none_asks : (filters : List (List ℕ)) (others : List Item)
    → count_by asks_for_ack (map item.Subscribe filters ++ others) ≡ count_by asks_for_ack others
none_asks [] others = refl
none_asks (filter ∷ filters) others = none_asks filters others

-- before anything left
pub starts : (s : Sending) (n : Numbering) (wanted : List Wanted) (pinged : ℕ)
    → AreMarked (ids_in_use s.in_flight wanted) n.marks → WantedOnce wanted → OwedAreClosed wanted
    → length (open_ids wanted) ≤ MAX_OPEN_SUBSCRIBES → n.last ≤ 65535 → load s ≤ MAX_FLIGHT
    → Stands n.marks wanted (outgoing (link_of s n wanted pinged)) [] n wanted (link_of s n wanted pinged)
starts s n wanted pinged marked once closed few small loaded =
    let none = none_asks (filters_owed (link_of s n wanted pinged)) s.waiting in
    record {
      wanted_is = refl;
      once = once;
      closed = closed;
      few = few;
      last = refl;
      small = small;
      marked = marked;
      room = omega (arith, none, loaded);
      logged = record { can = tt; marks_back = refl; wanted_back = refl };
    }

-- once the denied are no more in flight, and nothing was subscribed yet
pub begins : (policy : Policy) (s : Sending) (n then_n : Numbering) (wanted : List Wanted) (pinged clock : ℕ)
    (log : List Step) (filters : List (List ℕ)) → AreMarked (ids_in_use s.in_flight wanted) n.marks
    → WantedOnce wanted → OwedAreClosed wanted → length (open_ids wanted) ≤ MAX_OPEN_SUBSCRIBES
    → n.last ≤ 65535 → load s ≤ MAX_FLIGHT
    → log ≡ denied_steps s.in_flight (map is_allowed (agains_of policy s.in_flight))
    → then_n ≡ record n { marks = freed_all n.marks log }
    → Stands n.marks wanted (map item.Subscribe filters) log then_n wanted
    (resumed (link_of s n wanted pinged) clock (agains_of policy s.in_flight))
begins policy s n then_n wanted pinged clock log filters marked once closed few small loaded log_is n_is =
    let stays = map is_allowed (agains_of policy s.in_flight) in
    let fewer = fewer_stay s.in_flight (agains_of policy s.in_flight) in
    let none : count_by asks_for_ack (map item.Subscribe filters) ≡ 0 =
    ap (λ l. count_by asks_for_ack l) (sym (append-nil (map item.Subscribe filters)))
    ∙ none_asks filters [] in
    rw (n_is, log_is)
    (record {
      wanted_is = refl;
      once = once;
      closed = closed;
      few = few;
      last = refl;
      small = small;
      marked =
          rw (← staying_allowed s.in_flight (agains_of policy s.in_flight))
          (denied_marked [] s.in_flight stays (open_ids wanted) n.marks marked);
      room = omega (arith, fewer, loaded, none);
      logged =
          denied_logged n.marks wanted [] [] s.in_flight stays (open_ids wanted) n.marks wanted marked
          (record { can = tt; marks_back = refl; wanted_back = refl });
    })

same_link : (s : Sending) (n : Numbering) (wanted : List Wanted) (link : Link)
    → s.waiting ≡ link.waiting → s.in_flight ≡ link.in_flight
    → link_of s n wanted link.pinged ≡ numbered_at link n wanted
same_link s n wanted link waiting in_flight = rw (waiting, in_flight) refl

module _ (policy : Policy) (from : List Bool) (first : List Wanted) (link : Link) (filters : List (List ℕ))
    (more : List Out) (log : List Step) (n : Numbering) (wanted : List Wanted) where
  -- the link once all were subscribed anew
  pub link_begun : (left : Sending)
      → Subscribed policy from first link (map item.Subscribe filters) [] more log n wanted
      → AllWanted link.wanted filters → left.waiting ≡ link.waiting → left.in_flight ≡ link.in_flight
      → link_of left n wanted link.pinged ≡ subscribes_sent link filters
  link_begun left done all waiting in_flight =
      same_link left n wanted link waiting in_flight ∙ done.link_left ∙ (all_leave policy link filters all).1

  pub marked_begun : (left : Sending)
      → Subscribed policy from first link (map item.Subscribe filters) [] more log n wanted
      → left.in_flight ≡ link.in_flight → AreMarked (ids_in_use left.in_flight wanted) n.marks
  marked_begun left done in_flight = rw in_flight done.stands.marked

  pub outs_begun : Subscribed policy from first link (map item.Subscribe filters) [] more log n wanted
      → AllWanted link.wanted filters → more ≡ subscribing link filters
  outs_begun done all = sym (append-nil more) ∙ done.outs_left ∙ (all_leave policy link filters all).0
