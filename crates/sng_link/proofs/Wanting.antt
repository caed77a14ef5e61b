-- What a SUBSCRIBE that is sent makes of the filters and of the marks, and how it is taken back.
use Rattle.std.proofs.Common.{Bor, ◌≡◌, ℕ, ◌≤◌, nat_lt, length, zero, suc, Bool, true, false, ◌||◌, ◌&&◌, List, []}
use Rattle.std.proofs.Common.{◌∷◌, ◌++◌, set, cond, if◌then◌else◌, refl, sym, ◌∙◌, ap, true≢false}
use Rattle.std.specs.Prelude.{Option, Some, None}
use Rattle.std.specs.List.{list_any, find}
use Rattle.std.specs.Option.{is_some, option_copied, option_map}
use Rattle.std.specs.Str.{bytes_eq}
use Rattle.std.proofs.lemmas.Bool.{eq-eqb, eqb-true}
use Rattle.std.proofs.lemmas.List.{append_assoc}
use Rattle.std.proofs.lemmas.Slice.Eq.{bytes_eq-Decides}
use Rattle.sng_outbox.specs.PacketIds.{is_id, is_used, is_marked}
use Rattle.sng_history.specs.Good.{WantedOnce}
use Rattle.sng_history.specs.Links.{Wanted, wants, opened, owing, closed, open_id, open_ids, has_id}
use Rattle.sng_history.specs.Links.{is_filter_of, is_open, may_open}
use Rattle.sng_history.specs.declared.limits.TheConstants.{MAX_OPEN_SUBSCRIBES}
use Rattle.sng_history.specs.Packets.{filter_open}
use Rattle.sng_history.specs.State.{with_wanted}
use Rattle.sng_wanted.specs.Filters.{reopened, forgiven, without_wanted, id_for, owed_for, IsFree}
use Rattle.sng_link.specs.Flights.{AreMarked, OwedAreClosed}
use Rattle.sng_link.specs.Steps.{marked}
use Rattle.sng_link.proofs.Marks.{neither, one_between, one_less, distinct_less, unused_both, or_true}
use Rattle.sng_link.proofs.Marks.{AmongThem}

-- a packet id is open where it is one of the open ones
open_by : (id : ℕ) (ids : List ℕ) (o : Option ℕ) (later : Bool) → later ≡ is_used ids id
    → (has_id id o || later) ≡ is_used (open_id o ++ ids) id
open_by id ids None later is = is
open_by id ids (Some used) later is = ap (λ b. is_id id used || b) is

pub open_used : (wanted : List Wanted) (id : ℕ) → list_any (is_open id) wanted ≡ is_used (open_ids wanted) id
open_used [] id = refl
open_used (w ∷ wanted) id =
    open_by id (open_ids wanted) w.open_id (list_any (is_open id) wanted) (open_used wanted id)

-- filters that are not wanted
pub no_opened : (wanted : List Wanted) (text : List ℕ) (id : ℕ) → wants wanted text ≡ false
    → opened wanted text id ≡ wanted
no_opened [] text id none = refl
no_opened (w ∷ wanted) text id none =
    let both = neither (is_filter_of text w) (wants wanted text) none in
    rw both.0 (ap (λ l. w ∷ l) (no_opened wanted text id both.1))

pub same_text : (a b : List ℕ) → bytes_eq a b ≡ true → a ≡ b
same_text a b is = (bytes_eq-Decides a b).0 is

-- the others are of other filters
pub others_differ : (w : Wanted) (wanted : List Wanted) (text : List ℕ) → WantedOnce (w ∷ wanted)
    → is_filter_of text w ≡ true → wants wanted text ≡ false
others_differ w wanted text once here = rw (same_text text w.filter here) once.0

id_some : (text : List ℕ) (w : Wanted) (wanted : List Wanted) → is_filter_of text w ≡ true
    → id_for (w ∷ wanted) text ≡ w.open_id
id_some text w wanted here = rw here refl

id_later : (text : List ℕ) (w : Wanted) (wanted : List Wanted) → is_filter_of text w ≡ false
    → id_for (w ∷ wanted) text ≡ id_for wanted text
id_later text w wanted here = rw here refl

-- the packet id of the filter's open SUBSCRIBE is one of the open ones
pub id_among : (wanted : List Wanted) (text : List ℕ) → AmongThem (open_ids wanted) (id_for wanted text)
id_among [] text = tt
id_among (w ∷ wanted) text = by (is_filter_of text w) refl (id_among wanted text)
  where
    here_used : (o : Option ℕ) (ids : List ℕ) → AmongThem (open_id o ++ ids) o
    here_used None ids = tt
    here_used (Some used) ids = rw (eq-eqb used used refl) refl

    later_used : (o former : Option ℕ) (ids : List ℕ) → AmongThem ids former
        → AmongThem (open_id o ++ ids) former
    later_used o None ids there = tt
    later_used None (Some former) ids there = there
    later_used (Some used) (Some former) ids there = rw there (or_true (is_id former used))

    by : (here : Bool) → is_filter_of text w ≡ here → AmongThem (open_ids wanted) (id_for wanted text)
        → AmongThem (open_ids (w ∷ wanted)) (id_for (w ∷ wanted) text)
    by true is there = rw (id_some text w wanted is) (here_used w.open_id (open_ids wanted))
    by false is there =
        rw (id_later text w wanted is) (later_used w.open_id (id_for wanted text) (open_ids wanted) there)

-- one that is open for none
unopened : (wanted : List Wanted) (id : ℕ) (former : Option ℕ) (owed : Bool)
    → is_used (open_ids wanted) id ≡ false → reopened wanted id former owed ≡ wanted
unopened [] id former owed free = refl
unopened (w ∷ wanted) id former owed free =
    let none : (is_open id w || list_any (is_open id) wanted) ≡ false = open_used (w ∷ wanted) id ∙ free in
    let both = neither (is_open id w) (list_any (is_open id) wanted) none in
    rw both.0 (ap (λ l. w ∷ l) (unopened wanted id former owed (sym (open_used wanted id) ∙ both.1)))

pub back_same : (wanted : List Wanted) (id : ℕ) → is_used (open_ids wanted) id ≡ false
    → reopened wanted id None false ≡ wanted
back_same wanted id free = unopened wanted id None false free

owed_here : (text : List ℕ) (w : Wanted) (wanted : List Wanted) → is_filter_of text w ≡ true
    → owed_for (w ∷ wanted) text ≡ w.owed
owed_here text w wanted here = rw here refl

owed_later : (text : List ℕ) (w : Wanted) (wanted : List Wanted) → is_filter_of text w ≡ false
    → owed_for (w ∷ wanted) text ≡ owed_for wanted text
owed_later text w wanted here = rw here refl

or_none : (b : Bool) → (b || false) ≡ b
or_none true = refl
or_none false = refl

-- a SUBSCRIBE that is taken back
pub back_opened : (wanted : List Wanted) (text : List ℕ) (id : ℕ) → WantedOnce wanted
    → is_used (open_ids wanted) id ≡ false
    → reopened (opened wanted text id) id (id_for wanted text) (owed_for wanted text) ≡ wanted
back_opened [] text id once free = refl
back_opened (w ∷ wanted) text id once free =
    by (is_filter_of text w) refl (λ less. back_opened wanted text id once.1 less)
  where
    by : (here : Bool) → is_filter_of text w ≡ here
        → (is_used (open_ids wanted) id ≡ false
        → reopened (opened wanted text id) id (id_for wanted text) (owed_for wanted text) ≡ wanted)
        → reopened (opened (w ∷ wanted) text id) id (id_for (w ∷ wanted) text) (owed_for (w ∷ wanted) text)
        ≡ w ∷ wanted
    by true is later =
        let none : (is_open id w || list_any (is_open id) wanted) ≡ false =
        open_used (w ∷ wanted) id ∙ free in
        let both = neither (is_open id w) (list_any (is_open id) wanted) none in
        let less : is_used (open_ids wanted) id ≡ false = sym (open_used wanted id) ∙ both.1 in
        let rest = no_opened wanted text id (others_differ w wanted text once is) in
        ap (λ former. reopened (opened (w ∷ wanted) text id) id former (owed_for (w ∷ wanted) text))
        (id_some text w wanted is)
        ∙ ap (λ owed. reopened (opened (w ∷ wanted) text id) id w.open_id owed) (owed_here text w wanted is)
        ∙ (rw (is, rest, eq-eqb id id refl, or_none w.owed)
        (ap (λ l. w ∷ l) (unopened wanted id w.open_id w.owed less)))
    by false is later =
        let none : (is_open id w || list_any (is_open id) wanted) ≡ false =
        open_used (w ∷ wanted) id ∙ free in
        let both = neither (is_open id w) (list_any (is_open id) wanted) none in
        let less : is_used (open_ids wanted) id ≡ false = sym (open_used wanted id) ∙ both.1 in
        ap (λ former. reopened (opened (w ∷ wanted) text id) id former (owed_for (w ∷ wanted) text))
        (id_later text w wanted is)
        ∙ ap (λ owed. reopened (opened (w ∷ wanted) text id) id (id_for wanted text) owed)
        (owed_later text w wanted is)
        ∙ (rw (is, both.0) (ap (λ l. w ∷ l) (later less)))

-- the marks of the packet ids once a SUBSCRIBE was sent
taken_by : (before ids : List ℕ) (marks : List Bool) (id : ℕ) (former : Option ℕ) → id ≤ 65535
    → AreMarked (before ++ (open_id former ++ ids)) marks
    → is_used (before ++ (open_id former ++ ids)) id ≡ false
    → AreMarked (before ++ id ∷ ids) (marked (set marks id true) former false)
taken_by before ids marks id None small are free = one_between before ids marks id small are free
taken_by before ids marks id (Some former) small are free =
    let more : AreMarked (before ++ id ∷ former ∷ ids) (set marks id true) =
    one_between before (former ∷ ids) marks id small are free in
    let split : before ++ id ∷ former ∷ ids ≡ (before ++ id ∷ []) ++ former ∷ ids =
    sym (append_assoc before (id ∷ []) (former ∷ ids)) in
    let less : AreMarked ((before ++ id ∷ []) ++ ids) (set (set marks id true) former false) =
    one_less (before ++ id ∷ []) ids (set marks id true) former (rw split at more) in
    rw (← append_assoc before (id ∷ []) ids) less

pub opened_marked : (before : List ℕ) (wanted : List Wanted) (text : List ℕ) (id : ℕ) (marks : List Bool)
    → id ≤ 65535 → wants wanted text ≡ true → WantedOnce wanted
    → AreMarked (before ++ open_ids wanted) marks → is_used (before ++ open_ids wanted) id ≡ false
    → AreMarked (before ++ open_ids (opened wanted text id))
    (marked (set marks id true) (id_for wanted text) false)
opened_marked before [] text id marks small there once are free = absurd (true≢false (sym there))
opened_marked before (w ∷ wanted) text id marks small there once are free =
    by (is_filter_of text w) refl
    (λ there are free. opened_marked
    (before ++ open_id w.open_id) wanted text id marks small there once.1 are free)
  where
    by : (here : Bool) → is_filter_of text w ≡ here
        → (wants wanted text ≡ true → AreMarked ((before ++ open_id w.open_id) ++ open_ids wanted) marks
        → is_used ((before ++ open_id w.open_id) ++ open_ids wanted) id ≡ false
        → AreMarked ((before ++ open_id w.open_id) ++ open_ids (opened wanted text id))
        (marked (set marks id true) (id_for wanted text) false))
        → AreMarked (before ++ open_ids (opened (w ∷ wanted) text id))
        (marked (set marks id true) (id_for (w ∷ wanted) text) false)
    by true is later =
        let rest = no_opened wanted text id (others_differ w wanted text once is) in
        rw (id_some text w wanted is, is, rest)
        (taken_by before (open_ids wanted) marks id w.open_id small are free)
    by false is later =
        let more : wants wanted text ≡ true = rw is at there in
        let split = append_assoc before (open_id w.open_id) (open_ids wanted) in
        rw (
          id_later text w wanted is,
          is,
          ← append_assoc before (open_id w.open_id) (open_ids (opened wanted text id)),
        ) (later more (rw (← split) at are) (rw (← split) at free))

-- the filters stay
pub opened_wants : (wanted : List Wanted) (text other : List ℕ) (id : ℕ)
    → wants (opened wanted text id) other ≡ wants wanted other
opened_wants [] text other id = refl
opened_wants (w ∷ wanted) text other id = by (is_filter_of text w) (opened_wants wanted text other id)
  where
    by : (here : Bool) → wants (opened wanted text id) other ≡ wants wanted other
        → (is_filter_of other (if here then record w { open_id = Some id; owed = false } else w)
        || wants (opened wanted text id) other) ≡ (is_filter_of other w || wants wanted other)
    by true later = ap (λ b. is_filter_of other w || b) later
    by false later = ap (λ b. is_filter_of other w || b) later

pub opened_once : (wanted : List Wanted) (text : List ℕ) (id : ℕ) → WantedOnce wanted
    → WantedOnce (opened wanted text id)
opened_once [] text id once = tt
opened_once (w ∷ wanted) text id once = by (is_filter_of text w) (opened_once wanted text id once.1)
  where
    by : (here : Bool) → WantedOnce (opened wanted text id)
        → WantedOnce
        ((if here then record w { open_id = Some id; owed = false } else w) ∷ opened wanted text id)
    by true later = (opened_wants wanted text w.filter id ∙ once.0, later)
    by false later = (opened_wants wanted text w.filter id ∙ once.0, later)

set_off : (marks : List Bool) (id : ℕ) → is_marked (set marks id false) id ≡ false
set_off [] id = refl
set_off (m ∷ marks) zero = refl
set_off (m ∷ marks) (suc id) = set_off marks id

-- what is marked no more is free
pub free_former : (before : List ℕ) (wanted : List Wanted) (marks : List Bool) (former : Option ℕ)
    → AreMarked (before ++ open_ids wanted) (marked marks former false) → IsFree wanted former
free_former before wanted marks None are = tt
free_former before wanted marks (Some former) are =
    let unmarked : is_marked (set marks former false) former ≡ false = set_off marks former in
    let free = unused_both before (open_ids wanted) former (sym (are.marked.same former) ∙ unmarked) in
    open_used wanted former ∙ free.1

pub fresh_open : (before : List ℕ) (wanted : List Wanted) (id : ℕ)
    → is_used (before ++ open_ids wanted) id ≡ false → list_any (is_open id) wanted ≡ false
fresh_open before wanted id free = open_used wanted id ∙ (unused_both before (open_ids wanted) id free).1

no_without : (wanted : List Wanted) (text : List ℕ) → wants wanted text ≡ false
    → without_wanted wanted text ≡ wanted
no_without [] text none = refl
no_without (w ∷ wanted) text none =
    let both = neither (is_filter_of text w) (wants wanted text) none in
    rw both.0 (ap (λ l. w ∷ l) (no_without wanted text both.1))

-- the marks once a filter is wanted no more
freed_by : (before ids : List ℕ) (marks : List Bool) (former : Option ℕ)
    → AreMarked (before ++ (open_id former ++ ids)) marks
    → AreMarked (before ++ ids) (marked marks former false)
freed_by before ids marks None are = are
freed_by before ids marks (Some former) are = one_less before ids marks former are

pub without_marked : (before : List ℕ) (wanted : List Wanted) (text : List ℕ) (marks : List Bool)
    → WantedOnce wanted → AreMarked (before ++ open_ids wanted) marks
    → AreMarked (before ++ open_ids (without_wanted wanted text)) (marked marks (id_for wanted text) false)
without_marked before [] text marks once are = are
without_marked before (w ∷ wanted) text marks once are =
    by (is_filter_of text w) refl
    (λ are. without_marked (before ++ open_id w.open_id) wanted text marks once.1 are)
  where
    by : (here : Bool) → is_filter_of text w ≡ here
        → (AreMarked ((before ++ open_id w.open_id) ++ open_ids wanted) marks
        → AreMarked ((before ++ open_id w.open_id) ++ open_ids (without_wanted wanted text))
        (marked marks (id_for wanted text) false))
        → AreMarked (before ++ open_ids (without_wanted (w ∷ wanted) text))
        (marked marks (id_for (w ∷ wanted) text) false)
    by true is later =
        let rest = no_without wanted text (others_differ w wanted text once is) in
        rw (id_some text w wanted is, is, rest) (freed_by before (open_ids wanted) marks w.open_id are)
    by false is later =
        rw (
          id_later text w wanted is,
          is,
          ← append_assoc before (open_id w.open_id) (open_ids (without_wanted wanted text)),
        )
        (later (rw (← append_assoc before (open_id w.open_id) (open_ids wanted)) at are))

-- where none is open with the packet id
pub none_closed : (wanted : List Wanted) (id : ℕ) → list_any (is_open id) wanted ≡ false
    → closed wanted id ≡ wanted
none_closed [] id none = refl
none_closed (w ∷ wanted) id none =
    let both = neither (is_open id w) (list_any (is_open id) wanted) none in
    rw both.0 (ap (λ l. w ∷ l) (none_closed wanted id both.1))

-- the marks once a SUBSCRIBE was answered
pub closed_marked : (before : List ℕ) (wanted : List Wanted) (id : ℕ) (marks : List Bool)
    → list_any (is_open id) wanted ≡ true → AreMarked (before ++ open_ids wanted) marks
    → AreMarked (before ++ open_ids (closed wanted id)) (set marks id false)
closed_marked before [] id marks there are = absurd (true≢false (sym there))
closed_marked before (w ∷ wanted) id marks there are =
    by w.open_id refl (has_id id w.open_id) refl
    (λ there are. closed_marked (before ++ open_id w.open_id) wanted id marks there are)
  where
    closed_here : (o : Option ℕ) → has_id id o ≡ true
        → AreMarked (before ++ (open_id o ++ open_ids wanted)) marks
        → AreMarked (before ++ open_ids (closed wanted id)) (set marks id false)
    closed_here None is are = absurd (true≢false (sym is))
    closed_here (Some used) is are =
        let same : used ≡ id = eqb-true used id is in
        let are_id : AreMarked (before ++ id ∷ open_ids wanted) marks = rw same at are in
        let apart = (distinct_less before (open_ids wanted) id are_id.distinct).0 in
        let none = none_closed wanted id (open_used wanted id
        ∙ (unused_both before (open_ids wanted) id apart).1) in
        rw none (one_less before (open_ids wanted) marks id are_id)

    by : (o : Option ℕ) → w.open_id ≡ o → (here : Bool) → has_id id w.open_id ≡ here
        → (list_any (is_open id) wanted ≡ true
        → AreMarked ((before ++ open_id w.open_id) ++ open_ids wanted) marks
        → AreMarked ((before ++ open_id w.open_id) ++ open_ids (closed wanted id))
        (set marks id false))
        → AreMarked (before ++ open_ids (closed (w ∷ wanted) id)) (set marks id false)
    by o o_is true is later = rw is (closed_here w.open_id is are)
    by o o_is false is later =
        let more : list_any (is_open id) wanted ≡ true = rw is at there in
        rw (is, ← append_assoc before (open_id w.open_id) (open_ids (closed wanted id)))
        (later more (rw (← append_assoc before (open_id w.open_id) (open_ids wanted)) at are))

pub open_any : (wanted : List Wanted) (id : ℕ)
    → is_some (filter_open wanted id) ≡ list_any (is_open id) wanted
open_any [] id = refl
open_any (w ∷ wanted) id = by (is_open id w) (open_any wanted id)
  where
    by : (here : Bool) → is_some (filter_open wanted id) ≡ list_any (is_open id) wanted
        → is_some (option_map (λ (w : Wanted). w.filter) (cond here (Some w) (find (is_open id) wanted)))
        ≡ (here || list_any (is_open id) wanted)
    by true later = refl
    by false later = later

-- one more that is wanted has no open SUBSCRIBE
open_last : (wanted : List Wanted) (text : List ℕ)
    → open_ids (wanted ++ record { filter = text; open_id = None; owed = false } ∷ []) ≡ open_ids wanted
open_last [] text = refl
open_last (w ∷ wanted) text = ap (λ l. open_id w.open_id ++ l) (open_last wanted text)

pub open_with : (wanted : List Wanted) (text : List ℕ) → open_ids (with_wanted wanted text) ≡ open_ids wanted
open_with wanted text = by (wants wanted text)
  where
    by : (here : Bool) → open_ids
        (if here then wanted else wanted ++ record { filter = text; open_id = None; owed = false } ∷ [])
        ≡ open_ids wanted
    by true = refl
    by false = open_last wanted text

-- what a look-up hands out is there where what it is of is
pub some_copied : (o : Option (Bor (List ℕ))) (wanted : List Wanted) (id : ℕ)
    → option_copied o ≡ filter_open wanted id → is_some o ≡ list_any (is_open id) wanted
some_copied o wanted id is = by o is ∙ open_any wanted id
  where
    by : (o : Option (Bor (List ℕ))) → option_copied o ≡ filter_open wanted id
        → is_some o ≡ is_some (filter_open wanted id)
    by None is = ap is_some is
    by (Some x) is = ap is_some is

-- ---- what is owed

-- a SUBSCRIBE that comes to be owed changes no packet id and no filter
pub owing_ids : (wanted : List Wanted) (text : List ℕ) → open_ids (owing wanted text) ≡ open_ids wanted
owing_ids [] text = refl
owing_ids (w ∷ wanted) text = by (is_filter_of text w) (owing_ids wanted text)
  where
    by : (here : Bool) → open_ids (owing wanted text) ≡ open_ids wanted
        → open_ids ((if here then record w { owed = true } else w) ∷ owing wanted text) ≡ open_ids (w ∷ wanted)
    by true later = ap (λ l. open_id w.open_id ++ l) later
    by false later = ap (λ l. open_id w.open_id ++ l) later

pub owing_wants : (wanted : List Wanted) (text other : List ℕ)
    → wants (owing wanted text) other ≡ wants wanted other
owing_wants [] text other = refl
owing_wants (w ∷ wanted) text other = by (is_filter_of text w) (owing_wants wanted text other)
  where
    by : (here : Bool) → wants (owing wanted text) other ≡ wants wanted other
        → wants ((if here then record w { owed = true } else w) ∷ owing wanted text) other
        ≡ wants (w ∷ wanted) other
    by true later = ap (λ b. is_filter_of other w || b) later
    by false later = ap (λ b. is_filter_of other w || b) later

pub owing_once : (wanted : List Wanted) (text : List ℕ) → WantedOnce wanted → WantedOnce (owing wanted text)
owing_once [] text once = tt
owing_once (w ∷ wanted) text once = by (is_filter_of text w) (owing_once wanted text once.1)
  where
    by : (here : Bool) → WantedOnce (owing wanted text)
        → WantedOnce ((if here then record w { owed = true } else w) ∷ owing wanted text)
    by true later = (owing_wants wanted text w.filter ∙ once.0, later)
    by false later = (owing_wants wanted text w.filter ∙ once.0, later)

-- of a filter that is not wanted none is owed
none_owing : (wanted : List Wanted) (text : List ℕ) → wants wanted text ≡ false → owing wanted text ≡ wanted
none_owing [] text none = refl
none_owing (w ∷ wanted) text none =
    let both = neither (is_filter_of text w) (wants wanted text) none in
    rw both.0 (ap (λ l. w ∷ l) (none_owing wanted text both.1))

none_forgiven : (wanted : List Wanted) (text : List ℕ) → wants wanted text ≡ false
    → forgiven wanted text ≡ wanted
none_forgiven [] text none = refl
none_forgiven (w ∷ wanted) text none =
    let both = neither (is_filter_of text w) (wants wanted text) none in
    rw both.0 (ap (λ l. w ∷ l) (none_forgiven wanted text both.1))

-- where one is owed already nothing changes
pub owing_same : (wanted : List Wanted) (text : List ℕ) → WantedOnce wanted → owed_for wanted text ≡ true
    → owing wanted text ≡ wanted
owing_same [] text once owed = refl
owing_same (w ∷ wanted) text once owed =
    by (is_filter_of text w) refl (λ is. owing_same wanted text once.1 is)
  where
    by : (here : Bool) → is_filter_of text w ≡ here
        → (owed_for wanted text ≡ true → owing wanted text ≡ wanted)
        → owing (w ∷ wanted) text ≡ w ∷ wanted
    by true is later =
        let there : w.owed ≡ true = sym (owed_here text w wanted is) ∙ owed in
        let rest = none_owing wanted text (others_differ w wanted text once is) in
        rw (is, rest) (ap (λ o. record w { owed = o } ∷ wanted) (sym there))
    by false is later =
        rw is (ap (λ l. w ∷ l) (later (sym (owed_later text w wanted is) ∙ owed)))

-- one that came to be owed is taken back
pub back_owing : (wanted : List Wanted) (text : List ℕ) → WantedOnce wanted → owed_for wanted text ≡ false
    → forgiven (owing wanted text) text ≡ wanted
back_owing [] text once owed = refl
back_owing (w ∷ wanted) text once owed =
    by (is_filter_of text w) refl (λ is. back_owing wanted text once.1 is)
  where
    by : (here : Bool) → is_filter_of text w ≡ here
        → (owed_for wanted text ≡ false → forgiven (owing wanted text) text ≡ wanted)
        → forgiven (owing (w ∷ wanted) text) text ≡ w ∷ wanted
    by true is later =
        let none : w.owed ≡ false = sym (owed_here text w wanted is) ∙ owed in
        let away = others_differ w wanted text once is in
        rw (is, none_owing wanted text away, is, none_forgiven wanted text away)
        (ap (λ o. record w { owed = o } ∷ wanted) (sym none))
    by false is later =
        rw (is, is) (ap (λ l. w ∷ l) (later (sym (owed_later text w wanted is) ∙ owed)))

-- ---- a filter of which one is owed has none that is open

pub opened_closed : (wanted : List Wanted) (text : List ℕ) (id : ℕ) → OwedAreClosed wanted
    → OwedAreClosed (opened wanted text id)
opened_closed [] text id shut = tt
opened_closed (w ∷ wanted) text id shut =
    by (is_filter_of text w) (opened_closed wanted text id shut.1)
  where
    by : (here : Bool) → OwedAreClosed (opened wanted text id) → OwedAreClosed
        ((if here then record w { open_id = Some id; owed = false } else w) ∷ opened wanted text id)
    by true later = (λ owed. absurd (true≢false (sym owed)), later)
    by false later = (shut.0, later)

is_none : (o : Option ℕ) → is_some o ≡ false → o ≡ None
is_none None is = refl
is_none (Some id) is = absurd (true≢false is)

later_false : (a b : Bool) → (a || b) ≡ false → b ≡ false
later_false a b none = (neither a b none).1

none_open_closed : (wanted : List Wanted) (text : List ℕ)
    → list_any (λ w. is_filter_of text w && is_some w.open_id) wanted ≡ false
    → OwedAreClosed wanted → OwedAreClosed (owing wanted text)
none_open_closed [] text none shut = tt
none_open_closed (w ∷ wanted) text none shut =
    let both =
    neither (is_filter_of text w && is_some w.open_id)
    (list_any (λ w. is_filter_of text w && is_some w.open_id) wanted) none in
    by (is_filter_of text w) refl both.0 (none_open_closed wanted text both.1 shut.1)
  where
    by : (here : Bool) → is_filter_of text w ≡ here → (is_filter_of text w && is_some w.open_id) ≡ false
        → OwedAreClosed (owing wanted text) → OwedAreClosed (owing (w ∷ wanted) text)
    by true is none later =
        let away : is_some w.open_id ≡ false = ap (λ b. b && is_some w.open_id) (sym is) ∙ none in
        rw is (λ owed. is_none w.open_id away, later)
    by false is none later = rw is (shut.0, later)

-- so one that may not be open is owed
pub owing_closed : (wanted : List Wanted) (text : List ℕ) → may_open wanted text ≡ false
    → OwedAreClosed wanted → OwedAreClosed (owing wanted text)
owing_closed wanted text may shut =
    none_open_closed wanted text (later_false (nat_lt (length (open_ids wanted)) MAX_OPEN_SUBSCRIBES)
    (list_any (λ w. is_filter_of text w && is_some w.open_id) wanted) may) shut

last_closed : (wanted : List Wanted) (text : List ℕ) → OwedAreClosed wanted
    → OwedAreClosed (wanted ++ record { filter = text; open_id = None; owed = false } ∷ [])
last_closed [] text shut = (λ owed. refl, tt)
last_closed (w ∷ wanted) text shut = (shut.0, last_closed wanted text shut.1)

pub closed_with : (wanted : List Wanted) (text : List ℕ) → OwedAreClosed wanted
    → OwedAreClosed (with_wanted wanted text)
closed_with wanted text shut = by (wants wanted text)
  where
    by : (here : Bool) → OwedAreClosed
        (if here then wanted else wanted ++ record { filter = text; open_id = None; owed = false } ∷ [])
    by true = shut
    by false = last_closed wanted text shut

pub closed_without : (wanted : List Wanted) (text : List ℕ) → OwedAreClosed wanted
    → OwedAreClosed (without_wanted wanted text)
closed_without [] text shut = tt
closed_without (w ∷ wanted) text shut =
    by (is_filter_of text w) refl (closed_without wanted text shut.1)
  where
    by : (here : Bool) → is_filter_of text w ≡ here → OwedAreClosed (without_wanted wanted text)
        → OwedAreClosed (without_wanted (w ∷ wanted) text)
    by true is later = rw is later
    by false is later = rw is (shut.0, later)

pub closed_closed : (wanted : List Wanted) (id : ℕ) → OwedAreClosed wanted → OwedAreClosed (closed wanted id)
closed_closed [] id shut = tt
closed_closed (w ∷ wanted) id shut = by (is_open id w) (closed_closed wanted id shut.1)
  where
    by : (here : Bool) → OwedAreClosed (closed wanted id)
        → OwedAreClosed ((if here then record w { open_id = None } else w) ∷ closed wanted id)
    by true later = (λ owed. refl, later)
    by false later = (shut.0, later)
