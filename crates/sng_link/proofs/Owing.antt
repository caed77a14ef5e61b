-- How the filters of which a SUBSCRIBE is owed are subscribed, in order, while one more may be open.
use Rattle.std.proofs.Common.{◌≡◌, ℕ, ◌+◌, ◌<◌, nat_lt, Bool, true, false, ◌&&◌, List, [], ◌∷◌, ◌++◌}
use Rattle.std.proofs.Common.{length, map, refl, sym, ◌∙◌, ap, arith, true≢false}
use Rattle.std.specs.Prelude.{Some, None, is_some}
use Rattle.std.specs.List.{filter, find, list_any}
use Rattle.std.proofs.lemmas.Bool.{lt-ltb}
use Rattle.std.proofs.lemmas.List.{append_assoc, length-append}
use Rattle.std.proofs.lemmas.Slice.Eq.{bytes_eq-Decides}
use Rattle.sng_grants.specs.declared.policy.Policy.{Policy}
use Rattle.sng_outbox.specs.PacketIds.{Numbering}
use Rattle.sng_outbox.specs.declared.item.Item.{Item}
use Rattle.sng_outbox.specs.declared.item.Item.TheVariants as item
use Rattle.sng_book.specs.declared.out.Out.{Out}
use Rattle.sng_history.specs.declared.limits.TheConstants.{MAX_OPEN_SUBSCRIBES}
use Rattle.sng_history.specs.Good.{WantedOnce}
use Rattle.sng_history.specs.Exits.{exits_of, leaving, subscribe_leaves}
use Rattle.sng_history.specs.Links.{Link, Wanted, wants, may_open, opened, open_id, open_ids, is_filter_of}
use Rattle.sng_history.specs.Links.{subscribe_left, link_after}
use Rattle.sng_wanted.specs.Filters.{first_owed, owed_for, WantedRoom}
use Rattle.sng_link.specs.Flights.{OwedAreClosed}
use Rattle.sng_link.specs.Taking.{item_step, wanted_after, numbered_at, LeftBy, Subscribed}
use Rattle.sng_link.specs.declared.step.Step.{Step}
use Rattle.sng_link.proofs.Marks.{neither}
use Rattle.sng_link.proofs.Renewing.{none_asks, subscribed_step, wants_mid}
use Rattle.sng_link.proofs.Wanting.{no_opened, others_differ, owing_same}

-- the filters of which a SUBSCRIBE is owed
abbrev pub owed_in : List Wanted → List (List ℕ)
owed_in wanted = map (λ (w : Wanted). w.filter) (filter (λ (w : Wanted). w.owed) wanted)

-- the first of them may be open, and then one less is owed
pub record OneOpens (wanted : List Wanted) (text : List ℕ) (id : ℕ) : Type 0 where
  pub there : wants wanted text ≡ true
  pub owed : owed_in wanted ≡ text ∷ owed_in (opened wanted text id)
  pub more : length (open_ids (opened wanted text id)) ≡ length (open_ids wanted) + 1

-- the first filter is owed one
here_opens : (w : Wanted) (wanted : List Wanted) (text : List ℕ) (id : ℕ) → w.owed ≡ true → w.filter ≡ text
    → WantedOnce (w ∷ wanted) → w.open_id ≡ None → OneOpens (w ∷ wanted) text id
here_opens w wanted text id owed is once shut =
    let here : is_filter_of text w ≡ true = (bytes_eq-Decides text w.filter).1 (sym is) in
    let rest = no_opened wanted text id (others_differ w wanted text once here) in
    record {
      there = rw here refl;
      owed = rw (owed, here, rest) (ap (λ t. t ∷ owed_in wanted) is);
      more = rw (here, rest, shut) (omega arith);
    }

-- it is a later one
later_opens : (w : Wanted) (wanted : List Wanted) (text : List ℕ) (id : ℕ) → w.owed ≡ false
    → WantedOnce (w ∷ wanted) → OneOpens wanted text id → OneOpens (w ∷ wanted) text id
later_opens w wanted text id owed once later = by (is_filter_of text w) refl
  where
    by : (here : Bool) → is_filter_of text w ≡ here → OneOpens (w ∷ wanted) text id
    by true is =
        let away : wants wanted text ≡ false = others_differ w wanted text once is in
        absurd (true≢false (sym later.there ∙ away))
    by false is = record {
      there = rw is later.there;
      owed = rw (owed, is) later.owed;
      more =
          let now = length-append (open_id w.open_id) (open_ids (opened wanted text id)) in
          let before = length-append (open_id w.open_id) (open_ids wanted) in
          let rest = later.more in
          rw is (omega (arith, now, before, rest));
    }

pub one_opens : (wanted : List Wanted) (text : List ℕ) (id : ℕ) → first_owed wanted ≡ Some text
    → WantedOnce wanted → OwedAreClosed wanted → OneOpens wanted text id
one_opens [] text id first once closed = absurd (cc)
one_opens (w ∷ wanted) text id first once closed =
    by w.owed refl (λ rest. one_opens wanted text id rest once.1 closed.1)
  where
    by : (owed : Bool) → w.owed ≡ owed → (first_owed wanted ≡ Some text → OneOpens wanted text id)
        → OneOpens (w ∷ wanted) text id
    by true is later =
        let same : Some w.filter ≡ Some text = rw is at first in
        here_opens w wanted text id is (cc) once (closed.0 is)
    by false is later =
        let rest : first_owed wanted ≡ Some text = rw is at first in
        later_opens w wanted text id is once (later rest)

pub none_owed_in : (wanted : List Wanted) → first_owed wanted ≡ None → owed_in wanted ≡ []
none_owed_in [] first = refl
none_owed_in (w ∷ wanted) first = by w.owed refl (λ rest. none_owed_in wanted rest)
  where
    by : (owed : Bool) → w.owed ≡ owed → (first_owed wanted ≡ None → owed_in wanted ≡ [])
        → owed_in (w ∷ wanted) ≡ []
    by true is later =
        let bad : Some w.filter ≡ None = rw is at first in absurd (cc)
    by false is later =
        let rest : first_owed wanted ≡ None = rw is at first in rw is (later rest)

pub opens_within : (wanted : List Wanted) (text : List ℕ) → length (open_ids wanted) < MAX_OPEN_SUBSCRIBES
    → may_open wanted text ≡ true
opens_within wanted text few = rw (lt-ltb (length (open_ids wanted)) MAX_OPEN_SUBSCRIBES few) refl

-- the filters once the first of them left
pub owed_left : (policy : Policy) (wanted : List Wanted) (text : List ℕ) (next : ℕ)
    → wants wanted text ≡ true → may_open wanted text ≡ true
    → wanted_after wanted (item.Subscribe text) (item_step policy wanted next (item.Subscribe text))
    ≡ opened wanted text next
owed_left policy wanted text next there may = rw (there, may) refl

-- ---- where no more may be open

-- a SUBSCRIBE of each of these leaves nothing and lets nothing out
abbrev AreIdle : Link → List (List ℕ) → Type 0
AreIdle m [] = Unit {0}
AreIdle m (text ∷ texts) =
    (subscribe_left m text ≡ m) × (subscribe_leaves m text ≡ []) × AreIdle m texts

idle_outs : (policy : Policy) (m : Link) (texts : List (List ℕ)) (others : List Item) → AreIdle m texts
    → (leaving m (map item.Subscribe texts ++ others) (exits_of policy (map item.Subscribe texts ++ others))
    ≡ leaving m others (exits_of policy others))
    × (link_after m (map item.Subscribe texts ++ others)
    (exits_of policy (map item.Subscribe texts ++ others))
    ≡ link_after m others (exits_of policy others))
idle_outs policy m [] others idle = (refl, refl)
idle_outs policy m (text ∷ texts) others idle =
    let rest = idle_outs policy m texts others idle.2 in
    let items = map item.Subscribe texts ++ others in (
      ap (λ l. subscribe_leaves m text ++ leaving l items (exits_of policy items)) idle.0
          ∙ ap (λ l. l ++ leaving m items (exits_of policy items)) idle.1 ∙ rest.0,
      ap (λ l. link_after l items (exits_of policy items)) idle.0 ∙ rest.1,
    )

-- what is found of a filter that is wanted
wants_at : (seen left : List Wanted) (w : Wanted) → WantedOnce (seen ++ w ∷ left)
    → find (is_filter_of w.filter) (seen ++ w ∷ left) ≡ Some w
wants_at [] left w once = rw ((bytes_eq-Decides w.filter w.filter).1 refl) refl
wants_at (v ∷ seen) left w once = by (is_filter_of w.filter v) refl (wants_at seen left w once.1)
  where
    by : (here : Bool) → is_filter_of w.filter v ≡ here
        → find (is_filter_of w.filter) (seen ++ w ∷ left) ≡ Some w
        → find (is_filter_of w.filter) (v ∷ seen ++ w ∷ left) ≡ Some w
    by true is later =
        let away : wants (seen ++ w ∷ left) w.filter ≡ false =
        others_differ v (seen ++ w ∷ left) w.filter once is in
        absurd (true≢false (sym (wants_mid seen left w) ∙ away))
    by false is later = rw is later

found_wants : (wanted : List Wanted) (text : List ℕ) (w : Wanted)
    → find (is_filter_of text) wanted ≡ Some w → wants wanted text ≡ true
found_wants [] text w found = absurd (cc)
found_wants (v ∷ wanted) text w found =
    by (is_filter_of text v) refl (λ rest. found_wants wanted text w rest)
  where
    by : (here : Bool) → is_filter_of text v ≡ here
        → (find (is_filter_of text) wanted ≡ Some w → wants wanted text ≡ true)
        → wants (v ∷ wanted) text ≡ true
    by true is later = rw is refl
    by false is later =
        let rest : find (is_filter_of text) wanted ≡ Some w = rw is at found in
        rw is (later rest)

away_unopened : (wanted : List Wanted) (text : List ℕ) → wants wanted text ≡ false
    → list_any (λ w. is_filter_of text w && is_some w.open_id) wanted ≡ false
away_unopened [] text none = refl
away_unopened (v ∷ wanted) text none =
    let both = neither (is_filter_of text v) (wants wanted text) none in
    rw both.0 (away_unopened wanted text both.1)

-- it has none that is open
none_opened : (wanted : List Wanted) (text : List ℕ) (w : Wanted) → WantedOnce wanted
    → find (is_filter_of text) wanted ≡ Some w → w.open_id ≡ None
    → list_any (λ w. is_filter_of text w && is_some w.open_id) wanted ≡ false
none_opened [] text w once found shut = refl
none_opened (v ∷ wanted) text w once found shut =
    by (is_filter_of text v) refl (λ rest. none_opened wanted text w once.1 rest shut)
  where
    by : (here : Bool) → is_filter_of text v ≡ here
        → (find (is_filter_of text) wanted ≡ Some w
        → list_any (λ w. is_filter_of text w && is_some w.open_id) wanted ≡ false)
        → list_any (λ w. is_filter_of text w && is_some w.open_id) (v ∷ wanted) ≡ false
    by true is later =
        let same : Some v ≡ Some w = rw is at found in
        let v_is : v ≡ w = cc in
        let none : v.open_id ≡ None = ap (λ (x : Wanted). x.open_id) v_is ∙ shut in
        rw (is, none) (away_unopened wanted text (others_differ v wanted text once is))
    by false is later =
        let rest : find (is_filter_of text) wanted ≡ Some w = rw is at found in
        rw is (later rest)

-- so a SUBSCRIBE of a filter of which one is owed is owed still
still_owed : (m : Link) (w : Wanted) → WantedOnce m.wanted → w.owed ≡ true → w.open_id ≡ None
    → nat_lt (length (open_ids m.wanted)) MAX_OPEN_SUBSCRIBES ≡ false
    → find (is_filter_of w.filter) m.wanted ≡ Some w
    → (subscribe_left m w.filter ≡ m) × (subscribe_leaves m w.filter ≡ [])
still_owed m w once owed shut full found =
    let there = found_wants m.wanted w.filter w found in
    let none = none_opened m.wanted w.filter w once found shut in
    let may : may_open m.wanted w.filter ≡ false = rw (full, none) refl in
    let is_owed : owed_for m.wanted w.filter ≡ true = rw found owed in
    let same = owing_same m.wanted w.filter once is_owed in
    (rw (there, may, same) refl, rw (there, may) refl)

all_idle : (m : Link) (seen left : List Wanted) → WantedOnce m.wanted → m.wanted ≡ seen ++ left
    → OwedAreClosed left → nat_lt (length (open_ids m.wanted)) MAX_OPEN_SUBSCRIBES ≡ false
    → AreIdle m (owed_in left)
all_idle m seen [] once is closed full = tt
all_idle m seen (w ∷ left) once is closed full =
    let next : m.wanted ≡ (seen ++ w ∷ []) ++ left = is ∙ sym (append_assoc seen (w ∷ []) left) in
    by w.owed refl (all_idle m (seen ++ w ∷ []) left once next closed.1 full)
  where
    by : (owed : Bool) → w.owed ≡ owed → AreIdle m (owed_in left) → AreIdle m (owed_in (w ∷ left))
    by true owed later =
        let found : find (is_filter_of w.filter) m.wanted ≡ Some w =
        ap (λ l. find (is_filter_of w.filter) l) is ∙ wants_at seen left w (rw is at once) in
        let both = still_owed m w once owed (closed.0 owed) full found in
        rw owed (both.0, both.1, later)
    by false owed later = rw owed later

-- what is owed is owed still where no more may be open
pub owed_ended : (policy : Policy) (from : List Bool) (first : List Wanted) (link : Link)
    (items others : List Item) (outs : List Out) (log : List Step) (n : Numbering) (wanted : List Wanted)
    → nat_lt (length (open_ids wanted)) MAX_OPEN_SUBSCRIBES ≡ false
    → Subscribed policy from first link items (map item.Subscribe (owed_in wanted) ++ others) outs log n wanted
    → Subscribed policy from first link items others outs log n wanted
owed_ended policy from first link items others outs log n wanted full before =
    let m : Link = numbered_at link n wanted in
    let stands = before.stands in
    let idle = all_idle m [] wanted stands.once refl stands.closed full in
    let both = idle_outs policy m (owed_in wanted) others idle in
    let none = none_asks (owed_in wanted) others in
    let room = stands.room in
    record {
      stands = record {
        wanted_is = stands.wanted_is;
        once = stands.once;
        closed = stands.closed;
        few = stands.few;
        last = stands.last;
        small = stands.small;
        marked = stands.marked;
        room = omega (arith, none, room);
        logged = stands.logged;
      };
      outs_left = ap (λ l. outs ++ l) (sym both.0) ∙ before.outs_left;
      link_left = sym both.1 ∙ before.link_left;
    }

-- the first of those of which one is owed leaves
later_is : (policy : Policy) (text : List ℕ) (outs outs_then : List Out) (log log_then : List Step)
    (n then_n : Numbering) (w later : WantedRoom) → first_owed w.wanted ≡ Some text → WantedOnce w.wanted
    → OwedAreClosed w.wanted → length (open_ids w.wanted) < MAX_OPEN_SUBSCRIBES
    → (gone : LeftBy policy (item.Subscribe text) outs outs_then log log_then n then_n w later)
    → later.wanted ≡ opened w.wanted text gone.next
later_is policy text outs outs_then log log_then n then_n w later first once closed few gone =
    let one = one_opens w.wanted text gone.next first once closed in
    ap (λ (x : WantedRoom). x.wanted) gone.wanted_is
    ∙ owed_left policy w.wanted text gone.next one.there (opens_within w.wanted text few)

pub opens_one : (policy : Policy) (text : List ℕ) (outs outs_then : List Out) (log log_then : List Step)
    (n then_n : Numbering) (w later : WantedRoom) → first_owed w.wanted ≡ Some text → WantedOnce w.wanted
    → OwedAreClosed w.wanted → length (open_ids w.wanted) < MAX_OPEN_SUBSCRIBES
    → LeftBy policy (item.Subscribe text) outs outs_then log log_then n then_n w later
    → length (open_ids later.wanted) ≡ length (open_ids w.wanted) + 1
opens_one policy text outs outs_then log log_then n then_n w later first once closed few gone =
    let one = one_opens w.wanted text gone.next first once closed in
    ap (λ l. length (open_ids l))
    (later_is policy text outs outs_then log log_then n then_n w later first once closed few gone)
    ∙ one.more

pub owed_step : (policy : Policy) (from : List Bool) (start : List Wanted) (link : Link) (items : List Item)
    (text : List ℕ) (others : List Item) (base outs outs_then more : List Out) (log log_then : List Step)
    (n then_n : Numbering) (w later : WantedRoom)
    → outs ≡ base ++ more
    → Subscribed policy from start link items (map item.Subscribe (owed_in w.wanted) ++ others) more log n
    w.wanted
    → first_owed w.wanted ≡ Some text → length (open_ids w.wanted) < MAX_OPEN_SUBSCRIBES
    → LeftBy policy (item.Subscribe text) outs outs_then log log_then n then_n w later
    → (all : List Out) × (outs_then ≡ base ++ all)
    × Subscribed policy from start link items (map item.Subscribe (owed_in later.wanted) ++ others) all
    log_then then_n later.wanted
owed_step policy from start link items text others base outs outs_then more log log_then n then_n w later
    outs_is before first few gone =
    let once = before.stands.once in
    let closed = before.stands.closed in
    let one = one_opens w.wanted text gone.next first once closed in
    let is = later_is policy text outs outs_then log log_then n then_n w later first once closed few gone in
    let owed : owed_in w.wanted ≡ text ∷ owed_in later.wanted =
    one.owed ∙ ap (λ l. text ∷ owed_in l) (sym is) in
    subscribed_step policy from start link items text (map item.Subscribe (owed_in later.wanted) ++ others)
    (map item.Subscribe (owed_in w.wanted) ++ others) base outs outs_then more log log_then n then_n w later
    outs_is before (ap (λ l. map item.Subscribe l ++ others) owed) gone
