-- After a step no more SUBSCRIBEs are open than may be.
use Rattle.std.proofs.Common.{◌≡◌, ℕ, ◌+◌, ◌≤◌, ◌<◌, Bool, true, false, List, [], ◌∷◌, ◌++◌, map, length, refl, ap, sym}
use Rattle.std.proofs.Common.{◌∙◌, arith, subst, length-append}
use Rattle.std.specs.Prelude.{if◌then◌else◌, ◌&&◌, ◌||◌, not, nat_lt, filter, Option, Some, None, is_some}
use Rattle.std.specs.List.{list_any}
use Rattle.std.specs.Str.{bytes_eq}
use Rattle.std.proofs.lemmas.Bool.{ltb-true}
use Rattle.sng_outbox.specs.declared.item.Item.{Item}
use Rattle.sng_outbox.specs.declared.item.Item.TheVariants as item
use Rattle.sng_book.specs.declared.outcome.Outcome.{Outcome}
use Rattle.sng_history.specs.declared.limits.TheConstants.{MAX_OPEN_SUBSCRIBES}
use Rattle.sng_history.specs.Causes.{Cause}
use Rattle.sng_history.specs.Causes.{ByConnect, ByMessage, BySource, ByBroken, ByPacket, ByUp, ByDown, ByTake}
use Rattle.sng_history.specs.Causes.{ByReplace, ByTick}
use Rattle.sng_history.specs.Links.{Link, Wanted, open_id, open_ids, is_filter_of, wants, may_open, opened, owing}
use Rattle.sng_history.specs.Links.{outgoing}
use Rattle.sng_history.specs.Links.{is_open, closed, next_packet_id, exited, link_after, resumed}
use Rattle.sng_history.specs.Links.{filters_wanted, subscribe_sent, subscribes_sent, subscribe_left}
use Rattle.sng_history.specs.Links.{unsubscribe_left}
use Rattle.sng_history.specs.Packets.{Answer, Delivers, Acknowledges, Grants, Refuses, Confirms, Strange}
use Rattle.sng_history.specs.Packets.{answer_of, answered}
use Rattle.sng_history.specs.Standing.{is_held, still_wanted}
use Rattle.sng_history.specs.State.{State, later, link_moved, with_wanted, joined}
use Rattle.sng_history.specs.Exits.{exits_of}
use Rattle.sng_history.specs.Lawful.{exits_for}
use Rattle.sng_history.specs.Steps.{clients_next, asked_for, next_by}
use Rattle.sng_history.specs.Good.{WantedOnce, Good}
use Rattle.sng_history.proofs.Own.{same_means}
use Rattle.sng_history.proofs.WantedKept.{once_texts, answered_same, sent_filters, exited_same, ticked_wanted}

-- ---- how many are open

abbrev pub opens : List Wanted → ℕ
opens wanted = length (open_ids wanted)

-- one of the filter is
abbrev is_open_for : List ℕ → List Wanted → Bool
is_open_for text wanted = list_any (λ w. is_filter_of text w && is_some w.open_id) wanted

opens_first : (w : Wanted) (wanted : List Wanted) → opens (w ∷ wanted) ≡ length (open_id w.open_id) + opens wanted
opens_first w wanted = length-append (open_id w.open_id) (open_ids wanted)

one_open : (id : Option ℕ) → length (open_id id) ≤ 1
one_open None = omega arith
one_open (Some packet_id) = omega arith

is_one : (id : Option ℕ) → is_some id ≡ true → length (open_id id) ≡ 1
is_one None is = absurd (cc)
is_one (Some packet_id) is = refl

-- entries that keep their packet ids
opens_map : (f : Wanted → Wanted) (wanted : List Wanted) → ((w : Wanted) → (f w).open_id ≡ w.open_id)
    → opens (map f wanted) ≡ opens wanted
opens_map f [] same = refl
opens_map f (w ∷ wanted) same =
    omega (
      arith,
      opens_first (f w) (map f wanted),
      opens_first w wanted,
      ap (λ id. length (open_id id)) (same w),
      opens_map f wanted same,
    )

entry_id : (b : Bool) (w v : Wanted) → v.open_id ≡ w.open_id
    → (let u : Wanted = if b then v else w in u).open_id ≡ w.open_id
entry_id true w v same = same
entry_id false w v same = refl

owing_opens : (wanted : List Wanted) (text : List ℕ) → opens (owing wanted text) ≡ opens wanted
owing_opens wanted text =
    opens_map _ wanted (λ w. entry_id (is_filter_of text w) w (record w { owed = true }) refl)

-- where the filter is not wanted, none is open for it
away_by : (w : Wanted) (text : List ℕ) (packet_id : ℕ) (b : Bool) (rest : List Wanted) (later : Bool)
    → is_filter_of text w ≡ b → (b || later) ≡ false → (later ≡ false → opens (opened rest text packet_id) ≡ opens rest)
    → opens (opened (w ∷ rest) text packet_id) ≡ opens (w ∷ rest)
away_by w text packet_id true rest later is none more = absurd (cc)
away_by w text packet_id false rest later is none more =
    rw is (omega (arith, opens_first w (opened rest text packet_id), opens_first w rest, more none))

opened_away : (wanted : List Wanted) (text : List ℕ) (packet_id : ℕ) → wants wanted text ≡ false
    → opens (opened wanted text packet_id) ≡ opens wanted
opened_away [] text packet_id none = refl
opened_away (w ∷ wanted) text packet_id none =
    away_by w text packet_id (is_filter_of text w) wanted (wants wanted text) refl none
    (λ later. opened_away wanted text packet_id later)

open_by : (w : Wanted) (text : List ℕ) (rest : List Wanted) (b : Bool) → is_filter_of text w ≡ b
    → (b || wants rest text) ≡ false
    → (wants rest text ≡ false → is_open_for text rest ≡ false)
    → is_open_for text (w ∷ rest) ≡ false
open_by w text rest true is none later = absurd cc
open_by w text rest false is none later = rw is (later none)

open_away : (wanted : List Wanted) (text : List ℕ) → wants wanted text ≡ false → is_open_for text wanted ≡ false
open_away [] text none = refl
open_away (w ∷ wanted) text none =
    open_by w text wanted (is_filter_of text w) refl none (λ away. open_away wanted text away)

-- ---- one more that is open

-- the first entry is of the filter, and no other
opened_here : (w : Wanted) (wanted : List Wanted) (text : List ℕ) (packet_id : ℕ) → is_filter_of text w ≡ true
    → wants wanted w.filter ≡ false
    → opens (opened (w ∷ wanted) text packet_id) ≡ 1 + opens wanted
opened_here w wanted text packet_id is once =
    let none : wants wanted text ≡ false = ap (wants wanted) (same_means text w.filter is) ∙ once in
    rw is
    (omega (
      arith,
      opens_first (record w { open_id = Some packet_id; owed = false }) (opened wanted text packet_id),
      opened_away wanted text packet_id none,
    ))

more_by : (w : Wanted) (wanted : List Wanted) (text : List ℕ) (packet_id : ℕ) (b : Bool) → is_filter_of text w ≡ b
    → wants wanted w.filter ≡ false → opens (opened wanted text packet_id) ≤ opens wanted + 1
    → opens (opened (w ∷ wanted) text packet_id) ≤ opens (w ∷ wanted) + 1
more_by w wanted text packet_id true is once rest =
    omega (arith, opened_here w wanted text packet_id is once, opens_first w wanted)
more_by w wanted text packet_id false is once rest =
    rw is (omega (arith, opens_first w (opened wanted text packet_id), opens_first w wanted, rest))

one_more : (wanted : List Wanted) (text : List ℕ) (packet_id : ℕ) → WantedOnce wanted
    → opens (opened wanted text packet_id) ≤ opens wanted + 1
one_more [] text packet_id once = omega arith
one_more (w ∷ wanted) text packet_id once =
    more_by w wanted text packet_id (is_filter_of text w) refl once.0 (one_more wanted text packet_id once.1)

-- one that was open gives way to it
instead_by : (w : Wanted) (wanted : List Wanted) (text : List ℕ) (packet_id : ℕ) (b : Bool)
    → is_filter_of text w ≡ b → wants wanted w.filter ≡ false → is_open_for text (w ∷ wanted) ≡ true
    → (is_open_for text wanted ≡ true → opens (opened wanted text packet_id) ≡ opens wanted)
    → opens (opened (w ∷ wanted) text packet_id) ≡ opens (w ∷ wanted)
instead_by w wanted text packet_id true is once some rest =
    let none : is_open_for text wanted ≡ false =
    open_away wanted text (ap (wants wanted) (same_means text w.filter is) ∙ once) in
    let first : is_some w.open_id ≡ true =
    first_of (is_some w.open_id) (is_open_for text wanted) none
    (ap (λ b. (b && is_some w.open_id) || is_open_for text wanted) (sym is) ∙ some) in
    omega (
      arith,
      opened_here w wanted text packet_id is once,
      opens_first w wanted,
      is_one w.open_id first,
    )
  where
    first_of : (a b : Bool) → b ≡ false → (a || b) ≡ true → a ≡ true
    first_of true b none some = refl
    first_of false b none some = absurd (let bad : true ≡ false = sym some ∙ none in cc)
instead_by w wanted text packet_id false is once some rest =
    let later : is_open_for text wanted ≡ true =
    ap (λ b. (b && is_some w.open_id) || is_open_for text wanted) (sym is) ∙ some in
    rw is (omega (arith, opens_first w (opened wanted text packet_id), opens_first w wanted, rest later))

instead : (wanted : List Wanted) (text : List ℕ) (packet_id : ℕ) → WantedOnce wanted
    → is_open_for text wanted ≡ true → opens (opened wanted text packet_id) ≡ opens wanted
instead [] text packet_id once some = absurd (cc)
instead (w ∷ wanted) text packet_id once some =
    instead_by w wanted text packet_id (is_filter_of text w) refl once.0 some
    (λ later. instead wanted text packet_id once.1 later)

-- ---- the link

-- each filter is wanted once, and no more SUBSCRIBEs are open than may be
pub record FewOpen (wanted : List Wanted) : Type 0 where
  pub once : WantedOnce wanted
  pub few : opens wanted ≤ MAX_OPEN_SUBSCRIBES

may_by : (wanted : List Wanted) (text : List ℕ) (packet_id : ℕ) (fits : Bool)
    → nat_lt (opens wanted) MAX_OPEN_SUBSCRIBES ≡ fits → (fits || is_open_for text wanted) ≡ true
    → FewOpen wanted
    → opens (opened wanted text packet_id) ≤ MAX_OPEN_SUBSCRIBES
may_by wanted text packet_id true fits may are =
    omega (arith, one_more wanted text packet_id are.once, ltb-true (opens wanted) MAX_OPEN_SUBSCRIBES fits)
may_by wanted text packet_id false fits may are =
    omega (arith, instead wanted text packet_id are.once may, are.few)

sent_by_test : (link : Link) (text : List ℕ) (may : Bool) → may_open link.wanted text ≡ may
    → FewOpen link.wanted → opens (subscribe_sent link text).wanted ≤ MAX_OPEN_SUBSCRIBES
sent_by_test link text true is are =
    rw is (may_by link.wanted text (next_packet_id link) (nat_lt (opens link.wanted) MAX_OPEN_SUBSCRIBES) refl is
    are)
sent_by_test link text false is are = rw is (omega (arith, owing_opens link.wanted text, are.few))

pub sent_open : (link : Link) (text : List ℕ) → FewOpen link.wanted → FewOpen (subscribe_sent link text).wanted
sent_open link text are = record {
  once = once_texts (subscribe_sent link text).wanted link.wanted (sent_filters link text) are.once;
  few = sent_by_test link text (may_open link.wanted text) refl are;
}

pub anew_open : (link : Link) (texts : List (List ℕ)) → FewOpen link.wanted
    → FewOpen (subscribes_sent link texts).wanted
anew_open link [] are = are
anew_open link (text ∷ texts) are = anew_open (subscribe_sent link text) texts (sent_open link text are)

left_open : (link : Link) (text : List ℕ) (b : Bool) → wants link.wanted text ≡ b → FewOpen link.wanted
    → FewOpen (subscribe_left link text).wanted
left_open link text true is are = rw is (sent_open link text are)
left_open link text false is are = rw is are

ended_open : (link : Link) (text : List ℕ) (b : Bool) → wants link.wanted text ≡ b → FewOpen link.wanted
    → FewOpen (unsubscribe_left link text).wanted
ended_open link text true is are = rw is are
ended_open link text false is are = rw is are

pub after_open : (link : Link) (items : List Item) (outcomes : List Outcome) → FewOpen link.wanted
    → FewOpen (link_after link items outcomes).wanted
after_open link [] outcomes are = are
after_open link (item.Publish p ∷ items) [] are = are
after_open link (item.Publish p ∷ items) (o ∷ outcomes) are =
    after_open (exited link p o) items outcomes (subst FewOpen (sym (exited_same link p o)) are)
after_open link (item.Subscribe text ∷ items) outcomes are =
    after_open (subscribe_left link text) items outcomes
    (left_open link text (wants link.wanted text) refl are)
after_open link (item.Unsubscribe text ∷ items) outcomes are =
    after_open (unsubscribe_left link text) items outcomes
    (ended_open link text (wants link.wanted text) refl are)
after_open link (item.Acknowledge packet_id ∷ items) outcomes are = after_open link items outcomes are
after_open link (item.Ping ∷ items) outcomes are = after_open link items outcomes are

-- ---- fewer

closed_by : (w : Wanted) (wanted rest : List Wanted) (b : Bool) → opens rest ≤ opens wanted
    → opens ((let v : Wanted = if b then record w { open_id = None } else w in v) ∷ rest) ≤ opens (w ∷ wanted)
closed_by w wanted rest true fewer = omega (arith, opens_first w wanted, fewer)
closed_by w wanted rest false fewer = omega (arith, opens_first w wanted, opens_first w rest, fewer)

closed_fewer : (wanted : List Wanted) (packet_id : ℕ) → opens (closed wanted packet_id) ≤ opens wanted
closed_fewer [] packet_id = omega arith
closed_fewer (w ∷ wanted) packet_id =
    closed_by w wanted (closed wanted packet_id) (is_open packet_id w) (closed_fewer wanted packet_id)

answered_few : (link : Link) (a : Answer) → opens (answered link a).wanted ≤ opens link.wanted
answered_few link (Delivers p) = omega arith
answered_few link (Acknowledges packet_id) = omega arith
answered_few link (Grants packet_id) = closed_fewer link.wanted packet_id
answered_few link (Refuses packet_id) = closed_fewer link.wanted packet_id
answered_few link Confirms = omega arith
answered_few link Strange = omega arith

pub answered_open : (link : Link) (a : Answer) → FewOpen link.wanted → FewOpen (answered link a).wanted
answered_open link a are = record {
  once = once_texts (answered link a).wanted link.wanted (answered_same link a) are.once;
  few = omega (arith, answered_few link a, are.few);
}

still_by : (w : Wanted) (wanted rest : List Wanted) (b : Bool) → opens rest ≤ opens wanted
    → opens (if b then w ∷ rest else rest) ≤ opens (w ∷ wanted)
still_by w wanted rest true fewer = omega (arith, opens_first w wanted, opens_first w rest, fewer)
still_by w wanted rest false fewer = omega (arith, opens_first w wanted, fewer)

still_fewer : (keep : List ℕ → Bool) (wanted : List Wanted)
    → opens (filter (λ w. keep w.filter) wanted) ≤ opens wanted
still_fewer keep [] = omega arith
still_fewer keep (w ∷ wanted) =
    still_by w wanted (filter (λ v. keep v.filter) wanted) (keep w.filter) (still_fewer keep wanted)

opens_append : (xs ys : List Wanted) → opens (xs ++ ys) ≡ opens xs + opens ys
opens_append [] ys = omega arith
opens_append (w ∷ xs) ys =
    omega (arith, opens_first w (xs ++ ys), opens_first w xs, opens_append xs ys)

with_by : (wanted : List Wanted) (text : List ℕ) (there : Bool)
    → opens (if there then wanted else wanted ++ record { filter = text; open_id = None; owed = false } ∷ [])
    ≡ opens wanted
with_by wanted text true = refl
with_by wanted text false =
    omega (arith, opens_append wanted (record { filter = text; open_id = None; owed = false } ∷ []))

joined_opens : (wanted : List Wanted) (items : List Item) → opens (joined wanted items) ≡ opens wanted
joined_opens wanted [] = refl
joined_opens wanted (item.Subscribe text ∷ items) =
    joined_opens (with_wanted wanted text) items ∙ with_by wanted text (wants wanted text)
joined_opens wanted (item.Publish p ∷ items) = joined_opens wanted items
joined_opens wanted (item.Unsubscribe text ∷ items) = joined_opens wanted items
joined_opens wanted (item.Acknowledge packet_id ∷ items) = joined_opens wanted items
joined_opens wanted (item.Ping ∷ items) = joined_opens wanted items

-- ---- a step

take_open : (s : State) (up : Bool) → s.up ≡ up → FewOpen s.link.wanted
    → FewOpen (link_moved s ByTake (exits_for s ByTake)).wanted
take_open s true is are =
    rw is (after_open s.link (outgoing s.link) (exits_of s.policy (outgoing s.link)) are)
take_open s false is are = rw is are

few_by : (s : State) (c : Cause) → Good s → opens (next_by s c).link.wanted ≤ MAX_OPEN_SUBSCRIBES
few_by s (ByConnect from connect) good =
    omega (arith, still_fewer (is_held (clients_next s (ByConnect from connect))) s.link.wanted, good.few_subscribes)
few_by s (ByMessage from request) good =
    let c = ByMessage from request in
    omega (
      arith,
      joined_opens (still_wanted (clients_next s c) s.link.wanted) (asked_for s c),
      still_fewer (is_held (clients_next s c)) s.link.wanted,
      good.few_subscribes,
    )
few_by s (BySource from p) good = good.few_subscribes
few_by s (ByBroken from rule) good = good.few_subscribes
few_by s (ByPacket p) good =
    omega (
      arith,
      still_fewer (is_held (clients_next s (ByPacket p))) (answered s.link (answer_of p)).wanted,
      answered_few s.link (answer_of p),
      good.few_subscribes,
    )
few_by s ByUp good =
    (anew_open (resumed s.link s.clock (exits_for s ByUp)) (filters_wanted s.link)
    (record { once = good.wanted_once; few = good.few_subscribes })).few
few_by s ByDown good = good.few_subscribes
few_by s ByTake good =
    (take_open s s.up refl (record { once = good.wanted_once; few = good.few_subscribes })).few
few_by s (ByReplace policy) good =
    omega (arith, still_fewer (is_held (clients_next s (ByReplace policy))) s.link.wanted, good.few_subscribes)
few_by s (ByTick clock) good =
    subst (λ (ws : List Wanted). opens ws ≤ MAX_OPEN_SUBSCRIBES)
    (sym (ticked_wanted s.policy.limits s.up s.link (later s.clock clock) s.clients)) good.few_subscribes

pub few_subscribes_next : (s : State) (c : Cause) → Good s
    → length (open_ids (next_by s c).link.wanted) ≤ MAX_OPEN_SUBSCRIBES
few_subscribes_next s c good = few_by s c good
