-- What leaves for the broker, and what it answers, keeps the filters that are wanted.
use Rattle.std.proofs.Common.{◌≡◌, ℕ, Bool, true, false, List, [], ◌∷◌, map, refl, ap, sym, ◌∙◌}
use Rattle.std.specs.Prelude.{if◌then◌else◌, ◌&&◌, ◌||◌, filter, Option, Some, None}
use Rattle.std.specs.List.{list_any}
use Rattle.std.specs.Str.{bytes_eq}
use Rattle.sng_text.specs.declared.qos.Qos.{Qos}
use Rattle.sng_text.specs.declared.qos.Qos.TheVariants.{AtMostOnce, AtLeastOnce}
use Rattle.sng_grants.specs.Limits.{Limits}
use Rattle.sng_outbox.specs.declared.item.Publication.{Publication}
use Rattle.sng_outbox.specs.declared.item.Item.{Item}
use Rattle.sng_outbox.specs.declared.item.Item.TheVariants as item
use Rattle.sng_book.specs.declared.outcome.Outcome.{Outcome}
use Rattle.sng_book.specs.declared.outcome.Outcome.TheVariants.{Allowed, Denied}
use Rattle.sng_history.specs.Causes.{Cause}
use Rattle.sng_history.specs.Causes.{ByConnect, ByMessage, BySource, ByBroken, ByPacket, ByUp, ByDown, ByTake}
use Rattle.sng_history.specs.Causes.{ByReplace, ByTick}
use Rattle.sng_history.specs.Links.{Link, Wanted, is_filter_of, wants, may_open, opened, owing, is_open, closed}
use Rattle.sng_history.specs.Links.{outgoing}
use Rattle.sng_history.specs.Links.{next_packet_id, sent_by, exited, link_after, resumed, filters_wanted}
use Rattle.sng_history.specs.Links.{subscribe_sent, subscribes_sent, subscribe_left, unsubscribe_left}
use Rattle.sng_history.specs.Packets.{Answer, Delivers, Acknowledges, Grants, Refuses, Confirms, Strange}
use Rattle.sng_history.specs.Packets.{answer_of, answered}
use Rattle.sng_history.specs.Clients.{Client}
use Rattle.sng_history.specs.Ticking.{ticked}
use Rattle.sng_history.specs.State.{State, later, link_moved}
use Rattle.sng_history.specs.Exits.{exits_of}
use Rattle.sng_history.specs.Lawful.{exits_for}
use Rattle.sng_history.specs.Good.{WantedOnce}
use Rattle.sng_history.proofs.Own.{same_means}
use Rattle.sng_history.proofs.Ticked.{ticked_holds}
use Rattle.sng_history.proofs.Booleans.{and_no}

-- ---- booleans

pub or_no : (a : Bool) → (a || false) ≡ a
or_no true = refl
or_no false = refl

pub or_back : (a b c : Bool) → (a || (b || c)) ≡ ((a || b) || c)
or_back true b c = refl
or_back false b c = refl

pub swap : (a b c d : Bool) → ((a || b) || (c || d)) ≡ ((a || c) || (b || d))
swap true b c d = refl
swap false true true d = refl
swap false true false d = refl
swap false false c d = refl

-- one that is kept only where it is there, with what joins
pub joins : (held asked : Bool) → ((held && (held || asked)) || asked) ≡ (held || asked)
joins true asked = refl
joins false true = refl
joins false false = refl

pub implied : (before after : Bool) → (after ≡ true → before ≡ true) → (before && after) ≡ after
implied true after follows = refl
implied false true follows = follows refl
implied false false follows = refl

-- ---- wanted filters

wants_by : (keep : List ℕ → Bool) (w : Wanted) (wanted : List Wanted) (text : List ℕ) (same kept : Bool)
    → is_filter_of text w ≡ same → keep w.filter ≡ kept
    → wants (filter (λ v. keep v.filter) wanted) text ≡ (wants wanted text && keep text)
    → wants (if kept then w ∷ filter (λ v. keep v.filter) wanted else filter (λ v. keep v.filter) wanted) text
    ≡ ((same || wants wanted text) && keep text)
wants_by keep w wanted text true true is may later = rw is (sym (ap keep (same_means text w.filter is) ∙ may))
wants_by keep w wanted text true false is may later =
    let no : keep text ≡ false = ap keep (same_means text w.filter is) ∙ may in
    later ∙ (rw no (and_no (wants wanted text)))
wants_by keep w wanted text false true is may later = rw is later
wants_by keep w wanted text false false is may later = later

-- the entries that are kept by their filter alone
pub wants_kept : (keep : List ℕ → Bool) (wanted : List Wanted) (text : List ℕ)
    → wants (filter (λ w. keep w.filter) wanted) text ≡ (wants wanted text && keep text)
wants_kept keep [] text = refl
wants_kept keep (w ∷ wanted) text =
    wants_by keep w wanted text (is_filter_of text w) (keep w.filter) refl refl (wants_kept keep wanted text)

-- other packet ids leave the filters
abbrev pub SameFilters : List Wanted → List Wanted → Type 0
SameFilters a b = map (λ w. w.filter) a ≡ map (λ w. w.filter) b

wants_texts : (wanted : List Wanted) (text : List ℕ)
    → wants wanted text ≡ list_any (bytes_eq text) (map (λ w. w.filter) wanted)
wants_texts [] text = refl
wants_texts (w ∷ wanted) text = ap (λ b. bytes_eq text w.filter || b) (wants_texts wanted text)

pub same_wants : (a b : List Wanted) → SameFilters a b → (text : List ℕ) → wants a text ≡ wants b text
same_wants a b same text =
    wants_texts a text ∙ (ap (list_any (bytes_eq text)) same ∙ sym (wants_texts b text))

-- something else is kept of entries, but not another filter
same_map : (f : Wanted → Wanted) (wanted : List Wanted) → ((w : Wanted) → (f w).filter ≡ w.filter)
    → SameFilters (map f wanted) wanted
same_map f [] same = refl
same_map f (w ∷ wanted) same = rw (same w, same_map f wanted same) refl

entry_if : (b : Bool) (w v : Wanted) → v.filter ≡ w.filter
    → (let u : Wanted = if b then v else w in u).filter ≡ w.filter
entry_if true w v same = same
entry_if false w v same = refl

opened_same : (wanted : List Wanted) (text : List ℕ) (packet_id : ℕ)
    → SameFilters (opened wanted text packet_id) wanted
opened_same wanted text packet_id =
    same_map _ wanted
    (λ w. entry_if (is_filter_of text w) w (record w { open_id = Some packet_id; owed = false }) refl)

owing_same : (wanted : List Wanted) (text : List ℕ) → SameFilters (owing wanted text) wanted
owing_same wanted text =
    same_map _ wanted (λ w. entry_if (is_filter_of text w) w (record w { owed = true }) refl)

pub closed_same : (wanted : List Wanted) (packet_id : ℕ) → SameFilters (closed wanted packet_id) wanted
closed_same wanted packet_id =
    same_map _ wanted (λ w. entry_if (is_open packet_id w) w (record w { open_id = None }) refl)

pub once_texts : (a b : List Wanted) → SameFilters a b → WantedOnce b → WantedOnce a
once_texts [] b same once = tt
once_texts (v ∷ a) [] same once = absurd (cc)
once_texts (v ∷ a) (w ∷ b) same once =
    let heads : v.filter ≡ w.filter = ap (first w.filter) same in
    let tails : SameFilters a b = ap rest same in
    (same_wants a b tails v.filter ∙ (ap (wants b) heads ∙ once.0), once_texts a b tails once.1)
  where
    first : List ℕ → List (List ℕ) → List ℕ
    first default [] = default
    first default (x ∷ xs) = x

    rest : List (List ℕ) → List (List ℕ)
    rest [] = []
    rest (x ∷ xs) = xs

-- ---- what leaves keeps them

sent_same : (link : Link) (p : Publication) (q : Qos) → (sent_by link p q).wanted ≡ link.wanted
sent_same link p AtMostOnce = refl
sent_same link p AtLeastOnce = refl

pub exited_same : (link : Link) (p : Publication) (o : Outcome) → (exited link p o).wanted ≡ link.wanted
exited_same link p Allowed = sent_same link p p.qos
exited_same link p (Denied rule) = refl

sent_filters_by : (link : Link) (text : List ℕ) (may : Bool) → may_open link.wanted text ≡ may
    → SameFilters (subscribe_sent link text).wanted link.wanted
sent_filters_by link text true is = rw is (opened_same link.wanted text (next_packet_id link))
sent_filters_by link text false is = rw is (owing_same link.wanted text)

pub sent_filters : (link : Link) (text : List ℕ) → SameFilters (subscribe_sent link text).wanted link.wanted
sent_filters link text = sent_filters_by link text (may_open link.wanted text) refl

subscribe_same : (link : Link) (text : List ℕ) (b : Bool) → wants link.wanted text ≡ b
    → SameFilters (subscribe_left link text).wanted link.wanted
subscribe_same link text true is = rw is (sent_filters link text)
subscribe_same link text false is = rw is refl

unsubscribe_same : (link : Link) (text : List ℕ) (b : Bool) → wants link.wanted text ≡ b
    → SameFilters (unsubscribe_left link text).wanted link.wanted
unsubscribe_same link text true is = rw is refl
unsubscribe_same link text false is = rw is refl

pub left_same : (link : Link) (items : List Item) (outcomes : List Outcome)
    → SameFilters (link_after link items outcomes).wanted link.wanted
left_same link [] outcomes = refl
left_same link (item.Publish p ∷ items) [] = refl
left_same link (item.Publish p ∷ items) (o ∷ outcomes) =
    left_same (exited link p o) items outcomes ∙ ap (map (λ w. w.filter)) (exited_same link p o)
left_same link (item.Subscribe text ∷ items) outcomes =
    left_same (subscribe_left link text) items outcomes
    ∙ subscribe_same link text (wants link.wanted text) refl
left_same link (item.Unsubscribe text ∷ items) outcomes =
    left_same (unsubscribe_left link text) items outcomes
    ∙ unsubscribe_same link text (wants link.wanted text) refl
left_same link (item.Acknowledge packet_id ∷ items) outcomes = left_same link items outcomes
left_same link (item.Ping ∷ items) outcomes = left_same link items outcomes

anew_same : (link : Link) (texts : List (List ℕ))
    → SameFilters (subscribes_sent link texts).wanted link.wanted
anew_same link [] = refl
anew_same link (text ∷ texts) =
    anew_same (subscribe_sent link text) texts ∙ sent_filters link text

pub answered_same : (link : Link) (a : Answer) → SameFilters (answered link a).wanted link.wanted
answered_same link (Delivers p) = refl
answered_same link (Acknowledges packet_id) = refl
answered_same link (Grants packet_id) = closed_same link.wanted packet_id
answered_same link (Refuses packet_id) = closed_same link.wanted packet_id
answered_same link Confirms = refl
answered_same link Strange = refl

take_same : (s : State) (b : Bool) → s.up ≡ b
    → SameFilters (link_moved s ByTake (exits_for s ByTake)).wanted s.link.wanted
take_same s true is = rw is (left_same s.link (outgoing s.link) (exits_of s.policy (outgoing s.link)))
take_same s false is = rw is refl

-- a tick leaves them as they are
pub ticked_wanted : (limits : Limits) (up : Bool) (link : Link) (clock : ℕ) (xs : List Client)
    → (ticked limits up link clock xs).wanted ≡ link.wanted
ticked_wanted limits up link clock xs =
    ticked_holds limits (λ l. l.wanted ≡ link.wanted)
    (record { publish = λ l p room same. same; ping = λ l now same. same }) up link clock xs refl

pub moved_wanted : (s : State) (c : Cause) → SameFilters (link_moved s c (exits_for s c)).wanted s.link.wanted
moved_wanted s (ByConnect from connect) = refl
moved_wanted s (ByMessage from request) = refl
moved_wanted s (BySource from p) = refl
moved_wanted s (ByBroken from rule) = refl
moved_wanted s (ByPacket p) = answered_same s.link (answer_of p)
moved_wanted s ByUp = anew_same (resumed s.link s.clock (exits_for s ByUp)) (filters_wanted s.link)
moved_wanted s ByDown = refl
moved_wanted s ByTake = take_same s s.up refl
moved_wanted s (ByReplace policy) = refl
moved_wanted s (ByTick clock) =
    ap (map (λ w. w.filter)) (ticked_wanted s.policy.limits s.up s.link (later s.clock clock) s.clients)
