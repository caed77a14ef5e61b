-- The link lets go of the filters that stand for nobody any more, and those that find no place are noted.
use Rattle.std.proofs.Common.{◌≡◌, ◌<◌, ◌-◌, ◌+◌, ℕ, zero, suc, Bool, true, false, List, [], ◌∷◌, ◌++◌, map}
use Rattle.std.proofs.Common.{take, drop, length, refl, ap, sym, ◌∙◌, subst, arith}
use Rattle.std.specs.Prelude.{if◌then◌else◌, ◌&&◌, ◌||◌, not, nat_lt, filter}
use Rattle.std.specs.List.{list_any}
use Rattle.std.specs.Str.{bytes_eq}
use Rattle.std.proofs.lemmas.List.{append-nil, append_assoc, length-append}
use Rattle.std.proofs.Math.Seq.{take-nil}
use Rattle.std.proofs.lemmas.Bool.Decides.{nat_tests}
use Rattle.sng_fan.specs.declared.held.Held.{Held}
use Rattle.sng_fan.specs.Subscriptions.{stands}
use Rattle.sng_wanted.specs.Filters.{without_wanted}
use Rattle.sng_grants.specs.Limits.{Limits}
use Rattle.sng_outbox.specs.declared.item.Item.{Item}
use Rattle.sng_outbox.specs.declared.item.Item.TheVariants as item
use Rattle.sng_book.specs.declared.decision.Decision.TheVariants as note
use Rattle.sng_book.specs.declared.out.Out.TheVariants.{Note}
use Rattle.sng_history.specs.Links.{Link, Wanted, is_filter_of}
use Rattle.sng_history.specs.Packets.{has_place}
use Rattle.sng_history.specs.Standing.{Release}
use Rattle.sng_history.specs.Standing.{places_left, drop_notes}
use Rattle.sng_link.specs.Rooms.{LinkRoom, HasPlaces}
use Rattle.sng_history.proofs.Own.{same_means}
use Rattle.sng_history.proofs.Booleans.{and_no}
use Rattle.sng_core.specs.Connecting.{dropped_notes, alone_in, let_go_one, let_go}
use Rattle.sng_core.proofs.Releasing.{texts_of}

-- ---- which of them are gone

abbrev pub gone_in : List (List ℕ) → List ℕ → Bool
gone_in texts text = list_any (λ t. bytes_eq t text) texts

alone_gone_by : (others : List ℕ → Bool) (h : Held) (held : List Held) (text : List ℕ) (b d : Bool)
    → others h.filter ≡ b → bytes_eq h.filter text ≡ d
    → gone_in (alone_in others held) text ≡ (stands held text && not (others text))
    → gone_in (if b then alone_in others held else h.filter ∷ alone_in others held) text
    ≡ ((d || stands held text) && not (others text))
alone_gone_by others h held text true true one two later =
    let e : others text ≡ true = ap others (sym (same_means h.filter text two)) ∙ one in
    later ∙ rw e (and_no (stands held text))
alone_gone_by others h held text true false one two later = later
alone_gone_by others h held text false true one two later =
    let e : others text ≡ false = ap others (sym (same_means h.filter text two)) ∙ one in
    rw (two, e) refl
alone_gone_by others h held text false false one two later = rw two later

pub alone_gone : (others : List ℕ → Bool) (held : List Held) (text : List ℕ)
    → gone_in (alone_in others held) text ≡ (stands held text && not (others text))
alone_gone others [] text = refl
alone_gone others (h ∷ held) text =
    alone_gone_by others h held text (others h.filter) (bytes_eq h.filter text) refl refl
    (alone_gone others held text)

-- ---- the link lets go of them

abbrev without_all : List Wanted → List (List ℕ) → List Wanted
without_all wanted [] = wanted
without_all wanted (t ∷ ts) = without_all (without_wanted wanted t) ts

twice_by : (t : List ℕ) (ts : List (List ℕ)) (w : Wanted) (wanted : List Wanted) (b : Bool)
    → is_filter_of t w ≡ b
    → filter (λ v. not (gone_in ts v.filter)) (without_wanted wanted t)
    ≡ filter (λ v. not (gone_in (t ∷ ts) v.filter)) wanted
    → filter (λ v. not (gone_in ts v.filter))
    (if not b then w ∷ without_wanted wanted t else without_wanted wanted t)
    ≡ (if not (b || gone_in ts w.filter) then w ∷ filter (λ v. not (gone_in (t ∷ ts) v.filter)) wanted
    else filter (λ v. not (gone_in (t ∷ ts) v.filter)) wanted)
twice_by t ts w wanted true is later = later
twice_by t ts w wanted false is later = ap (λ vs. if not (gone_in ts w.filter) then w ∷ vs else vs) later

twice : (t : List ℕ) (ts : List (List ℕ)) (wanted : List Wanted)
    → filter (λ w. not (gone_in ts w.filter)) (without_wanted wanted t)
    ≡ filter (λ w. not (gone_in (t ∷ ts) w.filter)) wanted
twice t ts [] = refl
twice t ts (w ∷ wanted) = twice_by t ts w wanted (is_filter_of t w) refl (twice t ts wanted)

all_kept : (wanted : List Wanted) → wanted ≡ filter (λ w. true) wanted
all_kept [] = refl
all_kept (w ∷ wanted) = ap (λ vs. w ∷ vs) (all_kept wanted)

pub without_gone : (wanted : List Wanted) (texts : List (List ℕ))
    → without_all wanted texts ≡ filter (λ w. not (gone_in texts w.filter)) wanted
without_gone wanted [] = all_kept wanted
without_gone wanted (t ∷ ts) = without_gone (without_wanted wanted t) ts ∙ twice t ts wanted

abbrev pub told_gone : Limits → Link → List (List ℕ) → List Item
told_gone limits link texts = map item.Unsubscribe (take (places_left limits link) texts)

abbrev pub let_go_form : Limits → Link → List (List ℕ) → Link
let_go_form limits link texts =
    record link {
      waiting = link.waiting ++ told_gone limits link texts;
      wanted = filter (λ w. not (gone_in texts w.filter)) link.wanted;
    }

pub let_go_more : (limits : Limits) (link : Link) (texts : List (List ℕ)) (text : List ℕ)
    → let_go limits link (texts ++ text ∷ []) ≡ let_go_one limits (let_go limits link texts) text
let_go_more limits link [] text = refl
let_go_more limits link (t ∷ ts) text = let_go_more limits (let_go_one limits link t) ts text

waiting_by : (most : ℕ) (w : List Item) (t : List ℕ) (ts : List (List ℕ)) (b : Bool)
    → nat_lt (length w) most ≡ b
    → (if b then w ++ item.Unsubscribe t ∷ [] else w)
    ++ map item.Unsubscribe (take
    (most - length (if b then w ++ item.Unsubscribe t ∷ [] else w)) ts)
    ≡ w ++ map item.Unsubscribe (take (most - length w) (t ∷ ts))
waiting_by most w t ts true is =
    let one : List Item = item.Unsubscribe t ∷ [] in
    let lt : length w < most = grind (arith, nat_tests, is) in
    let longer : length (w ++ one) ≡ length w + 1 = length-append w one in
    let less : most - length w ≡ suc (most - length (w ++ one)) =
    omega (arith, lt, longer) in
    append_assoc w one (map item.Unsubscribe (take (most - length (w ++ one)) ts))
    ∙ ap (λ n. w ++ map item.Unsubscribe (take n (t ∷ ts))) (sym less)
waiting_by most w t ts false is =
    let none : most - length w ≡ 0 = grind (arith, nat_tests, is) in
    ap (λ n. w ++ map item.Unsubscribe (take n ts)) none
    ∙ ap (λ n. w ++ map item.Unsubscribe (take n (t ∷ ts))) (sym none)

abbrev pub with_both : Link → List Item → List Wanted → Link
with_both link items wanted = record link { waiting = items; wanted = wanted }

pub let_go_is : (limits : Limits) (link : Link) (texts : List (List ℕ))
    → let_go limits link texts ≡ let_go_form limits link texts
let_go_is limits link [] =
    sym (ap (λ items. with_both link items (filter (λ w. true) link.wanted))
    (ap (λ more. link.waiting ++ map item.Unsubscribe more) (take-nil (places_left limits link))
    ∙ append-nil link.waiting) ∙ ap (with_both link link.waiting) (sym (all_kept link.wanted)))
let_go_is limits link (t ∷ ts) =
    let_go_is limits (let_go_one limits link t) ts
    ∙ (ap (λ items. with_both link items
    (filter (λ w. not (gone_in ts w.filter)) (without_wanted link.wanted t)))
    (waiting_by limits.waiting link.waiting t ts (has_place limits link) refl)
    ∙ ap (with_both link (link.waiting ++ told_gone limits link (t ∷ ts))) (twice t ts link.wanted))

-- ---- the room

-- there is room for the first of them, and for the rest behind it
pub one-place : (texts rest : List (List ℕ)) (text : List ℕ) (l : LinkRoom) → texts ≡ text ∷ rest
    → HasPlaces (length texts) l → HasPlaces 1 l
one-place texts rest text l is has =
    let size : length texts ≡ suc (length rest) = ap (λ (ts : List (List ℕ)). length ts) is in
    (omega (arith, size, has.0), omega (arith, size, has.1))

pub rest-places : (texts rest : List (List ℕ)) (text : List ℕ) (l : LinkRoom) → texts ≡ text ∷ rest
    → HasPlaces (length texts) l → HasPlaces (suc (length rest)) l
rest-places texts rest text l is has =
    subst (λ n. HasPlaces n l) (ap (λ (ts : List (List ℕ)). length ts) is) has

-- ---- the notes of those that are dropped

all_dropped : (rs : List Release) → drop_notes rs ≡ dropped_notes (length rs)
all_dropped [] = refl
all_dropped (r ∷ rs) = ap (λ outs. Note note.Outbox ∷ outs) (all_dropped rs)

pub drops_are : (n : ℕ) (rs : List Release) → drop_notes (drop n rs) ≡ dropped_notes (length rs - n)
drops_are zero rs =
    all_dropped rs ∙ ap dropped_notes (let same : length rs ≡ length rs - 0 = omega arith in same)
drops_are (suc n) [] = ap dropped_notes (let same : 0 ≡ 0 - suc n = omega arith in same)
drops_are (suc n) (r ∷ rs) =
    drops_are n rs ∙ ap dropped_notes
    (let same : length rs - n ≡ suc (length rs) - suc n = omega arith in same)

pub one_more_note : (n : ℕ) → dropped_notes n ++ Note note.Outbox ∷ [] ≡ dropped_notes (suc n)
one_more_note zero = refl
one_more_note (suc n) = ap (λ outs. Note note.Outbox ∷ outs) (one_more_note n)

pub take_texts : (n : ℕ) (rs : List Release)
    → map (λ r. item.Unsubscribe r.filter) (take n rs) ≡ map item.Unsubscribe (take n (texts_of rs))
take_texts zero rs = refl
take_texts (suc n) [] = refl
take_texts (suc n) (r ∷ rs) = ap (λ items. item.Unsubscribe r.filter ∷ items) (take_texts n rs)
