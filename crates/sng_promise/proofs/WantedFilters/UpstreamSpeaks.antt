-- What leaves for the broker says of filters in words: the packet ids and texts that they need, which stay as
-- items leave.
use Rattle.std.proofs.Common.{◌≡◌, ℕ, ◌+◌, ◌≤◌, ◌==◌, Bool, true, false, List, [], ◌∷◌, ◌++◌, map, length}
use Rattle.std.proofs.Common.{refl, ap, sym, ◌∙◌}
use Rattle.std.proofs.Common.{if◌then◌else◌, arith}
use Rattle.std.proofs.Common.{subst}
use Rattle.std.specs.Prelude.{not, ◌&&◌, ◌||◌}
use Rattle.std.specs.Prelude.{Some}
use Rattle.std.specs.Str.{bytes_eq}
use Rattle.std.proofs.lemmas.List.{append_assoc}
use Rattle.std.proofs.lemmas.Bool.Decides.{nat_tests}
use Rattle.sng_text.specs.declared.qos.Qos.{Qos}
use Rattle.sng_text.specs.declared.qos.Qos.TheVariants.{AtMostOnce, AtLeastOnce}
use Rattle.mqtt_frames.specs.Fronts.{decode}
use Rattle.sng_outbox.specs.PacketIds.{is_used, successor, counted_on}
use Rattle.sng_outbox.specs.declared.in_flight.InFlight.{InFlight}
use Rattle.sng_outbox.specs.declared.item.Item.{Item}
use Rattle.sng_outbox.specs.declared.item.Item.TheVariants as item
use Rattle.sng_outbox.specs.declared.item.Publication.{Publication}
use Rattle.sng_book.specs.declared.outcome.Outcome.{Outcome}
use Rattle.sng_book.specs.declared.outcome.Outcome.TheVariants.{Allowed, Denied}
use Rattle.sng_book.specs.declared.out.Out.{Out}
use Rattle.sng_book.specs.declared.out.Out.TheVariants.{Send, Wire, Note}
use Rattle.sng_history.specs.Links.{Link, Wanted, wants, next_packet_id, sent_by, exited}
use Rattle.sng_history.specs.Links.{subscribe_left, unsubscribe_left, open_ids}
use Rattle.sng_history.specs.Links.{may_open, subscribe_sent, is_filter_of, opened, owing, outgoing}
use Rattle.sng_history.specs.Links.{filters_owed}
use Rattle.sng_laws.specs.Views.{wires_in}
use Rattle.sng_laws.specs.ViewsWanted.{Word, Begins, Ends, words_read, words_of, words_sent, with_open}
use Rattle.sng_laws.specs.ViewsWanted.{with_words, said_upstream}
use Rattle.sng_history.proofs.WaitingItems.{EachItem}
use Rattle.sng_history.proofs.WantedKept.{same_wants, left_same}
use Rattle.sng_history.proofs.WantedKept.{or_no}
use Rattle.sng_history.proofs.Wanted.{subscribes}
use Rattle.sng_promise.proofs.WantedFilters.UpstreamWords.{IsId}
use Rattle.sng_history.proofs.Booleans.{or_neither}
use Rattle.sng_history.proofs.Own.{same_means}
use Rattle.std.specs.List.{list_any}

-- ---- packet ids

successor_by : (n : ℕ) (b : Bool) → (n == 65535) ≡ b → n ≤ 65535 → IsId (if b then 1 else n + 1)
successor_by n true is small = record { some = omega arith; small = omega arith }
successor_by n false is small = record { some = omega arith; small = grind (arith, nat_tests, is, small) }

successor_is : (n : ℕ) → n ≤ 65535 → IsId (successor n)
successor_is n small = successor_by n (n == 65535) refl small

counted_is : (ids turns : List ℕ) (n : ℕ) → IsId n → IsId (counted_on ids turns n)
counted_is ids [] n is = is
counted_is ids (turn ∷ turns) n is =
    on (is_used ids n) (counted_is ids turns (successor n) (successor_is n is.small))
  where
    on : (b : Bool) → IsId (counted_on ids turns (successor n))
        → IsId (if b then counted_on ids turns (successor n) else n)
    on true later = later
    on false later = is

pub next_is : (link : Link) → link.last ≤ 65535 → IsId (next_packet_id link)
next_is link small =
    let ids =
    map (λ (sent : InFlight). sent.packet_id) link.in_flight ++ open_ids link.wanted in
    counted_is ids ids (successor link.last)
    (successor_is link.last small)

-- ---- what is kept as items leave

-- no filter is longer than a packet can say
abbrev pub ShortWanted : List Wanted → Type 0
ShortWanted wanted = (text : List ℕ) → wants wanted text ≡ true → length text ≤ 65535

abbrev pub ShortEnd : Item → Type 0
ShortEnd (item.Unsubscribe text) = length text ≤ 65535
ShortEnd (item.Subscribe text) = Unit {0}
ShortEnd (item.Publish p) = Unit {0}
ShortEnd (item.Acknowledge packet_id) = Unit {0}
ShortEnd item.Ping = Unit {0}

abbrev pub ShortEnds : List Item → Type 0
ShortEnds items = EachItem ShortEnd items

-- a SUBSCRIBE says nothing too long
subscribes_short : (texts : List (List ℕ)) (items : List Item) → ShortEnds items
    → ShortEnds (map item.Subscribe texts ++ items)
subscribes_short [] items short = short
subscribes_short (text ∷ texts) items short = (tt, subscribes_short texts items short)

pub outgoing_short : (link : Link) → ShortEnds link.waiting → ShortEnds (outgoing link)
outgoing_short link short = subscribes_short (filters_owed link) link.waiting short

-- what packets need that say something of filters
pub record Speaks (link : Link) : Type 0 where
  pub last : link.last ≤ 65535
  pub short : ShortWanted link.wanted

speaks_same : (a b : Link) → b.last ≤ 65535 → map (λ w. w.filter) b.wanted ≡ map (λ w. w.filter) a.wanted
    → Speaks a → Speaks b
speaks_same a b last same speaks =
    record {
      last = last;
      short =
          λ text is. speaks.short text (sym (same_wants b.wanted a.wanted same text) ∙ is);
    }

sent_last : (link : Link) (p : Publication) (q : Qos) → link.last ≤ 65535 → (sent_by link p q).last ≤ 65535
sent_last link p AtMostOnce small = small
sent_last link p AtLeastOnce small = (next_is link small).small

pub exited_last : (link : Link) (p : Publication) (o : Outcome) → link.last ≤ 65535
    → (exited link p o).last ≤ 65535
exited_last link p Allowed small = sent_last link p p.qos small
exited_last link p (Denied rule) small = small

subscribed_by : (link : Link) (text : List ℕ) (may : Bool) → may_open link.wanted text ≡ may
    → link.last ≤ 65535 → (subscribe_sent link text).last ≤ 65535
subscribed_by link text true is small = rw is (next_is link small).small
subscribed_by link text false is small = rw is small

pub subscribed_last : (link : Link) (text : List ℕ) → link.last ≤ 65535
    → (subscribe_sent link text).last ≤ 65535
subscribed_last link text small = subscribed_by link text (may_open link.wanted text) refl small

pub subscribe_last : (link : Link) (text : List ℕ) (b : Bool) → wants link.wanted text ≡ b → link.last ≤ 65535
    → (subscribe_left link text).last ≤ 65535
subscribe_last link text true is small = rw is (subscribed_last link text small)
subscribe_last link text false is small = rw is small

pub unsubscribe_last : (link : Link) (text : List ℕ) (b : Bool) → wants link.wanted text ≡ b
    → link.last ≤ 65535
    → (unsubscribe_left link text).last ≤ 65535
unsubscribe_last link text true is small = rw is small
unsubscribe_last link text false is small = rw is (next_is link small).small

pub exited_speaks : (link : Link) (p : Publication) (o : Outcome) → Speaks link → Speaks (exited link p o)
exited_speaks link p o speaks =
    speaks_same link (exited link p o) (exited_last link p o speaks.last)
    (left_same link (item.Publish p ∷ []) (o ∷ [])) speaks

pub subscribe_speaks : (link : Link) (text : List ℕ) → Speaks link → Speaks (subscribe_left link text)
subscribe_speaks link text speaks =
    speaks_same link (subscribe_left link text)
    (subscribe_last link text (wants link.wanted text) refl speaks.last)
    (left_same link (item.Subscribe text ∷ []) []) speaks

pub unsubscribe_speaks : (link : Link) (text : List ℕ) → Speaks link → Speaks (unsubscribe_left link text)
unsubscribe_speaks link text speaks =
    speaks_same link (unsubscribe_left link text)
    (unsubscribe_last link text (wants link.wanted text) refl speaks.last)
    (left_same link (item.Unsubscribe text ∷ []) []) speaks

-- ---- the words

pub wires_both : (xs ys : List Out) → wires_in (xs ++ ys) ≡ wires_in xs ++ wires_in ys
wires_both [] ys = refl
wires_both (Wire sent ∷ xs) ys = ap (λ more. sent ∷ more) (wires_both xs ys)
wires_both (Send to datagram ∷ xs) ys = wires_both xs ys
wires_both (Note said ∷ xs) ys = wires_both xs ys

words_both : (xs ys : List (List ℕ)) → words_of (xs ++ ys) ≡ words_of xs ++ words_of ys
words_both [] ys = refl
words_both (sent ∷ xs) ys =
    ap (λ more. words_read (decode sent) ++ more) (words_both xs ys)
    ∙ sym (append_assoc (words_read (decode sent)) (words_of xs) (words_of ys))

pub words_append : (xs ys : List Out) → words_sent (xs ++ ys) ≡ words_sent xs ++ words_sent ys
words_append xs ys = ap words_of (wires_both xs ys) ∙ words_both (wires_in xs) (wires_in ys)

pub said_both : (xs ys : List Word) (text : List ℕ) (before : Bool)
    → said_upstream (xs ++ ys) text before ≡ said_upstream ys text (said_upstream xs text before)
said_both [] ys text before = refl
said_both (Begins filter packet_id ∷ xs) ys text before =
    said_both xs ys text (bytes_eq text filter || before)
said_both (Ends filter ∷ xs) ys text before = said_both xs ys text (not (bytes_eq text filter) && before)

pub with_both : (xs ys : List Word) (wanted : List Wanted)
    → with_words wanted (xs ++ ys) ≡ with_words (with_words wanted xs) ys
with_both [] ys wanted = refl
with_both (Begins filter packet_id ∷ xs) ys wanted = with_both xs ys (with_open wanted filter packet_id)
with_both (Ends filter ∷ xs) ys wanted = with_both xs ys wanted

-- an UNSUBSCRIBE of the filter is among the items
abbrev pub unsubscribes : List Item → List ℕ → Bool
unsubscribes [] text = false
unsubscribes (item.Unsubscribe filter ∷ items) text = bytes_eq text filter || unsubscribes items text
unsubscribes (item.Subscribe filter ∷ items) text = unsubscribes items text
unsubscribes (item.Publish p ∷ items) text = unsubscribes items text
unsubscribes (item.Acknowledge packet_id ∷ items) text = unsubscribes items text
unsubscribes (item.Ping ∷ items) text = unsubscribes items text

-- ---- what is owed

-- of the filter a SUBSCRIBE is owed
abbrev pub owes : List Wanted → List ℕ → Bool
owes wanted text = list_any (λ w. is_filter_of text w && w.owed) wanted

-- of none that is not wanted
pub none_owes : (wanted : List Wanted) (text : List ℕ) → wants wanted text ≡ false → owes wanted text ≡ false
none_owes [] text none = refl
none_owes (w ∷ wanted) text none =
    let both = or_neither (bytes_eq text w.filter) (wants wanted text) none in
    rw both.0 (none_owes wanted text both.1)

-- two that are the same as a third are the same
alike : (a b c : List ℕ) → bytes_eq a c ≡ true → bytes_eq b c ≡ true → bytes_eq a b ≡ true
alike a b c one two = subst (λ t. bytes_eq a t ≡ true) (sym (same_means b c two)) one

one_opened : (w : Wanted) (text one : List ℕ) (n : ℕ) (b c d : Bool)
    → bytes_eq text w.filter ≡ b → bytes_eq one w.filter ≡ c → bytes_eq one text ≡ d
    → (let v : Wanted = if is_filter_of text w then record w { open_id = Some n; owed = false } else w in
    is_filter_of one v && v.owed)
    ≡ (not d && (c && w.owed))
one_opened w text one n true true true isb isc isd = rw (isb, isc) refl
one_opened w text one n true true false isb isc isd =
    absurd (let bad : true ≡ false = sym (alike one text w.filter isc isb) ∙ isd in cc)
one_opened w text one n true false true isb isc isd = rw (isb, isc) refl
one_opened w text one n true false false isb isc isd = rw (isb, isc) refl
one_opened w text one n false true true isb isc isd =
    absurd (let bad : true ≡ false =
    sym (subst (λ t. bytes_eq t w.filter ≡ true) (same_means one text isd) isc) ∙ isb in cc)
one_opened w text one n false true false isb isc isd = rw (isb, isc) refl
one_opened w text one n false false true isb isc isd = rw (isb, isc) refl
one_opened w text one n false false false isb isc isd = rw (isb, isc) refl

and_no : (a : Bool) → false ≡ (a && false)
and_no true = refl
and_no false = refl

and_spread : (k a b : Bool) → ((k && a) || (k && b)) ≡ (k && (a || b))
and_spread true a b = refl
and_spread false a b = refl

-- of a filter whose SUBSCRIBE was sent none is owed
pub opened_owes : (wanted : List Wanted) (text one : List ℕ) (n : ℕ)
    → owes (opened wanted text n) one ≡ (not (bytes_eq one text) && owes wanted one)
opened_owes [] text one n = and_no (not (bytes_eq one text))
opened_owes (w ∷ wanted) text one n =
    let d = bytes_eq one text in
    let first = is_filter_of one w && w.owed in
    ap (λ b. b || owes (opened wanted text n) one)
    (one_opened w text one n (bytes_eq text w.filter) (bytes_eq one w.filter) d refl refl refl)
    ∙ (ap (λ b. (not d && first) || b) (opened_owes wanted text one n)
    ∙ and_spread (not d) first (owes wanted one))

pub or_yes : (a : Bool) → true ≡ (a || true)
or_yes true = refl
or_yes false = refl

one_owing : (w : Wanted) (text one : List ℕ) (b c d : Bool)
    → bytes_eq text w.filter ≡ b → bytes_eq one w.filter ≡ c → bytes_eq one text ≡ d
    → (let v : Wanted = if is_filter_of text w then record w { owed = true } else w in
    is_filter_of one v && v.owed)
    ≡ ((c && w.owed) || (d && c))
one_owing w text one true true true isb isc isd = rw (isb, isc) (or_yes w.owed)
one_owing w text one true true false isb isc isd =
    absurd (let bad : true ≡ false = sym (alike one text w.filter isc isb) ∙ isd in cc)
one_owing w text one true false true isb isc isd = rw (isb, isc) refl
one_owing w text one true false false isb isc isd = rw (isb, isc) refl
one_owing w text one false true true isb isc isd =
    absurd (let bad : true ≡ false =
    sym (subst (λ t. bytes_eq t w.filter ≡ true) (same_means one text isd) isc) ∙ isb in cc)
one_owing w text one false true false isb isc isd = rw (isb, isc) (sym (or_no w.owed))
one_owing w text one false false true isb isc isd = rw (isb, isc) refl
one_owing w text one false false false isb isc isd = rw (isb, isc) refl

or_spread : (d x c y e : Bool) → ((x || (d && c)) || (y || (d && e))) ≡ ((x || y) || (d && (c || e)))
or_spread d true c y e = refl
or_spread false false c y e = refl
or_spread true false true true e = refl
or_spread true false true false e = refl
or_spread true false false y e = refl

-- of a wanted filter whose SUBSCRIBE was not sent one is
pub owing_owes : (wanted : List Wanted) (text one : List ℕ)
    → owes (owing wanted text) one ≡ (owes wanted one || (bytes_eq one text && wants wanted one))
owing_owes [] text one = and_no (bytes_eq one text)
owing_owes (w ∷ wanted) text one =
    let d = bytes_eq one text in
    let c = bytes_eq one w.filter in
    ap (λ b. b || owes (owing wanted text) one)
    (one_owing w text one (bytes_eq text w.filter) c d refl refl refl)
    ∙ (ap (λ b. ((c && w.owed) || (d && c)) || b) (owing_owes wanted text one)
    ∙ or_spread d (c && w.owed) c (owes wanted one) (wants wanted one))

-- what the broker keeps once these items left, where it kept the filter before or not, and the filter is
-- wanted or not
abbrev pub settled : Bool → List Item → List ℕ → Bool → Bool
settled wanted items text before =
    if wanted then subscribes items text || before else not (unsubscribes items text) && before

-- what these packets say of each filter, where what is owed is as good as kept
pub record Says (link after : Link) (items : List Item) (words : List Word) : Type 0 where
  pub said : (text : List ℕ) (before : Bool)
      → (said_upstream words text before || owes after.wanted text)
      ≡ settled (wants link.wanted text) items text (before || owes link.wanted text)

-- one item leaves, and then the others
pub says_then : (link mid after : Link) (one items : List Item) (first rest : List Word)
    → Says link mid one first
    → Says mid after items rest
    → map (λ w. w.filter) mid.wanted ≡ map (λ w. w.filter) link.wanted
    → ((w before : Bool) (text : List ℕ)
    → settled w items text (settled w one text before) ≡ settled w (one ++ items) text before)
    → Says link after (one ++ items) (first ++ rest)
says_then link mid after one items first rest says more same joins = record {
  said = λ text before.
      ap (λ b. b || owes after.wanted text) (said_both first rest text before)
      ∙ (more.said text (said_upstream first text before)
      ∙ (ap (λ w. settled w items text (said_upstream first text before || owes mid.wanted text))
      (same_wants mid.wanted link.wanted same text)
      ∙ (ap (settled (wants link.wanted text) items text) (says.said text before)
      ∙ joins (wants link.wanted text) (before || owes link.wanted text) text)));
}

pub says_nothing : (link mid : Link) (one : Item) → mid.wanted ≡ link.wanted
    → ((w before : Bool) (text : List ℕ) → settled w (one ∷ []) text before ≡ before)
    → Says link mid (one ∷ []) []
says_nothing link mid one same idle =
    record {
      said = λ text before.
          ap (λ wanted. before || owes wanted text) same
          ∙ sym (idle (wants link.wanted text) (before || owes link.wanted text) text);
    }

pub not_or : (a b c : Bool) → (not (a || b) && c) ≡ (not b && (not a && c))
not_or true true c = refl
not_or true false c = refl
not_or false b c = refl

pub or_turn : (a b c : Bool) → (b || (a || c)) ≡ ((a || b) || c)
or_turn true true c = refl
or_turn true false c = refl
or_turn false b c = refl

pub idle_if : (w before : Bool) → (if w then before else before) ≡ before
idle_if true before = refl
idle_if false before = refl
