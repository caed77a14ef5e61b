-- A SUBSCRIBE that had to leave and did not is owed, as the rows show it.
use Rattle.std.proofs.Common.{◌≡◌, ℕ, ◌≤◌, Bool, true, false, List, [], ◌∷◌, ◌++◌, map, length}
use Rattle.std.proofs.Common.{refl, ap, sym, ◌∙◌, subst}
use Rattle.std.proofs.Common.{if◌then◌else◌}
use Rattle.std.specs.Prelude.{◌&&◌, ◌||◌, filter, Some, is_some}
use Rattle.std.specs.List.{list_any}
use Rattle.std.specs.Str.{bytes_eq}
use Rattle.sng_grants.specs.declared.policy.Policy.{Policy}
use Rattle.sng_outbox.specs.declared.item.Item.{Item}
use Rattle.sng_outbox.specs.declared.item.Item.TheVariants as item
use Rattle.sng_history.specs.Good.{WantedOnce}
use Rattle.sng_history.specs.Exits.{exits_of, forwarded, leaving, subscribe_leaves, subscribe_out, subscribing}
use Rattle.sng_history.specs.Exits.{unsubscribe_leaves}
use Rattle.sng_history.specs.Links.{Link, Wanted, is_filter_of, wants, may_open, opened, owing, next_packet_id}
use Rattle.sng_history.specs.Links.{packet_id_by, exited, link_after, subscribe_sent, subscribes_sent}
use Rattle.sng_history.specs.Links.{filters_owed, outgoing, subscribe_left, unsubscribe_left}
use Rattle.sng_history.specs.Verdicts.{exit}
use Rattle.sng_laws.specs.ViewsWanted.{Word, Begins, Ends, words_sent, with_open, with_words}
use Rattle.sng_history.proofs.Booleans.{or_neither, or_right}
use Rattle.sng_history.proofs.Own.{flip, same_means, same_self}
use Rattle.sng_history.proofs.Wanted.{subscribes, subscribes_both}
use Rattle.sng_history.proofs.WantedKept.{or_no, same_wants, sent_filters}
use Rattle.sng_promise.proofs.WantedFilters.UpstreamWords.{ack_quiet, ping_quiet, subscribe_read}
use Rattle.sng_promise.proofs.WantedFilters.UpstreamWords.{unsubscribe_read}
use Rattle.sng_promise.proofs.WantedFilters.UpstreamSpeaks.{ShortEnds, Speaks, exited_speaks, next_is}
use Rattle.sng_promise.proofs.WantedFilters.UpstreamSpeaks.{or_yes, subscribe_speaks, unsubscribe_speaks}
use Rattle.sng_promise.proofs.WantedFilters.UpstreamSpeaks.{none_owes, outgoing_short, owes, words_append}
use Rattle.sng_promise.proofs.WantedFilters.UpstreamLeaving.{EachWanted, exited_wanted, forwarded_quiet}
use Rattle.sng_promise.proofs.WantedFilters.UpstreamLeaving.{still_each}

-- ---- what the words begin

-- a SUBSCRIBE of the filter is among the words
abbrev begins_in : List Word → List ℕ → Bool
begins_in [] text = false
begins_in (Begins one packet_id ∷ words) text = bytes_eq text one || begins_in words text
begins_in (Ends one ∷ words) text = begins_in words text

or_group : (a b c : Bool) → (a || (b || c)) ≡ ((a || b) || c)
or_group true b c = refl
or_group false b c = refl

begins_both : (xs ys : List Word) (text : List ℕ)
    → begins_in (xs ++ ys) text ≡ (begins_in xs text || begins_in ys text)
begins_both [] ys text = refl
begins_both (Begins one packet_id ∷ xs) ys text =
    ap (λ b. bytes_eq text one || b) (begins_both xs ys text)
    ∙ or_group (bytes_eq text one) (begins_in xs text) (begins_in ys text)
begins_both (Ends one ∷ xs) ys text = begins_both xs ys text

-- entries that differ at most in what is owed of a filter that the words begin
abbrev SameBut : List Word → List Wanted → List Wanted → Type 0
SameBut words [] [] = Unit {0}
SameBut words (a ∷ xs) (b ∷ ys) =
    (a.filter ≡ b.filter) × ((a.open_id ≡ b.open_id)
    × ((begins_in words b.filter ≡ false → a.owed ≡ b.owed) × SameBut words xs ys))
SameBut words [] (b ∷ ys) = ⊥
SameBut words (a ∷ xs) [] = ⊥

entries_same : (xs ys : List Wanted) → SameBut [] xs ys → xs ≡ ys
entries_same [] [] same = refl
entries_same (a ∷ xs) (b ∷ ys) same =
    ap (λ filter. record { filter = filter; open_id = a.open_id; owed = a.owed } ∷ xs) same.0
    ∙ (ap (λ id. record { filter = b.filter; open_id = id; owed = a.owed } ∷ xs) same.1.0
    ∙ (ap (λ owed. record { filter = b.filter; open_id = b.open_id; owed = owed } ∷ xs) (same.1.1.0 refl)
    ∙ ap (λ rest. b ∷ rest) (entries_same xs ys same.1.1.1)))
entries_same [] (b ∷ ys) same = absurd same
entries_same (a ∷ xs) [] same = absurd same

no_other : (a b : List ℕ) (rest : Bool) → bytes_eq b a ≡ false → rest ≡ false → (bytes_eq a b || rest) ≡ false
no_other a b rest apart none = rw (flip a b apart) none

open_entry : (one : List ℕ) (packet_id : ℕ) (words : List Word) (a b : Wanted) (xs ys : List Wanted) (e : Bool)
    → bytes_eq one a.filter ≡ e → bytes_eq one b.filter ≡ e
    → SameBut (Begins one packet_id ∷ words) (a ∷ xs) (b ∷ ys)
    → SameBut words (with_open xs one packet_id) (with_open ys one packet_id)
    → SameBut words (with_open (a ∷ xs) one packet_id) (with_open (b ∷ ys) one packet_id)
open_entry one packet_id words a b xs ys true isa isb same rest =
    rw (isa, isb) (same.0, (refl, ((λ none. refl), rest)))
open_entry one packet_id words a b xs ys false isa isb same rest =
    rw (isa, isb)
    (same.0, (same.1.0, ((λ none. same.1.1.0 (no_other b.filter one (begins_in words b.filter) isb none)), rest)))

open_same : (one : List ℕ) (packet_id : ℕ) (words : List Word) (xs ys : List Wanted)
    → SameBut (Begins one packet_id ∷ words) xs ys
    → SameBut words (with_open xs one packet_id) (with_open ys one packet_id)
open_same one packet_id words [] [] same = tt
open_same one packet_id words (a ∷ xs) (b ∷ ys) same =
    open_entry one packet_id words a b xs ys (bytes_eq one b.filter) (ap (bytes_eq one) same.0) refl same
    (open_same one packet_id words xs ys same.1.1.1)
open_same one packet_id words [] (b ∷ ys) same = absurd same
open_same one packet_id words (a ∷ xs) [] same = absurd same

-- so the words make the same of them
with_same : (words : List Word) (xs ys : List Wanted) → SameBut words xs ys
    → with_words xs words ≡ with_words ys words
with_same [] xs ys same = entries_same xs ys same
with_same (Begins one packet_id ∷ words) xs ys same =
    with_same words (with_open xs one packet_id) (with_open ys one packet_id)
    (open_same one packet_id words xs ys same)
with_same (Ends one ∷ words) xs ys same = with_same words xs ys same

-- ---- a filter whose SUBSCRIBE is open

abbrev pub is_opened : List Wanted → List ℕ → Bool
is_opened wanted text = list_any (λ w. is_filter_of text w && is_some w.open_id) wanted

opened_wants : (wanted : List Wanted) (text : List ℕ) → is_opened wanted text ≡ true → wants wanted text ≡ true
opened_wants [] text is = is
opened_wants (w ∷ wanted) text is =
    wider (bytes_eq text w.filter) (is_some w.open_id) (is_opened wanted text) (wants wanted text) is
    (λ rest. opened_wants wanted text rest)
  where
    wider : (c o r s : Bool) → ((c && o) || r) ≡ true → (r ≡ true → s ≡ true) → (c || s) ≡ true
    wider true o r s is rest = refl
    wider false o r s is rest = rest is

or_grows : (a r b s : Bool) → (a || r) ≡ true → (a ≡ true → b ≡ true) → (r ≡ true → s ≡ true) → (b || s) ≡ true
or_grows true r b s is one rest = ap (λ c. c || s) (one refl)
or_grows false r b s is one rest = or_right b s (rest is)

one_stays : (w : Wanted) (one text : List ℕ) (packet_id : ℕ) (b : Bool) → bytes_eq one w.filter ≡ b
    → (is_filter_of text w && is_some w.open_id) ≡ true
    → (let v : Wanted = if is_filter_of one w then record w { open_id = Some packet_id; owed = false } else w in
    is_filter_of text v && is_some v.open_id) ≡ true
one_stays w one text packet_id true is there = rw is (first (bytes_eq text w.filter) (is_some w.open_id) there)
  where
    first : (c o : Bool) → (c && o) ≡ true → (c && true) ≡ true
    first true o is = refl
    first false o is = absurd cc
one_stays w one text packet_id false is there = rw is there

opened_stays : (wanted : List Wanted) (one text : List ℕ) (packet_id : ℕ) → is_opened wanted text ≡ true
    → is_opened (opened wanted one packet_id) text ≡ true
opened_stays [] one text packet_id is = is
opened_stays (w ∷ wanted) one text packet_id is =
    let v : Wanted = if is_filter_of one w then record w { open_id = Some packet_id; owed = false } else w in
    or_grows (is_filter_of text w && is_some w.open_id) (is_opened wanted text)
    (is_filter_of text v && is_some v.open_id) (is_opened (opened wanted one packet_id) text) is
    (λ there. one_stays w one text packet_id (bytes_eq one w.filter) refl there)
    (λ rest. opened_stays wanted one text packet_id rest)

owing_entry : (w : Wanted) (text : List ℕ) (b : Bool)
    → (let v : Wanted = if b then record w { owed = true } else w in is_filter_of text v && is_some v.open_id)
    ≡ (is_filter_of text w && is_some w.open_id)
owing_entry w text true = refl
owing_entry w text false = refl

owing_stays : (wanted : List Wanted) (one text : List ℕ) → is_opened (owing wanted one) text ≡ is_opened wanted text
owing_stays [] one text = refl
owing_stays (w ∷ wanted) one text =
    ap (λ b. b || is_opened (owing wanted one) text) (owing_entry w text (is_filter_of one w))
    ∙ ap (λ b. (is_filter_of text w && is_some w.open_id) || b) (owing_stays wanted one text)

sent_stays : (link : Link) (one text : List ℕ) (may : Bool) → may_open link.wanted one ≡ may
    → is_opened link.wanted text ≡ true → is_opened (subscribe_sent link one).wanted text ≡ true
sent_stays link one text true is there = rw is (opened_stays link.wanted one text (next_packet_id link) there)
sent_stays link one text false is there = rw is (owing_stays link.wanted one text ∙ there)

left_stays : (link : Link) (one text : List ℕ) (b : Bool) → wants link.wanted one ≡ b
    → is_opened link.wanted text ≡ true → is_opened (subscribe_left link one).wanted text ≡ true
left_stays link one text true is there =
    rw is (sent_stays link one text (may_open link.wanted one) refl there)
left_stays link one text false is there = rw is there

unsubscribe_wanted : (link : Link) (one : List ℕ) (b : Bool) → wants link.wanted one ≡ b
    → (unsubscribe_left link one).wanted ≡ link.wanted
unsubscribe_wanted link one true is = rw is refl
unsubscribe_wanted link one false is = rw is refl

opened_entry : (w : Wanted) (text : List ℕ) (packet_id : ℕ) (b : Bool) → b ≡ true → bytes_eq text w.filter ≡ true
    → (let v : Wanted = if b then record w { open_id = Some packet_id; owed = false } else w in
    is_filter_of text v && is_some v.open_id) ≡ true
opened_entry w text packet_id true is same = ap (λ c. c && true) same
opened_entry w text packet_id false is same = absurd cc

opened_by : (w : Wanted) (wanted : List Wanted) (text : List ℕ) (packet_id : ℕ) (b : Bool)
    → bytes_eq text w.filter ≡ b → wants (w ∷ wanted) text ≡ true
    → (wants wanted text ≡ true → is_opened (opened wanted text packet_id) text ≡ true)
    → is_opened (opened (w ∷ wanted) text packet_id) text ≡ true
opened_by w wanted text packet_id true same is later =
    ap (λ c. c || is_opened (opened wanted text packet_id) text)
    (opened_entry w text packet_id (bytes_eq text w.filter) same same)
opened_by w wanted text packet_id false same is later =
    let rest : wants wanted text ≡ true = ap (λ b. b || wants wanted text) (sym same) ∙ is in
    or_right _ (is_opened (opened wanted text packet_id) text) (later rest)

-- the SUBSCRIBE of a filter that just now is opened
sent_opened : (wanted : List Wanted) (text : List ℕ) (packet_id : ℕ) → wants wanted text ≡ true
    → is_opened (opened wanted text packet_id) text ≡ true
sent_opened [] text packet_id is = is
sent_opened (w ∷ wanted) text packet_id is =
    opened_by w wanted text packet_id (bytes_eq text w.filter) refl is
    (λ rest. sent_opened wanted text packet_id rest)

-- where one is open, the next takes its place, so it goes out
open_begins : (link : Link) (one text : List ℕ) → Speaks link → bytes_eq text one ≡ true
    → is_opened link.wanted one ≡ true
    → begins_in (words_sent (subscribe_leaves link one)) text ≡ true
open_begins link one text speaks same there =
    let is : wants link.wanted one ≡ true = opened_wants link.wanted one there in
    let may : may_open link.wanted one ≡ true = or_right _ (is_opened link.wanted one) there in
    rw (
      is,
      may,
      (subscribe_read (next_packet_id link) one (next_is link speaks.last) (speaks.short one is)).words,
      same,
    )
    refl

begins_by : (link : Link) (one text : List ℕ) (items : List Item) (after : Bool) (b : Bool)
    → bytes_eq text one ≡ b → Speaks link → is_opened link.wanted text ≡ true
    → (bytes_eq text one || subscribes items text) ≡ true
    → (subscribes items text ≡ true → after ≡ true)
    → (begins_in (words_sent (subscribe_leaves link one)) text || after) ≡ true
begins_by link one text items after true same speaks there is later =
    ap (λ b. b || after)
    (open_begins link one text speaks same
    (subst (λ t. is_opened link.wanted t ≡ true) (same_means text one same) there))
begins_by link one text items after false same speaks there is later =
    or_right (begins_in (words_sent (subscribe_leaves link one)) text) after
    (later (ap (λ b. b || subscribes items text) (sym same) ∙ is))

pub begins_open : (policy : Policy) (link : Link) (items : List Item) (text : List ℕ) → Speaks link
    → ShortEnds items → is_opened link.wanted text ≡ true → subscribes items text ≡ true
    → begins_in (words_sent (leaving link items (exits_of policy items))) text ≡ true
begins_open policy link [] text speaks short there is = absurd (let bad : false ≡ true = is in cc)
begins_open policy link (item.Publish p ∷ items) text speaks short there is =
    let o = exit policy p.origin p.name in
    let mid = exited link p o in
    let outs = forwarded p (packet_id_by link p.qos) o in
    let more = leaving mid items (exits_of policy items) in
    ap (λ words. begins_in words text)
    (words_append outs more ∙ ap (λ first. first ++ words_sent more)
    (forwarded_quiet p (packet_id_by link p.qos) o))
    ∙ begins_open policy mid items text (exited_speaks link p o speaks) short.1
    (ap (λ wanted. is_opened wanted text) (exited_wanted link p o) ∙ there) is
begins_open policy link (item.Subscribe one ∷ items) text speaks short there is =
    let mid = subscribe_left link one in
    let outs = subscribe_leaves link one in
    let more = leaving mid items (exits_of policy items) in
    ap (λ words. begins_in words text) (words_append outs more)
    ∙ (begins_both (words_sent outs) (words_sent more) text
    ∙ begins_by link one text items (begins_in (words_sent more) text) (bytes_eq text one) refl speaks there is
    (λ rest. begins_open policy mid items text (subscribe_speaks link one speaks) short.1
    (left_stays link one text (wants link.wanted one) refl there) rest))
begins_open policy link (item.Unsubscribe one ∷ items) text speaks short there is =
    let mid = unsubscribe_left link one in
    let outs = unsubscribe_leaves link one in
    let more = leaving mid items (exits_of policy items) in
    ap (λ words. begins_in words text) (words_append outs more)
    ∙ (begins_both (words_sent outs) (words_sent more) text
    ∙ or_right (begins_in (words_sent outs) text) (begins_in (words_sent more) text)
    (begins_open policy mid items text (unsubscribe_speaks link one speaks) short.1
    (ap (λ wanted. is_opened wanted text) (unsubscribe_wanted link one (wants link.wanted one) refl) ∙ there) is))
begins_open policy link (item.Acknowledge packet_id ∷ items) text speaks short there is =
    let more = leaving link items (exits_of policy items) in
    ap (λ words. begins_in (words ++ words_sent more) text) (ack_quiet packet_id).words
    ∙ begins_open policy link items text speaks short.1 there is
begins_open policy link (item.Ping ∷ items) text speaks short there is =
    let more = leaving link items (exits_of policy items) in
    ap (λ words. begins_in (words ++ words_sent more) text) ping_quiet.words
    ∙ begins_open policy link items text speaks short.1 there is

-- ---- what had to leave is marked, and the words take the marks of what left

abbrev pub marked : (List ℕ → Bool) → List Wanted → List Wanted
marked keep wanted = map (λ (w : Wanted). record w { owed = w.owed || keep w.filter }) wanted

pub unmarked : (wanted : List Wanted) → marked (λ text. false) wanted ≡ wanted
unmarked [] = refl
unmarked (w ∷ wanted) =
    ap (λ owed. record w { owed = owed } ∷ marked (λ text. false) wanted) (or_no w.owed)
    ∙ ap (λ rest. w ∷ rest) (unmarked wanted)

-- the marks of a list of entries are the same where they are the same of each
abbrev AgreeOn : (List ℕ → Bool) → (List ℕ → Bool) → List Wanted → Type 0
AgreeOn keep other [] = Unit {0}
AgreeOn keep other (w ∷ wanted) =
    ((w.owed || keep w.filter) ≡ (w.owed || other w.filter)) × AgreeOn keep other wanted

pub marks_agree : (keep other : List ℕ → Bool) (wanted : List Wanted) → AgreeOn keep other wanted
    → marked keep wanted ≡ marked other wanted
marks_agree keep other [] agree = refl
marks_agree keep other (w ∷ wanted) agree =
    ap (λ owed. record w { owed = owed } ∷ marked keep wanted) agree.0
    ∙ ap (λ rest. record w { owed = w.owed || other w.filter } ∷ rest)
    (marks_agree keep other wanted agree.1)

-- the SUBSCRIBE was sent
sent_entry : (keep : List ℕ → Bool) (one : List ℕ) (packet_id : ℕ) (words : List Word) (w : Wanted)
    (wanted : List Wanted) (e : Bool)
    → bytes_eq one w.filter ≡ e → (keep one ≡ true → begins_in words one ≡ true)
    → SameBut words (with_open (marked (λ text. bytes_eq text one || keep text) wanted) one packet_id)
    (marked keep (opened wanted one packet_id))
    → SameBut words (with_open (marked (λ text. bytes_eq text one || keep text) (w ∷ wanted)) one packet_id)
    (marked keep (opened (w ∷ wanted) one packet_id))
sent_entry keep one packet_id words w wanted true is begins rest =
    rw is
    (refl, (refl, ((λ none. quiet (keep w.filter) refl none), rest)))
  where
    quiet : (b : Bool) → keep w.filter ≡ b → begins_in words w.filter ≡ false → false ≡ keep w.filter
    quiet false kept none = sym kept
    quiet true kept none =
        absurd (let same : one ≡ w.filter = same_means one w.filter is in
        let bad : true ≡ false =
        sym (begins (ap keep same ∙ kept)) ∙ (ap (begins_in words) same ∙ none) in cc)
sent_entry keep one packet_id words w wanted false is begins rest =
    rw is
    (refl, (refl, ((λ none. ap (λ b. w.owed || (b || keep w.filter)) (flip w.filter one is)), rest)))

sent_same : (keep : List ℕ → Bool) (one : List ℕ) (packet_id : ℕ) (words : List Word) (wanted : List Wanted)
    → (keep one ≡ true → begins_in words one ≡ true)
    → SameBut words (with_open (marked (λ text. bytes_eq text one || keep text) wanted) one packet_id)
    (marked keep (opened wanted one packet_id))
sent_same keep one packet_id words [] begins = tt
sent_same keep one packet_id words (w ∷ wanted) begins =
    sent_entry keep one packet_id words w wanted (bytes_eq one w.filter) refl begins
    (sent_same keep one packet_id words wanted begins)

-- it may not be open
owing_entries : (keep : List ℕ → Bool) (one : List ℕ) (w : Wanted) (wanted : List Wanted) (e : Bool)
    → bytes_eq one w.filter ≡ e
    → marked (λ text. bytes_eq text one || keep text) wanted ≡ marked keep (owing wanted one)
    → marked (λ text. bytes_eq text one || keep text) (w ∷ wanted) ≡ marked keep (owing (w ∷ wanted) one)
owing_entries keep one w wanted true is rest =
    let same : bytes_eq w.filter one ≡ true =
    subst (λ t. bytes_eq t one ≡ true) (same_means one w.filter is) (same_self one) in
    rw is
    (ap (λ b. record w { owed = w.owed || (b || keep w.filter) }
    ∷ marked (λ text. bytes_eq text one || keep text) wanted) same
    ∙ (ap (λ b. record w { owed = b } ∷ marked (λ text. bytes_eq text one || keep text) wanted)
    (sym (or_yes w.owed)) ∙ ap (λ more. record w { owed = true } ∷ more) rest))
owing_entries keep one w wanted false is rest =
    rw is
    (ap (λ b. record w { owed = w.owed || (b || keep w.filter) }
    ∷ marked (λ text. bytes_eq text one || keep text) wanted) (flip w.filter one is)
    ∙ ap (λ more. record w { owed = w.owed || keep w.filter } ∷ more) rest)

owing_same : (keep : List ℕ → Bool) (one : List ℕ) (wanted : List Wanted)
    → marked (λ text. bytes_eq text one || keep text) wanted ≡ marked keep (owing wanted one)
owing_same keep one [] = refl
owing_same keep one (w ∷ wanted) =
    owing_entries keep one w wanted (bytes_eq one w.filter) refl (owing_same keep one wanted)

-- the filter is not wanted
none_same : (keep : List ℕ → Bool) (one : List ℕ) (wanted : List Wanted) → wants wanted one ≡ false
    → AgreeOn (λ text. bytes_eq text one || keep text) keep wanted
none_same keep one [] none = tt
none_same keep one (w ∷ wanted) none =
    let both = or_neither (bytes_eq one w.filter) (wants wanted one) none in (
      ap (λ b. w.owed || (b || keep w.filter)) (flip w.filter one both.0),
      none_same keep one wanted both.1,
    )

-- what leaves
abbrev Marks : Policy → Link → List Item → Type 0
Marks policy link items =
    with_words (marked (subscribes items) link.wanted) (words_sent (leaving link items (exits_of policy items)))
    ≡ (link_after link items (exits_of policy items)).wanted

out_marks : (policy : Policy) (link : Link) (one : List ℕ) (items : List Item) (may : Bool)
    → may_open link.wanted one ≡ may → wants link.wanted one ≡ true → Speaks link → ShortEnds items
    → Speaks (subscribe_sent link one)
    → Marks policy (subscribe_sent link one) items
    → with_words (marked (λ text. bytes_eq text one || subscribes items text) link.wanted)
    (words_sent (subscribe_out link one) ++ words_sent
    (leaving (subscribe_sent link one) items (exits_of policy items)))
    ≡ (link_after (subscribe_sent link one) items (exits_of policy items)).wanted
out_marks policy link one items true is wanted speaks short sent rest =
    let mid : Link =
    record link { last = next_packet_id link; wanted = opened link.wanted one (next_packet_id link) } in
    let same : subscribe_sent link one ≡ mid = rw is refl in
    let words = words_sent (leaving mid items (exits_of policy items)) in
    let later : Marks policy mid items = subst (λ l. Marks policy l items) same rest in
    rw (
      is,
      (subscribe_read (next_packet_id link) one (next_is link speaks.last) (speaks.short one wanted)).words,
    )
    (with_same words
    (with_open (marked (λ text. bytes_eq text one || subscribes items text) link.wanted) one
    (next_packet_id link))
    (marked (subscribes items) mid.wanted)
    (sent_same (subscribes items) one (next_packet_id link) words link.wanted
    (λ there. begins_open policy mid items one (subst Speaks same sent) short
    (sent_opened link.wanted one (next_packet_id link) wanted) there))
    ∙ later)
out_marks policy link one items false is wanted speaks short sent rest =
    let mid : Link = record link { wanted = owing link.wanted one } in
    let same : subscribe_sent link one ≡ mid = rw is refl in
    let words = words_sent (leaving mid items (exits_of policy items)) in
    let later : Marks policy mid items = subst (λ l. Marks policy l items) same rest in
    rw is
    (ap (λ wanted. with_words wanted words) (owing_same (subscribes items) one link.wanted) ∙ later)

subscribe_marks : (policy : Policy) (link : Link) (one : List ℕ) (items : List Item) (b : Bool)
    → wants link.wanted one ≡ b → Speaks link → ShortEnds items
    → Speaks (subscribe_left link one) → Marks policy (subscribe_left link one) items
    → with_words (marked (λ text. bytes_eq text one || subscribes items text) link.wanted)
    (words_sent (subscribe_leaves link one)
    ++ words_sent (leaving (subscribe_left link one) items (exits_of policy items)))
    ≡ (link_after (subscribe_left link one) items (exits_of policy items)).wanted
subscribe_marks policy link one items true is speaks short =
    rw is
    (λ sent rest. out_marks policy link one items (may_open link.wanted one) refl is speaks short sent rest)
subscribe_marks policy link one items false is speaks short =
    rw is
    (λ sent rest. ap (λ wanted. with_words wanted (words_sent (leaving link items (exits_of policy items))))
    (marks_agree (λ text. bytes_eq text one || subscribes items text) (subscribes items) link.wanted
    (none_same (subscribes items) one link.wanted is)) ∙ rest)

unsubscribe_marks : (policy : Policy) (link : Link) (one : List ℕ) (items : List Item) (b : Bool)
    → wants link.wanted one ≡ b → Speaks link → length one ≤ 65535
    → Marks policy (unsubscribe_left link one) items
    → with_words (marked (subscribes items) link.wanted)
    (words_sent (unsubscribe_leaves link one)
    ++ words_sent (leaving (unsubscribe_left link one) items (exits_of policy items)))
    ≡ (link_after (unsubscribe_left link one) items (exits_of policy items)).wanted
unsubscribe_marks policy link one items true is speaks short = rw is (λ rest. rest)
unsubscribe_marks policy link one items false is speaks short =
    rw (is, (unsubscribe_read (next_packet_id link) one (next_is link speaks.last) short).words) (λ rest. rest)

pub leaving_marks : (policy : Policy) (link : Link) (items : List Item) → Speaks link → ShortEnds items
    → Marks policy link items
leaving_marks policy link [] speaks short = unmarked link.wanted
leaving_marks policy link (item.Publish p ∷ items) speaks short =
    let o = exit policy p.origin p.name in
    let mid = exited link p o in
    let outs = forwarded p (packet_id_by link p.qos) o in
    let more = leaving mid items (exits_of policy items) in
    ap (with_words (marked (subscribes items) link.wanted))
    (words_append outs more ∙ ap (λ first. first ++ words_sent more)
    (forwarded_quiet p (packet_id_by link p.qos) o))
    ∙ (ap (λ wanted. with_words (marked (subscribes items) wanted) (words_sent more))
    (sym (exited_wanted link p o))
    ∙ leaving_marks policy mid items (exited_speaks link p o speaks) short.1)
leaving_marks policy link (item.Subscribe one ∷ items) speaks short =
    let mid = subscribe_left link one in
    let after = subscribe_speaks link one speaks in
    ap (with_words (marked (λ text. bytes_eq text one || subscribes items text) link.wanted))
    (words_append (subscribe_leaves link one) (leaving mid items (exits_of policy items)))
    ∙ subscribe_marks policy link one items (wants link.wanted one) refl speaks short.1 after
    (leaving_marks policy mid items after short.1)
leaving_marks policy link (item.Unsubscribe one ∷ items) speaks short =
    let mid = unsubscribe_left link one in
    ap (with_words (marked (subscribes items) link.wanted))
    (words_append (unsubscribe_leaves link one) (leaving mid items (exits_of policy items)))
    ∙ unsubscribe_marks policy link one items (wants link.wanted one) refl speaks short.0
    (leaving_marks policy mid items (unsubscribe_speaks link one speaks) short.1)
leaving_marks policy link (item.Acknowledge packet_id ∷ items) speaks short =
    let more = leaving link items (exits_of policy items) in
    ap (λ words. with_words (marked (subscribes items) link.wanted) (words ++ words_sent more))
    (ack_quiet packet_id).words
    ∙ leaving_marks policy link items speaks short.1
leaving_marks policy link (item.Ping ∷ items) speaks short =
    let more = leaving link items (exits_of policy items) in
    ap (λ words. with_words (marked (subscribes items) link.wanted) (words ++ words_sent more)) ping_quiet.words
    ∙ leaving_marks policy link items speaks short.1

-- ---- SUBSCRIBEs of wanted filters leave as items do

as_items : (policy : Policy) (link : Link) (texts : List (List ℕ)) → EachWanted link.wanted texts
    → subscribing link texts ≡ leaving link (map item.Subscribe texts) (exits_of policy (map item.Subscribe texts))
as_items policy link [] each = refl
as_items policy link (one ∷ texts) each =
    let next = subscribe_sent link one in
    rw each.0
    (ap (λ more. subscribe_out link one ++ more)
    (as_items policy next texts
    (still_each link.wanted next.wanted texts
    (λ text. same_wants next.wanted link.wanted (sent_filters link one) text) each.1)))

sent_left : (link : Link) (one : List ℕ) → wants link.wanted one ≡ true
    → subscribe_left link one ≡ subscribe_sent link one
sent_left link one is = rw is refl

as_link : (policy : Policy) (link : Link) (texts : List (List ℕ)) → EachWanted link.wanted texts
    → subscribes_sent link texts ≡ link_after link (map item.Subscribe texts)
    (exits_of policy (map item.Subscribe texts))
as_link policy link [] each = refl
as_link policy link (one ∷ texts) each =
    let next = subscribe_sent link one in
    let items = map item.Subscribe texts in
    as_link policy next texts
    (still_each link.wanted next.wanted texts
    (λ text. same_wants next.wanted link.wanted (sent_filters link one) text) each.1)
    ∙ ap (λ (l : Link). link_after l items (exits_of policy items)) (sym (sent_left link one each.0))

all_short : (texts : List (List ℕ)) → ShortEnds (map item.Subscribe texts)
all_short [] = tt
all_short (one ∷ texts) = (tt, all_short texts)

pub subscribing_marks : (policy : Policy) (link : Link) (texts : List (List ℕ)) → Speaks link
    → EachWanted link.wanted texts
    → with_words (marked (subscribes (map item.Subscribe texts)) link.wanted)
    (words_sent (subscribing link texts)) ≡ (subscribes_sent link texts).wanted
subscribing_marks policy link texts speaks each =
    let items = map item.Subscribe texts in
    ap (λ outs. with_words (marked (subscribes items) link.wanted) (words_sent outs))
    (as_items policy link texts each)
    ∙ (leaving_marks policy link items speaks (all_short texts)
    ∙ ap (λ (l : Link). l.wanted) (sym (as_link policy link texts each)))

-- ---- the marks of a row

pub agree_all : (keep other : List ℕ → Bool) (wanted : List Wanted) → ((text : List ℕ) → keep text ≡ other text)
    → AgreeOn keep other wanted
agree_all keep other [] same = tt
agree_all keep other (w ∷ wanted) same =
    (ap (λ b. w.owed || b) (same w.filter), agree_all keep other wanted same)

-- as a connection begins each is marked
agree_wanted : (keep : List ℕ → Bool) (among : List Wanted)
    → ((text : List ℕ) → wants among text ≡ true → keep text ≡ true)
    → AgreeOn (λ text. true) keep among
agree_wanted keep [] are = tt
agree_wanted keep (w ∷ among) are = (
  ap (λ b. w.owed || b)
      (sym (are w.filter (ap (λ b. b || wants among w.filter) (same_self w.filter)))),
  agree_wanted keep among (λ text is. are text (or_right (bytes_eq text w.filter) (wants among text) is)),
)

wanted_subscribes : (wanted : List Wanted) (text : List ℕ)
    → subscribes (map item.Subscribe (map (λ w. w.filter) wanted)) text ≡ wants wanted text
wanted_subscribes [] text = refl
wanted_subscribes (w ∷ wanted) text = ap (λ b. bytes_eq text w.filter || b) (wanted_subscribes wanted text)

pub up_marks : (policy : Policy) (link : Link) → Speaks link
    → EachWanted link.wanted (map (λ w. w.filter) link.wanted)
    → with_words (marked (λ text. true) link.wanted)
    (words_sent (subscribing link (map (λ w. w.filter) link.wanted)))
    ≡ (subscribes_sent link (map (λ w. w.filter) link.wanted)).wanted
up_marks policy link speaks each =
    let texts = map (λ (w : Wanted). w.filter) link.wanted in
    ap (λ wanted. with_words wanted (words_sent (subscribing link texts)))
    (marks_agree (λ text. true) (subscribes (map item.Subscribe texts)) link.wanted
    (agree_wanted (subscribes (map item.Subscribe texts)) link.wanted
    (λ text is. wanted_subscribes link.wanted text ∙ is)))
    ∙ subscribing_marks policy link texts speaks each

-- of each entry it is what is owed
abbrev EachIs : (List ℕ → Bool) → List Wanted → Type 0
EachIs owed [] = Unit {0}
EachIs owed (w ∷ wanted) = (owed w.filter ≡ w.owed) × EachIs owed wanted

is_beside : (w : Wanted) (owed : List ℕ → Bool) (among : List Wanted) → wants among w.filter ≡ false
    → EachIs owed among
    → EachIs (λ text. (is_filter_of text w && w.owed) || owed text) among
is_beside w owed [] none are = tt
is_beside w owed (v ∷ among) none are =
    let both = or_neither (bytes_eq w.filter v.filter) (wants among w.filter) none in (
      ap (λ b. (b && w.owed) || owed v.filter) (flip v.filter w.filter both.0) ∙ are.0,
      is_beside w owed among both.1 are.1,
    )

each_is : (wanted : List Wanted) → WantedOnce wanted → EachIs (owes wanted) wanted
each_is [] once = tt
each_is (w ∷ wanted) once = (
  ap (λ b. (b && w.owed) || owes wanted w.filter) (same_self w.filter)
      ∙ (ap (λ b. w.owed || b) (none_owes wanted w.filter once.0) ∙ or_no w.owed),
  is_beside w (owes wanted) wanted once.0 (each_is wanted once.1),
)

twice : (a b : Bool) → (a || b) ≡ (a || (a || b))
twice true b = refl
twice false b = refl

agree_front : (owed keep other : List ℕ → Bool) (among : List Wanted) → EachIs owed among
    → ((text : List ℕ) → other text ≡ (owed text || keep text)) → AgreeOn keep other among
agree_front owed keep other [] are same = tt
agree_front owed keep other (w ∷ among) are same = (
  twice w.owed (keep w.filter)
      ∙ ap (λ b. w.owed || b) (ap (λ b. b || keep w.filter) (sym are.0) ∙ sym (same w.filter)),
  agree_front owed keep other among are.1 same,
)

owed_entry : (w : Wanted) (text : List ℕ) (rest : List Wanted) (b : Bool) → w.owed ≡ b
    → subscribes (map item.Subscribe (map (λ v. v.filter) (filter (λ v. v.owed) rest))) text ≡ owes rest text
    → subscribes (map item.Subscribe (map (λ v. v.filter) (if b then w ∷ filter (λ v. v.owed) rest
    else filter (λ v. v.owed) rest))) text
    ≡ ((is_filter_of text w && b) || owes rest text)
owed_entry w text rest true is later = alike (bytes_eq text w.filter) later
  where
    alike : (c : Bool)
        → subscribes (map item.Subscribe (map (λ v. v.filter) (filter (λ v. v.owed) rest))) text ≡ owes rest text
        → (c || subscribes (map item.Subscribe (map (λ v. v.filter) (filter (λ v. v.owed) rest))) text)
        ≡ ((c && true) || owes rest text)
    alike true later = refl
    alike false later = later
owed_entry w text rest false is later = alike (bytes_eq text w.filter)
  where
    alike : (c : Bool)
        → subscribes (map item.Subscribe (map (λ v. v.filter) (filter (λ v. v.owed) rest))) text
        ≡ ((c && false) || owes rest text)
    alike true = later
    alike false = later

-- the SUBSCRIBEs that leave first are those that are owed
owed_subscribes : (wanted : List Wanted) (text : List ℕ)
    → subscribes (map item.Subscribe (map (λ w. w.filter) (filter (λ w. w.owed) wanted))) text ≡ owes wanted text
owed_subscribes [] text = refl
owed_subscribes (w ∷ wanted) text = owed_entry w text wanted w.owed refl (owed_subscribes wanted text)

pub take_marks : (policy : Policy) (link : Link) → Speaks link → ShortEnds link.waiting → WantedOnce link.wanted
    → with_words (marked (subscribes link.waiting) link.wanted)
    (words_sent (leaving link (outgoing link) (exits_of policy (outgoing link))))
    ≡ (link_after link (outgoing link) (exits_of policy (outgoing link))).wanted
take_marks policy link speaks ends once =
    let items = outgoing link in
    let first = map item.Subscribe (filters_owed link) in
    ap (λ wanted. with_words wanted (words_sent (leaving link items (exits_of policy items))))
    (marks_agree (subscribes link.waiting) (subscribes items) link.wanted
    (agree_front (owes link.wanted) (subscribes link.waiting) (subscribes items) link.wanted
    (each_is link.wanted once)
    (λ text. subscribes_both first link.waiting text
    ∙ ap (λ b. b || subscribes link.waiting text) (owed_subscribes link.wanted text))))
    ∙ leaving_marks policy link items speaks (outgoing_short link ends)
