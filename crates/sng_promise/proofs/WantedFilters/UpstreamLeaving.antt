-- What leaves for the broker says of each filter: a SUBSCRIBE that waits goes out where its filter is wanted,
-- and an UNSUBSCRIBE where it is not; as a connection begins a SUBSCRIBE of each wanted filter goes out.
use Rattle.std.proofs.Common.{◌≡◌, ℕ, ◌≤◌, Bool, true, false, List, [], ◌∷◌, ◌++◌, map, length}
use Rattle.std.proofs.Common.{refl, ap, sym, ◌∙◌, subst}
use Rattle.std.proofs.Common.{if◌then◌else◌}
use Rattle.std.specs.Prelude.{not, ◌&&◌, ◌||◌, Option, Some}
use Rattle.std.specs.Str.{bytes_eq}
use Rattle.sng_text.specs.declared.qos.Qos.{Qos}
use Rattle.sng_text.specs.declared.qos.Qos.TheVariants.{AtMostOnce, AtLeastOnce}
use Rattle.sng_grants.specs.declared.policy.Policy.{Policy}
use Rattle.sng_outbox.specs.declared.in_flight.InFlight.{InFlight}
use Rattle.sng_outbox.specs.declared.item.Item.{Item}
use Rattle.sng_outbox.specs.declared.item.Item.TheVariants as item
use Rattle.sng_outbox.specs.declared.item.Publication.{Publication}
use Rattle.sng_book.specs.declared.outcome.Outcome.{Outcome}
use Rattle.sng_book.specs.declared.outcome.Outcome.TheVariants.{Allowed, Denied}
use Rattle.sng_history.specs.Links.{Link, wants, next_packet_id, packet_id_by, sent_by, exited}
use Rattle.sng_history.specs.Links.{subscribe_sent, subscribes_sent}
use Rattle.sng_history.specs.Links.{subscribe_left, unsubscribe_left, link_after}
use Rattle.sng_history.specs.Links.{Wanted, may_open}
use Rattle.sng_history.specs.Verdicts.{exit}
use Rattle.sng_history.specs.Exits.{exits_of, agains_of, forwarded, leaving, sent_again, resending}
use Rattle.sng_history.specs.Exits.{subscribing, subscribe_leaves}
use Rattle.sng_history.specs.Exits.{unsubscribe_leaves}
use Rattle.sng_history.specs.Exits.{subscribe_out}
use Rattle.sng_laws.specs.ViewsWanted.{words_sent}
use Rattle.sng_laws.specs.ViewsWanted.{said_upstream}
use Rattle.sng_history.proofs.Own.{same_means}
use Rattle.sng_history.proofs.WantedKept.{or_no, left_same}
use Rattle.sng_history.proofs.WantedKept.{same_wants, sent_filters}
use Rattle.sng_history.proofs.Wanted.{subscribes}
use Rattle.sng_promise.proofs.WantedFilters.UpstreamWords.{publish_quiet, ack_quiet, subscribe_read}
use Rattle.sng_promise.proofs.WantedFilters.UpstreamWords.{unsubscribe_read}
use Rattle.sng_promise.proofs.WantedFilters.UpstreamWords.{ping_quiet}
use Rattle.sng_promise.proofs.WantedFilters.UpstreamSpeaks.{next_is, ShortEnds, Speaks, exited_last}
use Rattle.sng_promise.proofs.WantedFilters.UpstreamSpeaks.{subscribe_last}
use Rattle.sng_promise.proofs.WantedFilters.UpstreamSpeaks.{unsubscribe_last, exited_speaks, subscribe_speaks}
use Rattle.sng_promise.proofs.WantedFilters.UpstreamSpeaks.{unsubscribe_speaks, words_append, unsubscribes}
use Rattle.sng_promise.proofs.WantedFilters.UpstreamSpeaks.{settled, Says}
use Rattle.sng_promise.proofs.WantedFilters.UpstreamSpeaks.{says_then, says_nothing, not_or, or_turn, idle_if}
use Rattle.sng_promise.proofs.WantedFilters.UpstreamSpeaks.{owes, opened_owes, owing_owes, none_owes}
use Rattle.sng_promise.proofs.WantedFilters.UpstreamSpeaks.{said_both, subscribed_last}

sent_wanted : (link : Link) (p : Publication) (q : Qos) → (sent_by link p q).wanted ≡ link.wanted
sent_wanted link p AtMostOnce = refl
sent_wanted link p AtLeastOnce = refl

pub exited_wanted : (link : Link) (p : Publication) (o : Outcome) → (exited link p o).wanted ≡ link.wanted
exited_wanted link p Allowed = sent_wanted link p p.qos
exited_wanted link p (Denied rule) = refl

pub forwarded_quiet : (p : Publication) (packet_id : Option ℕ) (o : Outcome)
    → words_sent (forwarded p packet_id o) ≡ []
forwarded_quiet p packet_id Allowed =
    rw (publish_quiet (record {
      dup = false;
      retain = p.retain;
      packet_id = packet_id;
      name = p.name;
      payload = p.payload;
    })).words refl
forwarded_quiet p packet_id (Denied rule) = refl

-- a SUBSCRIBE of a wanted filter that has to leave
open_or : (d b o : Bool) → ((d || b) || (not d && o)) ≡ (d || (b || o))
open_or true b o = refl
open_or false b o = refl

owing_or : (d b o w : Bool) → (d ≡ true → w ≡ true) → (b || (o || (d && w))) ≡ (d || (b || o))
owing_or true b o w same = rw (same refl) (yes b o)
  where
    yes : (b o : Bool) → (b || (o || true)) ≡ true
    yes true o = refl
    yes false true = refl
    yes false false = refl
owing_or false b o w same = ap (λ c. b || c) (or_no o)

out_said : (link : Link) (filter : List ℕ) (may : Bool) → may_open link.wanted filter ≡ may
    → link.last ≤ 65535 → length filter ≤ 65535 → wants link.wanted filter ≡ true
    → (text : List ℕ) (before : Bool)
    → (said_upstream (words_sent (subscribe_out link filter)) text before
    || owes (subscribe_sent link filter).wanted text)
    ≡ (bytes_eq text filter || (before || owes link.wanted text))
out_said link filter true is small short wanted text before =
    rw (is, (subscribe_read (next_packet_id link) filter (next_is link small) short).words)
    (ap (λ b. (bytes_eq text filter || before) || b)
    (opened_owes link.wanted filter text (next_packet_id link))
    ∙ open_or (bytes_eq text filter) before (owes link.wanted text))
out_said link filter false is small short wanted text before =
    rw is
    (ap (λ b. before || b) (owing_owes link.wanted filter text)
    ∙ owing_or (bytes_eq text filter) before (owes link.wanted text) (wants link.wanted text)
    (λ same. ap (wants link.wanted) (same_means text filter same) ∙ wanted))

-- a SUBSCRIBE
subscribe_words : (link : Link) (filter : List ℕ) (b : Bool) → wants link.wanted filter ≡ b → Speaks link
    → Says link (subscribe_left link filter) (item.Subscribe filter ∷ [])
    (words_sent (subscribe_leaves link filter))
subscribe_words link filter true is speaks =
    rw is
    (record {
      said = λ text before.
          out_said link filter (may_open link.wanted filter) refl speaks.last (speaks.short filter is) is text
          before
          ∙ begins (wants link.wanted text) text (before || owes link.wanted text) refl;
    })
  where
    begins : (w : Bool) (text : List ℕ) (before : Bool) → wants link.wanted text ≡ w
        → (bytes_eq text filter || before) ≡ settled w (item.Subscribe filter ∷ []) text before
    begins true text before wanted = ap (λ b. b || before) (sym (or_no (bytes_eq text filter)))
    begins false text before wanted = other (bytes_eq text filter) refl
      where
        other : (b : Bool) → bytes_eq text filter ≡ b → (b || before) ≡ before
        other true same =
            absurd (let bad : false ≡ true = sym wanted
            ∙ (ap (wants link.wanted) (same_means text filter same) ∙ is) in cc)
        other false same = refl
subscribe_words link filter false is speaks =
    rw is
    (record {
      said = λ text before.
          none (wants link.wanted text) text (before || owes link.wanted text) refl;
    })
  where
    none : (w : Bool) (text : List ℕ) (before : Bool) → wants link.wanted text ≡ w
        → before ≡ settled w (item.Subscribe filter ∷ []) text before
    none false text before wanted = refl
    none true text before wanted = other (bytes_eq text filter) refl
      where
        other : (b : Bool) → bytes_eq text filter ≡ b → before ≡ ((b || false) || before)
        other true same =
            absurd (let bad : true ≡ false = sym wanted
            ∙ (ap (wants link.wanted) (same_means text filter same) ∙ is) in cc)
        other false same = refl

-- an UNSUBSCRIBE
unsubscribe_words : (link : Link) (filter : List ℕ) (b : Bool) → wants link.wanted filter ≡ b → Speaks link
    → length filter ≤ 65535
    → Says link (unsubscribe_left link filter) (item.Unsubscribe filter ∷ [])
    (words_sent (unsubscribe_leaves link filter))
unsubscribe_words link filter false is speaks short =
    rw (is, (unsubscribe_read (next_packet_id link) filter (next_is link speaks.last) short).words)
    (record {
      said = λ text before.
          end_or (bytes_eq text filter) before (owes link.wanted text)
          (λ same. none_owes link.wanted text (ap (wants link.wanted) (same_means text filter same) ∙ is))
          ∙ ends (wants link.wanted text) text (before || owes link.wanted text) refl;
    })
  where
    end_or : (d b o : Bool) → (d ≡ true → o ≡ false) → ((not d && b) || o) ≡ (not d && (b || o))
    end_or true b o none = none refl
    end_or false b o none = refl

    ends : (w : Bool) (text : List ℕ) (before : Bool) → wants link.wanted text ≡ w
        → (not (bytes_eq text filter) && before) ≡ settled w (item.Unsubscribe filter ∷ []) text before
    ends false text before wanted = ap (λ b. not b && before) (sym (or_no (bytes_eq text filter)))
    ends true text before wanted = other (bytes_eq text filter) refl
      where
        other : (b : Bool) → bytes_eq text filter ≡ b → (not b && before) ≡ before
        other true same =
            absurd (let bad : true ≡ false = sym wanted
            ∙ (ap (wants link.wanted) (same_means text filter same) ∙ is) in cc)
        other false same = refl
unsubscribe_words link filter true is speaks short =
    rw is
    (record {
      said = λ text before.
          none (wants link.wanted text) text (before || owes link.wanted text) refl;
    })
  where
    none : (w : Bool) (text : List ℕ) (before : Bool) → wants link.wanted text ≡ w
        → before ≡ settled w (item.Unsubscribe filter ∷ []) text before
    none true text before wanted = refl
    none false text before wanted = other (bytes_eq text filter) refl
      where
        other : (b : Bool) → bytes_eq text filter ≡ b → before ≡ (not (b || false) && before)
        other true same =
            absurd (let bad : false ≡ true = sym wanted
            ∙ (ap (wants link.wanted) (same_means text filter same) ∙ is) in cc)
        other false same = refl

join_subscribe : (filter : List ℕ) (items : List Item) (w before : Bool) (text : List ℕ)
    → settled w items text (settled w (item.Subscribe filter ∷ []) text before)
    ≡ settled w (item.Subscribe filter ∷ items) text before
join_subscribe filter items true before text =
    ap (λ b. subscribes items text || (b || before)) (or_no (bytes_eq text filter))
    ∙ or_turn (bytes_eq text filter) (subscribes items text) before
join_subscribe filter items false before text = refl

join_unsubscribe : (filter : List ℕ) (items : List Item) (w before : Bool) (text : List ℕ)
    → settled w items text (settled w (item.Unsubscribe filter ∷ []) text before)
    ≡ settled w (item.Unsubscribe filter ∷ items) text before
join_unsubscribe filter items true before text = refl
join_unsubscribe filter items false before text =
    ap (λ b. not (unsubscribes items text) && (not b && before)) (or_no (bytes_eq text filter))
    ∙ sym (not_or (bytes_eq text filter) (unsubscribes items text) before)

join_idle : (one : Item) (items : List Item)
    → ((w before : Bool) (text : List ℕ) → settled w (one ∷ []) text before ≡ before)
    → ((w before : Bool) (text : List ℕ) → settled w items text before ≡ settled w (one ∷ items) text before)
    → (w before : Bool) (text : List ℕ)
    → settled w items text (settled w (one ∷ []) text before) ≡ settled w (one ∷ items) text before
join_idle one items idle same w before text =
    ap (settled w items text) (idle w before text) ∙ same w before text

none_said : (w before : Bool) → before ≡ (if w then before else before)
none_said w before = sym (idle_if w before)

-- all items leave
pub leaving_says : (policy : Policy) (link : Link) (items : List Item) → Speaks link → ShortEnds items
    → Says link (link_after link items (exits_of policy items)) items
    (words_sent (leaving link items (exits_of policy items)))
leaving_says policy link [] speaks short =
    record {
      said =
          λ text before. none_said (wants link.wanted text) (before || owes link.wanted text);
    }
leaving_says policy link (item.Publish p ∷ items) speaks short =
    let o = exit policy p.origin p.name in
    let mid = exited link p o in
    let outs = forwarded p (packet_id_by link p.qos) o in
    let more = leaving mid items (exits_of policy items) in
    subst (Says link (link_after mid items (exits_of policy items)) (item.Publish p ∷ items))
    (sym (words_append outs more ∙ ap (λ first. first ++ words_sent more)
    (forwarded_quiet p (packet_id_by link p.qos) o)))
    (says_then link mid (link_after mid items (exits_of policy items)) (item.Publish p ∷ []) items []
    (words_sent more)
    (says_nothing link mid (item.Publish p) (exited_wanted link p o) (λ w before text. idle_if w before))
    (leaving_says policy mid items (exited_speaks link p o speaks) short.1)
    (ap (map (λ w. w.filter)) (exited_wanted link p o))
    (join_idle (item.Publish p) items (λ w before text. idle_if w before) (λ w before text. refl)))
leaving_says policy link (item.Subscribe filter ∷ items) speaks short =
    let mid = subscribe_left link filter in
    let outs = subscribe_leaves link filter in
    let more = leaving mid items (exits_of policy items) in
    subst (Says link (link_after mid items (exits_of policy items)) (item.Subscribe filter ∷ items))
    (sym (words_append outs more))
    (says_then link mid (link_after mid items (exits_of policy items)) (item.Subscribe filter ∷ []) items
    (words_sent outs)
    (words_sent more)
    (subscribe_words link filter (wants link.wanted filter) refl speaks)
    (leaving_says policy mid items (subscribe_speaks link filter speaks) short.1)
    (left_same link (item.Subscribe filter ∷ []) [])
    (join_subscribe filter items))
leaving_says policy link (item.Unsubscribe filter ∷ items) speaks short =
    let mid = unsubscribe_left link filter in
    let outs = unsubscribe_leaves link filter in
    let more = leaving mid items (exits_of policy items) in
    subst (Says link (link_after mid items (exits_of policy items)) (item.Unsubscribe filter ∷ items))
    (sym (words_append outs more))
    (says_then link mid (link_after mid items (exits_of policy items)) (item.Unsubscribe filter ∷ []) items
    (words_sent outs)
    (words_sent more)
    (unsubscribe_words link filter (wants link.wanted filter) refl speaks short.0)
    (leaving_says policy mid items (unsubscribe_speaks link filter speaks) short.1)
    (left_same link (item.Unsubscribe filter ∷ []) [])
    (join_unsubscribe filter items))
leaving_says policy link (item.Acknowledge packet_id ∷ items) speaks short =
    let more = leaving link items (exits_of policy items) in
    let later = leaving_says policy link items speaks short.1 in
    subst (Says link (link_after link items (exits_of policy items)) (item.Acknowledge packet_id ∷ items))
    (sym (ap (λ first. first ++ words_sent more) (ack_quiet packet_id).words))
    (record { said = later.said })
leaving_says policy link (item.Ping ∷ items) speaks short =
    let more = leaving link items (exits_of policy items) in
    let later = leaving_says policy link items speaks short.1 in
    subst (Says link (link_after link items (exits_of policy items)) (item.Ping ∷ items))
    (sym (ap (λ first. first ++ words_sent more) ping_quiet.words))
    (record { said = later.said })

-- ---- a connection begins

again_quiet : (sent : InFlight) (o : Outcome) → words_sent (sent_again sent o) ≡ []
again_quiet sent Allowed =
    rw
    (publish_quiet
    (record {
      dup = false;
      retain = sent.publication.retain;
      packet_id = Some sent.packet_id;
      name = sent.publication.name;
      payload = sent.publication.payload;
    })).words refl
again_quiet sent (Denied rule) = refl

pub resending_quiet : (policy : Policy) (flights : List InFlight)
    → words_sent (resending flights (agains_of policy flights)) ≡ []
resending_quiet policy [] = refl
resending_quiet policy (sent ∷ flights) =
    let o = exit policy sent.publication.origin sent.publication.name in
    let more = resending flights (agains_of policy flights) in
    words_append (sent_again sent o) more
    ∙ (ap (λ first. first ++ words_sent more) (again_quiet sent o) ∙ resending_quiet policy flights)

-- it is one of these filters
abbrev pub is_one : List (List ℕ) → List ℕ → Bool
is_one [] text = false
is_one (filter ∷ filters) text = bytes_eq text filter || is_one filters text

abbrev pub ShortTexts : List (List ℕ) → Type 0
ShortTexts [] = Unit {0}
ShortTexts (filter ∷ filters) = (length filter ≤ 65535) × ShortTexts filters

-- these are wanted
abbrev pub EachWanted : List Wanted → List (List ℕ) → Type 0
EachWanted wanted [] = Unit {0}
EachWanted wanted (filter ∷ filters) = (wants wanted filter ≡ true) × EachWanted wanted filters

pub still_each : (a b : List Wanted) (filters : List (List ℕ)) → ((text : List ℕ) → wants b text ≡ wants a text)
    → EachWanted a filters → EachWanted b filters
still_each a b [] same each = tt
still_each a b (filter ∷ filters) same each = (same filter ∙ each.0, still_each a b filters same each.1)

pub subscribing_says : (link : Link) (filters : List (List ℕ)) → link.last ≤ 65535 → ShortTexts filters
    → EachWanted link.wanted filters → (text : List ℕ) (before : Bool)
    → (said_upstream (words_sent (subscribing link filters)) text before
    || owes (subscribes_sent link filters).wanted text)
    ≡ (is_one filters text || (before || owes link.wanted text))
subscribing_says link [] small short each text before = refl
subscribing_says link (filter ∷ filters) small short each text before =
    let mid = subscribe_sent link filter in
    let out = subscribe_out link filter in
    let after = (subscribes_sent mid filters).wanted in
    let same : (one : List ℕ) → wants mid.wanted one ≡ wants link.wanted one =
    λ one. same_wants mid.wanted link.wanted (sent_filters link filter) one in
    ap (λ words. said_upstream words text before || owes after text)
    (words_append out (subscribing mid filters))
    ∙ (ap (λ b. b || owes after text)
    (said_both (words_sent out) (words_sent (subscribing mid filters)) text before)
    ∙ (subscribing_says mid filters (subscribed_last link filter small) short.1
    (still_each link.wanted mid.wanted filters same each.1) text (said_upstream (words_sent out) text before)
    ∙ (ap (λ b. is_one filters text || b)
    (out_said link filter (may_open link.wanted filter) refl small short.0 each.0 text before)
    ∙ or_turn (bytes_eq text filter) (is_one filters text) (before || owes link.wanted text))))

pub sent_small : (link : Link) (filters : List (List ℕ)) → link.last ≤ 65535
    → (subscribes_sent link filters).last ≤ 65535
sent_small link [] small = small
sent_small link (filter ∷ filters) small =
    sent_small (subscribe_sent link filter) filters (subscribed_last link filter small)

pub after_small : (policy : Policy) (link : Link) (items : List Item) → link.last ≤ 65535
    → (link_after link items (exits_of policy items)).last ≤ 65535
after_small policy link [] small = small
after_small policy link (item.Publish p ∷ items) small =
    after_small policy (exited link p (exit policy p.origin p.name)) items
    (exited_last link p (exit policy p.origin p.name) small)
after_small policy link (item.Subscribe filter ∷ items) small =
    after_small policy (subscribe_left link filter) items
    (subscribe_last link filter (wants link.wanted filter) refl small)
after_small policy link (item.Unsubscribe filter ∷ items) small =
    after_small policy (unsubscribe_left link filter) items
    (unsubscribe_last link filter (wants link.wanted filter) refl small)
after_small policy link (item.Acknowledge packet_id ∷ items) small = after_small policy link items small
after_small policy link (item.Ping ∷ items) small = after_small policy link items small
