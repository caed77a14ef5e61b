-- What is in flight moves, as publishes leave, as what the rows show of it.
use Rattle.std.proofs.Common.{◌≡◌, ℕ, ◌+◌, ◌≤◌, Bool, true, false, List, [], ◌∷◌, ◌++◌, length, cond, refl}
use Rattle.std.proofs.Common.{ap, sym, ◌∙◌, subst, arith}
use Rattle.std.proofs.Common.{length-append}
use Rattle.std.specs.Prelude.{if◌then◌else◌, count_by, Some}
use Rattle.std.proofs.lemmas.List.{append-nil, append_assoc, map-append}
use Rattle.sng_text.specs.declared.qos.Qos.{Qos}
use Rattle.sng_text.specs.declared.qos.Qos.TheVariants.{AtMostOnce, AtLeastOnce}
use Rattle.sng_grants.specs.declared.policy.Policy.{Policy}
use Rattle.sng_outbox.specs.Sending.{is_at_least_once, asks_for_ack}
use Rattle.sng_outbox.specs.declared.in_flight.InFlight.{InFlight}
use Rattle.sng_outbox.specs.declared.item.Item.{Item}
use Rattle.sng_outbox.specs.declared.item.Item.TheVariants as item
use Rattle.sng_outbox.specs.declared.item.Publication.{Publication}
use Rattle.sng_outbox.proofs.LoadLemmas.{counted-front}
use Rattle.sng_grants.specs.declared.limits.TheConstants.{MAX_FLIGHT}
use Rattle.sng_book.specs.declared.outcome.Outcome.{Outcome}
use Rattle.sng_book.specs.declared.outcome.Outcome.TheVariants.{Allowed, Denied}
use Rattle.sng_book.specs.declared.out.Out.{Out}
use Rattle.sng_history.specs.Links.{Link, wants, packet_id_by, next_packet_id, sent_by}
use Rattle.sng_history.specs.Links.{exited, subscribe_left}
use Rattle.sng_history.specs.Links.{unsubscribe_left, link_after}
use Rattle.sng_history.specs.Links.{may_open, subscribe_sent, subscribes_sent}
use Rattle.sng_history.specs.Verdicts.{exit}
use Rattle.sng_history.specs.Exits.{packet_of, exits_of, forwarded, subscribe_leaves, unsubscribe_leaves}
use Rattle.sng_history.specs.Exits.{leaving}
use Rattle.sng_promise.proofs.Link.LawLink.{wires_depart, subscribe_wires, unsubscribe_wires}
use Rattle.sng_laws.specs.ViewsLink.{publications, departures}
use Rattle.sng_laws.specs.ViewsFlight.{id_shown, flights_of}
use Rattle.sng_laws.specs.LawsFlight.{AreIds}
use Rattle.sng_promise.proofs.Link.FlightIds.{ids_of, ids_push, Fit, Free, next_is_free, shown}
use Rattle.sng_history.proofs.FewOpen.{sent_open}

-- the link moves so that these are in flight, too
pub record Moves (link after : Link) (new : List InFlight) : Type 0 where
  pub in_flight : after.in_flight ≡ link.in_flight ++ new
  pub pinged : after.pinged ≡ link.pinged
  pub fit : Fit after

stays : (link : Link) → Fit link → Moves link link []
stays link fit = record { in_flight = sym (append-nil link.in_flight); pinged = refl; fit = fit }

moves_on : (a b c : Link) (new more : List InFlight) → Moves a b new → Moves b c more
    → Moves a c (new ++ more)
moves_on a b c new more one two = record {
  in_flight =
      two.in_flight ∙ (ap (λ flights. flights ++ more) one.in_flight ∙ append_assoc a.in_flight new more);
  pinged = two.pinged ∙ one.pinged;
  fit = two.fit;
}

-- ---- one publish

-- what is in flight by a publish at this QoS
abbrev new_by : Link → Publication → Qos → List InFlight
new_by link p q =
    if is_at_least_once q then record {
      packet_id = id_shown p (Some (packet_of p (packet_id_by link q)));
      publication = p;
    } ∷ [] else []

new_length : (link : Link) (p : Publication) (q : Qos)
    → length (new_by link p q) ≡ cond (is_at_least_once q) 1 0
new_length link p AtMostOnce = refl
new_length link p AtLeastOnce = refl

given : (link : Link) (p : Publication) (n m : ℕ) → Fit link → n ≡ next_packet_id link → m ≡ n → Free link n
    → Moves link (record link {
      last = n;
      in_flight = link.in_flight ++ record { packet_id = n; publication = p } ∷ [];
    })
    (record { packet_id = m; publication = p } ∷ [])
given link p n m fit is same free = record {
  in_flight = ap (λ k. link.in_flight ++ record { packet_id = k; publication = p } ∷ []) (sym same);
  pinged = refl;
  fit = record {
    ids = subst AreIds
        (sym (map-append (λ (sent : InFlight). sent.packet_id) link.in_flight
        (record { packet_id = n; publication = p } ∷ [])))
        (ids_push (ids_of link.in_flight) n fit.ids free.some free.small free.unused);
    last = free.small;
    few = fit.few;
  };
}

sent_moves : (link : Link) (p : Publication) (q : Qos) → Fit link
    → length link.in_flight + cond (is_at_least_once q) 1 0 ≤ MAX_FLIGHT
    → Moves link (sent_by link p q) (new_by link p q)
sent_moves link p AtMostOnce fit few = stays link fit
sent_moves link p AtLeastOnce fit few =
    let n = next_packet_id link in
    let free : Free link n = next_is_free link fit (omega arith) in
    given link p n (id_shown p (Some (packet_of p (Some n)))) fit refl (shown p n free.small) free

-- the first that leaves
first_moves : (link : Link) (p : Publication) (o : Outcome) (ps : List Publication) (outs : List Out)
    (after : Link)
    → Fit link → length link.in_flight + cond (is_at_least_once p.qos) 1 0 ≤ MAX_FLIGHT
    → (Fit (exited link p o) → length (exited link p o).in_flight ≤ length link.in_flight
    + cond (is_at_least_once p.qos) 1 0
    → Moves (exited link p o) after (flights_of ps (departures outs)))
    → Moves link after (flights_of (p ∷ ps) (departures (forwarded p (packet_id_by link p.qos) o ++ outs)))
first_moves link p Allowed ps outs after fit few rest =
    let one = sent_moves link p p.qos fit few in
    let count : length (new_by link p p.qos) ≡ cond (is_at_least_once p.qos) 1 0 = new_length link p p.qos in
    let all : length (sent_by link p p.qos).in_flight ≡ length link.in_flight + length (new_by link p p.qos) =
    ap length one.in_flight ∙ length-append link.in_flight (new_by link p p.qos) in
    moves_on link (sent_by link p p.qos) after (new_by link p p.qos) (flights_of ps (departures outs)) one
    (rest one.fit (omega arith))
first_moves link p (Denied rule) ps outs after fit few rest = rest fit (omega arith)

-- ---- a SUBSCRIBE and an UNSUBSCRIBE

-- what a SUBSCRIBE that has to leave keeps of the link
record Kept (link after : Link) : Type 0 where
  in_flight : after.in_flight ≡ link.in_flight
  pinged : after.pinged ≡ link.pinged
  last : after.last ≤ 65535

sent_kept : (link : Link) (text : List ℕ) (may : Bool) → may_open link.wanted text ≡ may → Fit link
    → length link.in_flight ≤ MAX_FLIGHT → Kept link (subscribe_sent link text)
sent_kept link text true is fit few =
    rw is (record { in_flight = refl; pinged = refl; last = (next_is_free link fit few).small })
sent_kept link text false is fit few = rw is (record { in_flight = refl; pinged = refl; last = fit.last })

sent_moves_on : (link : Link) (text : List ℕ) → Fit link → length link.in_flight ≤ MAX_FLIGHT
    → Moves link (subscribe_sent link text) []
sent_moves_on link text fit few =
    let kept = sent_kept link text (may_open link.wanted text) refl fit few in
    record {
      in_flight = kept.in_flight ∙ sym (append-nil link.in_flight);
      pinged = kept.pinged;
      fit = record {
        ids = subst (λ (flights : List InFlight). AreIds (ids_of flights)) (sym kept.in_flight) fit.ids;
        last = kept.last;
        few = sent_open link text fit.few;
      };
    }

-- as each of these has to leave
pub all_subscribed : (link : Link) (texts : List (List ℕ)) → Fit link → length link.in_flight ≤ MAX_FLIGHT
    → Moves link (subscribes_sent link texts) []
all_subscribed link [] fit few = stays link fit
all_subscribed link (text ∷ texts) fit few =
    let next = subscribe_sent link text in
    let one = sent_moves_on link text fit few in
    let same : length next.in_flight ≡ length link.in_flight =
    ap length (one.in_flight ∙ append-nil link.in_flight) in
    moves_on link next (subscribes_sent next texts) [] [] one
    (all_subscribed next texts one.fit (omega (arith, same, few)))

subscribe_moves : (link : Link) (text : List ℕ) (b : Bool) → wants link.wanted text ≡ b → Fit link
    → length link.in_flight ≤ MAX_FLIGHT
    → Moves link (subscribe_left link text) []
subscribe_moves link text true is fit few = rw is (sent_moves_on link text fit few)
subscribe_moves link text false is fit few = rw is (stays link fit)

unsubscribe_moves : (link : Link) (text : List ℕ) (b : Bool) → wants link.wanted text ≡ b → Fit link
    → length link.in_flight ≤ MAX_FLIGHT
    → Moves link (unsubscribe_left link text) []
unsubscribe_moves link text true is fit few = rw is (stays link fit)
unsubscribe_moves link text false is fit few =
    let free : Free link (next_packet_id link) = next_is_free link fit few in
    rw is
    (record {
      in_flight = sym (append-nil link.in_flight);
      pinged = refl;
      fit =
          record { ids = fit.ids; last = free.small; few = fit.few };
    })

-- ---- all of them

pub all_move : (policy : Policy) (link : Link) (items : List Item) → Fit link
    → length link.in_flight + count_by asks_for_ack items ≤ MAX_FLIGHT
    → Moves link (link_after link items (exits_of policy items))
    (flights_of (publications items) (departures (leaving link items (exits_of policy items))))
all_move policy link [] fit few = stays link fit
all_move policy link (item.Publish p ∷ items) fit few =
    let o = exit policy p.origin p.name in
    let count : count_by asks_for_ack (item.Publish p ∷ items)
    ≡ cond (is_at_least_once p.qos) 1 0 + count_by asks_for_ack items =
    counted-front (item.Publish p) items in
    first_moves link p o (publications items) (leaving (exited link p o) items (exits_of policy items))
    (link_after (exited link p o) items (exits_of policy items)) fit (omega arith)
    (λ fits more. all_move policy (exited link p o) items fits (omega arith))
all_move policy link (item.Subscribe text ∷ items) fit few =
    let next = subscribe_left link text in
    let outs = leaving next items (exits_of policy items) in
    let one = subscribe_moves link text (wants link.wanted text) refl fit (omega arith) in
    let same : length next.in_flight ≡ length link.in_flight =
    ap length (one.in_flight ∙ append-nil link.in_flight) in
    subst (λ ds. Moves link (link_after next items (exits_of policy items))
    (flights_of (publications items) ds))
    (sym (wires_depart (subscribe_leaves link text) outs (subscribe_wires link text)))
    (moves_on link next (link_after next items (exits_of policy items)) []
    (flights_of (publications items) (departures outs)) one
    (all_move policy next items one.fit (omega (arith, same, counted-front (item.Subscribe text) items))))
all_move policy link (item.Unsubscribe text ∷ items) fit few =
    let next = unsubscribe_left link text in
    let outs = leaving next items (exits_of policy items) in
    let one = unsubscribe_moves link text (wants link.wanted text) refl fit (omega arith) in
    let same : length next.in_flight ≡ length link.in_flight =
    ap length (one.in_flight ∙ append-nil link.in_flight) in
    subst (λ ds. Moves link (link_after next items (exits_of policy items))
    (flights_of (publications items) ds))
    (sym (wires_depart (unsubscribe_leaves link text) outs (unsubscribe_wires link text)))
    (moves_on link next (link_after next items (exits_of policy items)) []
    (flights_of (publications items) (departures outs)) one
    (all_move policy next items one.fit (omega (arith, same, counted-front (item.Unsubscribe text) items))))
all_move policy link (item.Acknowledge packet_id ∷ items) fit few =
    all_move policy link items fit (omega (arith, counted-front (item.Acknowledge packet_id) items))
all_move policy link (item.Ping ∷ items) fit few =
    all_move policy link items fit (omega (arith, counted-front item.Ping items))
