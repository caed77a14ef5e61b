-- No more publishes at QoS 1 are in flight than may be, as items leave and answers come.
use Rattle.std.proofs.Common.{◌≡◌, ◌≤◌, ◌+◌, ℕ, Bool, true, false, List, [], ◌∷◌, ◌++◌, length, refl, ap}
use Rattle.std.proofs.Common.{◌∙◌, arith}
use Rattle.std.specs.Prelude.{if◌then◌else◌}
use Rattle.sng_text.specs.declared.qos.Qos.{Qos}
use Rattle.sng_text.specs.declared.qos.Qos.TheVariants.{AtMostOnce, AtLeastOnce}
use Rattle.sng_outbox.specs.Sending.{is_at_least_once, has_id, without_first}
use Rattle.sng_outbox.specs.declared.in_flight.InFlight.{InFlight}
use Rattle.sng_outbox.specs.declared.item.Item.{Item}
use Rattle.sng_outbox.specs.declared.item.Item.TheVariants as item
use Rattle.sng_outbox.specs.declared.item.Publication.{Publication}
use Rattle.sng_outbox.proofs.LoadLemmas.{counted-front}
use Rattle.sng_book.specs.declared.outcome.Outcome.{Outcome}
use Rattle.sng_book.specs.declared.outcome.Outcome.TheVariants.{Allowed, Denied}
use Rattle.sng_history.specs.Links.{Link, wants, next_packet_id, sent_by, exited, link_after, still_in_flight}
use Rattle.sng_history.specs.Links.{may_open, subscribe_sent, subscribes_sent, subscribe_left}
use Rattle.sng_history.specs.Links.{unsubscribe_left}
use Rattle.sng_history.specs.Packets.{Answer, Delivers, Acknowledges, Grants, Refuses, Confirms, Strange}
use Rattle.sng_history.specs.Packets.{answered}
use Rattle.sng_history.proofs.WaitingAcks.{acks}

less_by : (b : Bool) (sent : InFlight) (flights rest : List InFlight) → length rest ≤ length flights
    → length (if b then flights else sent ∷ rest) ≤ length (sent ∷ flights)
less_by true sent flights rest less = omega arith
less_by false sent flights rest less = omega (arith, less)

without_less : (flights : List InFlight) (packet_id : ℕ)
    → length (without_first flights packet_id) ≤ length flights
without_less [] packet_id = omega arith
without_less (sent ∷ flights) packet_id =
    less_by (has_id packet_id sent) sent flights (without_first flights packet_id)
    (without_less flights packet_id)

pub answered_less : (link : Link) (a : Answer) → length (answered link a).in_flight ≤ length link.in_flight
answered_less link (Acknowledges packet_id) = without_less link.in_flight packet_id
answered_less link (Delivers p) = omega arith
answered_less link (Grants packet_id) = omega arith
answered_less link (Refuses packet_id) = omega arith
answered_less link Confirms = omega arith
answered_less link Strange = omega arith

pub still_less : (flights : List InFlight) (outcomes : List Outcome)
    → length (still_in_flight flights outcomes) ≤ length flights
still_less [] outcomes = omega arith
still_less (sent ∷ flights) [] = omega arith
still_less (sent ∷ flights) (Allowed ∷ outcomes) = omega (arith, still_less flights outcomes)
still_less (sent ∷ flights) (Denied rule ∷ outcomes) = omega (arith, still_less flights outcomes)

length_push : (xs : List InFlight) (x : InFlight) → length (xs ++ x ∷ []) ≡ length xs + 1
length_push [] x = refl
length_push (y ∷ xs) x = omega (arith, length_push xs x)

sent_more : (link : Link) (p : Publication) (q : Qos)
    → length (sent_by link p q).in_flight ≤ (if is_at_least_once q then 1 else 0) + length link.in_flight
sent_more link p AtMostOnce = omega arith
sent_more link p AtLeastOnce =
    omega (arith, length_push link.in_flight (record { packet_id = next_packet_id link; publication = p }))

exited_more : (link : Link) (p : Publication) (o : Outcome)
    → length (exited link p o).in_flight ≤ (if is_at_least_once p.qos then 1 else 0) + length link.in_flight
exited_more link p Allowed = sent_more link p p.qos
exited_more link p (Denied rule) = omega arith

-- subscriptions leave what is in flight as it is
pub sent_flights : (link : Link) (filter : List ℕ) (b : Bool) → may_open link.wanted filter ≡ b
    → (subscribe_sent link filter).in_flight ≡ link.in_flight
sent_flights link filter true is = rw is refl
sent_flights link filter false is = rw is refl

subscribe_flights : (link : Link) (filter : List ℕ) (b : Bool) → wants link.wanted filter ≡ b
    → (subscribe_left link filter).in_flight ≡ link.in_flight
subscribe_flights link filter true is = rw is (sent_flights link filter (may_open link.wanted filter) refl)
subscribe_flights link filter false is = rw is refl

unsubscribe_flights : (link : Link) (filter : List ℕ) (b : Bool) → wants link.wanted filter ≡ b
    → (unsubscribe_left link filter).in_flight ≡ link.in_flight
unsubscribe_flights link filter true is = rw is refl
unsubscribe_flights link filter false is = rw is refl

pub subscribes_flights : (link : Link) (filters : List (List ℕ))
    → (subscribes_sent link filters).in_flight ≡ link.in_flight
subscribes_flights link [] = refl
subscribes_flights link (filter ∷ filters) =
    subscribes_flights (subscribe_sent link filter) filters
    ∙ sent_flights link filter (may_open link.wanted filter) refl

pub after_more : (link : Link) (items : List Item) (outcomes : List Outcome)
    → length (link_after link items outcomes).in_flight ≤ acks items + length link.in_flight
after_more link [] outcomes = omega arith
after_more link (item.Publish p ∷ items) [] = omega arith
after_more link (item.Publish p ∷ items) (o ∷ outcomes) =
    omega (
      arith,
      exited_more link p o,
      after_more (exited link p o) items outcomes,
      counted-front (item.Publish p) items,
    )
after_more link (item.Subscribe filter ∷ items) outcomes =
    omega (
      arith,
      after_more (subscribe_left link filter) items outcomes,
      ap length (subscribe_flights link filter (wants link.wanted filter) refl),
      counted-front (item.Subscribe filter) items,
    )
after_more link (item.Unsubscribe filter ∷ items) outcomes =
    omega (
      arith,
      after_more (unsubscribe_left link filter) items outcomes,
      ap length (unsubscribe_flights link filter (wants link.wanted filter) refl),
      counted-front (item.Unsubscribe filter) items,
    )
after_more link (item.Acknowledge packet_id ∷ items) outcomes =
    omega (arith, after_more link items outcomes, counted-front (item.Acknowledge packet_id) items)
after_more link (item.Ping ∷ items) outcomes =
    omega (arith, after_more link items outcomes, counted-front item.Ping items)
