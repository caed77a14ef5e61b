-- The room that is counted ahead is what the limits leave on the link, as the publishes come to wait one after
-- another.
use Rattle.std.proofs.Common.{◌≡◌, ℕ, ◌+◌, ◌-◌, ◌==◌, Bool, true, false, List, [], ◌∷◌, ◌++◌, length, refl}
use Rattle.std.proofs.Common.{ap, sym, ◌∙◌, arith}
use Rattle.std.specs.Prelude.{if◌then◌else◌, nat_lt, count_by}
use Rattle.std.proofs.lemmas.List.{length-append}
use Rattle.std.proofs.lemmas.List.Sums.{sum_by-append}
use Rattle.std.proofs.lemmas.Bool.Decides.{nat_tests}
use Rattle.sng_text.specs.declared.qos.Qos.{Qos}
use Rattle.sng_text.specs.declared.qos.Qos.TheVariants.{AtMostOnce, AtLeastOnce}
use Rattle.sng_grants.specs.Limits.{Limits, flight_limit}
use Rattle.sng_outbox.specs.Sending.{asks_for_ack, load}
use Rattle.sng_outbox.specs.declared.item.Item.{Item}
use Rattle.sng_outbox.specs.declared.item.Item.TheVariants as item
use Rattle.sng_outbox.specs.declared.item.Publication.{Publication}
use Rattle.sng_book.specs.Denials.{is_allowed}
use Rattle.sng_book.specs.declared.outcome.Place.TheVariants as place
use Rattle.sng_book.specs.declared.outcome.Denial.TheVariants as denial
use Rattle.sng_book.specs.declared.outcome.RoomDenial.TheVariants.{Full}
use Rattle.sng_book.specs.declared.outcome.Outcome.{Outcome}
use Rattle.sng_book.specs.declared.outcome.Outcome.TheVariants.{Allowed, Denied}
use Rattle.sng_history.specs.Links.{Link}
use Rattle.sng_history.specs.Packets.{has_place}
use Rattle.sng_history.specs.Room.{room_in}
use Rattle.sng_history.specs.Ticking.{with_item, placed}
use Rattle.sng_link.specs.Rooms.{room_of, place_by, room_by, less, left_by, room_past}
use Rattle.sng_link.specs.declared.room.Room.{Room}

-- ---- whether there is room

left_test : (most n : ℕ) (b : Bool) → nat_lt n most ≡ b → (most - n == 0) ≡ (if b then false else true)
left_test most n true is = grind (arith, nat_tests, is)
left_test most n false is = grind (arith, nat_tests, is)

-- there is no place where none is left
pub place_left : (limits : Limits) (link : Link)
    → (room_of limits link).places == 0 ≡ (if has_place limits link then false else true)
place_left limits link = left_test limits.waiting (length link.waiting) (has_place limits link) refl

if_not : (b : Bool) (x y : Outcome) → (if b then x else y) ≡ (if (if b then false else true) then y else x)
if_not true x y = refl
if_not false x y = refl

place_same : (limits : Limits) (link : Link)
    → (if has_place limits link then Allowed else Denied (denial.Room (Full place.Outbox)))
    ≡ place_by (room_of limits link).places
place_same limits link =
    if_not (has_place limits link) Allowed (Denied (denial.Room (Full place.Outbox)))
    ∙ ap (λ b. if b then Denied (denial.Room (Full place.Outbox)) else Allowed) (sym (place_left limits link))

pub room_same : (limits : Limits) (link : Link) (q : Qos)
    → room_in limits link q ≡ room_by (room_of limits link) q
room_same limits link AtMostOnce = place_same limits link
room_same limits link AtLeastOnce =
    let n = load (record { waiting = link.waiting; in_flight = link.in_flight }) in
    let most = flight_limit limits in
    let places = if has_place limits link then Allowed else Denied (denial.Room (Full place.Outbox)) in
    if_not (nat_lt n most) places (Denied (denial.Room (Full place.InFlight)))
    ∙ (ap (λ b. if b then Denied (denial.Room (Full place.InFlight)) else places)
    (sym (left_test most n (nat_lt n most) refl))
    ∙ ap (λ o. if (room_of limits link).flights == 0 then Denied (denial.Room (Full place.InFlight)) else o)
    (place_same limits link))

-- ---- what is left of it

one_more : (items : List Item) (one : Item) → length (items ++ one ∷ []) ≡ length items + 1
one_more items one = length-append items (one ∷ [])

abbrev one_if : Bool → ℕ
one_if b = if b then 1 else 0

one_asks : (items : List Item) (one : Item) (b : Bool) → asks_for_ack one ≡ b
    → count_by asks_for_ack (items ++ one ∷ []) ≡ count_by asks_for_ack items + one_if b
one_asks items one b is =
    omega (arith, sum_by-append (λ i. one_if (asks_for_ack i)) items (one ∷ []), ap one_if is)

abbrev room_with : ℕ → ℕ → Room
room_with places flights = record { places = places; flights = flights }

waits_by : (limits : Limits) (link : Link) (p : Publication) (q : Qos) → p.qos ≡ q
    → room_of limits (with_item link (item.Publish p)) ≡ less (room_of limits link) q
waits_by limits link p AtMostOnce is =
    let w = link.waiting in
    let most = flight_limit limits in
    let one : Item = item.Publish p in
    let places : limits.waiting - length (w ++ one ∷ []) ≡ (limits.waiting - length w) - 1 =
    omega (arith, one_more w one) in
    let asks = one_asks w one false (rw is refl) in
    let n = length link.in_flight in
    let flights : most - (count_by asks_for_ack (w ++ one ∷ []) + n)
    ≡ most - (count_by asks_for_ack w + n) =
    omega (arith, asks) in
    λ i. room_with (places i) (flights i)
waits_by limits link p AtLeastOnce is =
    let w = link.waiting in
    let most = flight_limit limits in
    let one : Item = item.Publish p in
    let places : limits.waiting - length (w ++ one ∷ []) ≡ (limits.waiting - length w) - 1 =
    omega (arith, one_more w one) in
    let asks = one_asks w one true (rw is refl) in
    let n = length link.in_flight in
    let flights : most - (count_by asks_for_ack (w ++ one ∷ []) + n)
    ≡ (most - (count_by asks_for_ack w + n)) - 1 =
    omega (arith, asks) in
    λ i. room_with (places i) (flights i)

placed_by : (limits : Limits) (link : Link) (p : Publication) (o : Outcome)
    → room_of limits (if is_allowed o then with_item link (item.Publish p) else link)
    ≡ left_by (room_of limits link) p.qos o
placed_by limits link p Allowed = waits_by limits link p p.qos refl
placed_by limits link p (Denied rule) = refl

pub room_placed : (limits : Limits) (link : Link) (p : Publication)
    → room_of limits (placed limits link p) ≡ room_past (room_of limits link) p.qos
room_placed limits link p =
    placed_by limits link p (room_in limits link p.qos)
    ∙ ap (left_by (room_of limits link) p.qos) (room_same limits link p.qos)
