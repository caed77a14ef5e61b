-- Who is lost by a tick of the clock, and what becomes of its will.
use Rattle.std.proofs.Common.{◌≡◌, ℕ, ◌+◌, Bool, true, false, List, [], ◌∷◌, ◌++◌, length, refl, ap, sym}
use Rattle.std.proofs.Common.{◌∙◌, if◌then◌else◌, arith}
use Rattle.std.specs.Prelude.{◌&&◌, ◌||◌, ◌==◌, not, nat_lt, filter, Option, Some, None}
use Rattle.std.proofs.lemmas.Bool.Decides.{nat_tests}
use Rattle.std.proofs.lemmas.List.{append-nil}
use Rattle.sng_grants.specs.Limits.{Limits, flight_limit}
use Rattle.sng_text.specs.declared.qos.Qos.{Qos}
use Rattle.sng_text.specs.declared.qos.Qos.TheVariants.{AtMostOnce, AtLeastOnce}
use Rattle.sng_wills.specs.declared.will.Will.{Will}
use Rattle.sng_outbox.specs.Sending.{load}
use Rattle.sng_outbox.specs.declared.item.Item.TheVariants as item
use Rattle.sng_outbox.specs.declared.item.Publication.{Publication}
use Rattle.sng_outbox.specs.declared.origin.Origin.TheVariants as origin
use Rattle.sng_book.specs.Denials.{is_allowed}
use Rattle.sng_book.specs.declared.outcome.Place.TheVariants as place
use Rattle.sng_book.specs.declared.outcome.Denial.TheVariants.{Room}
use Rattle.sng_book.specs.declared.outcome.RoomDenial.TheVariants.{Full}
use Rattle.sng_book.specs.declared.outcome.Outcome.{Outcome}
use Rattle.sng_book.specs.declared.outcome.Outcome.TheVariants.{Allowed, Denied}
use Rattle.sng_book.specs.declared.row.Row.{Row}
use Rattle.sng_history.specs.Clients.{Client}
use Rattle.sng_history.specs.Links.{Link}
use Rattle.sng_history.specs.Room.{room_in}
use Rattle.sng_history.specs.Ticking as ticking
use Rattle.sng_history.specs.Ticking.{is_overdue, is_repeating, is_tried_out, is_lost_at}
use Rattle.sng_history.specs.Ticking.{placed, all_placed}
use Rattle.sng_laws.specs.ViewsClients.{phase_of, duration_of, heard_of}
use Rattle.sng_laws.specs.ViewsHanding.{is_at_least_once}
use Rattle.sng_laws.specs.ViewsFlight.{in_flight}
use Rattle.sng_laws.specs.ViewsLink.{publications, published_for}
use Rattle.sng_laws.specs.LawsState.{ClientShown}
use Rattle.sng_laws.specs.LawsRules.{judged}
use Rattle.sng_laws.specs.LawsRules.{Rule}
use Rattle.sng_laws.specs.LawsLost.{is_silent, is_due_to_be_lost, place_rules, placed_by}
use Rattle.sng_laws.specs.LawsLost.{will_placed}
use Rattle.sng_promise.proofs.Answers.LawPublishVerdicts.{load_shown}
use Rattle.sng_promise.proofs.Ticks.LawRetries.{given_up_shown}
use Rattle.sng_laws.specs.Views.{last_limits}
use Rattle.sng_outbox.specs.declared.item.Item.{Item}

-- ---- who is lost

stated_some : (n : ℕ) → nat_lt 0 n ≡ not (n == 0)
stated_some n = grind (arith, nat_tests)

overdue_shown : (h : List Row) (clock : ℕ) (x : Client) → ClientShown h x
    → is_overdue clock x ≡ is_silent (phase_of x.id h) (duration_of x.id h) (heard_of x.id h) clock
overdue_shown h clock x shown = rw (shown.phase, shown.duration, shown.heard, stated_some x.duration) refl

pub lost_shown : (h : List Row) (clock : ℕ) (x : Client) → ClientShown h x
    → is_lost_at clock x ≡ is_due_to_be_lost h clock x.id
lost_shown h clock x shown =
    ap (λ b. b || (is_repeating clock x && is_tried_out x.buffer.exchange)) (overdue_shown h clock x shown)
    ∙ ap (λ b. is_silent (phase_of x.id h) (duration_of x.id h) (heard_of x.id h) clock || b)
    (given_up_shown h clock x shown)

-- ---- its will

-- the place for a publish, where these wait and just those are in flight that the rows show
abbrev pub Crowds : Limits → List Row → Link → Type 0
Crowds limits h link = (limits ≡ last_limits h) × (link.in_flight ≡ in_flight h)

waiting_load : (h : List Row) (link : Link) → link.in_flight ≡ in_flight h
    → load (record { waiting = link.waiting; in_flight = link.in_flight })
    ≡ length (filter (λ one. is_at_least_once one.qos) (publications link.waiting)) + length (in_flight h)
waiting_load h link flights =
    ap (λ n. n + length link.in_flight) (load_shown link.waiting)
    ∙ ap (λ sent. length (filter (λ one. is_at_least_once one.qos) (publications link.waiting)) + length sent)
    flights

place_by : (r : Bool)
    → (if r then Allowed else Denied (Room (Full place.Outbox)))
    ≡ judged ((false, Room (Full place.InFlight)) ∷ (not r, Room (Full place.Outbox)) ∷ [])
place_by true = refl
place_by false = refl

room_both : (f r : Bool)
    → (if f then (if r then Allowed else Denied (Room (Full place.Outbox)))
    else Denied (Room (Full place.InFlight)))
    ≡ judged ((not f, Room (Full place.InFlight)) ∷ (not r, Room (Full place.Outbox)) ∷ [])
room_both true true = refl
room_both true false = refl
room_both false r = refl

-- what denies it a place, by these limits
abbrev rules_by : Limits → List Row → List Item → Qos → List Rule
rules_by limits h items q = (
  is_at_least_once q
      && not (nat_lt (length (filter (λ one. is_at_least_once one.qos) (publications items))
      + length (in_flight h)) (flight_limit limits)),
  Room (Full place.InFlight),
)
    ∷ (not (nat_lt (length items) limits.waiting), Room (Full place.Outbox))
    ∷ []

room_at : (limits : Limits) (h : List Row) (link : Link) (q : Qos) → link.in_flight ≡ in_flight h
    → room_in limits link q ≡ judged (rules_by limits h link.waiting q)
room_at limits h link AtMostOnce flights = place_by (nat_lt (length link.waiting) limits.waiting)
room_at limits h link AtLeastOnce flights =
    let free = nat_lt (length link.waiting) limits.waiting in
    ap (λ n. if nat_lt n (flight_limit limits) then (if free then Allowed else Denied (Room (Full place.Outbox)))
    else Denied (Room (Full place.InFlight)))
    (waiting_load h link flights)
    ∙ room_both (nat_lt (length (filter (λ one. is_at_least_once one.qos) (publications link.waiting))
    + length (in_flight h)) (flight_limit limits)) free

pub room_judged : (limits : Limits) (h : List Row) (link : Link) (p : Publication) → Crowds limits h link
    → room_in limits link p.qos ≡ judged (place_rules h link.waiting p)
room_judged limits h link p crowds =
    room_at limits h link p.qos crowds.1
    ∙ ap (λ (l : Limits). judged (rules_by l h link.waiting p.qos)) crowds.0

-- the link once it waits, or finds no place
placed_by_verdict : (link : Link) (p : Publication) (o : Outcome)
    → (let l : Link = if is_allowed o then ticking.with_item link (item.Publish p) else link in l.waiting)
    ≡ link.waiting ++ placed_by p o
placed_by_verdict link p Allowed = refl
placed_by_verdict link p (Denied rule) = sym (append-nil link.waiting)

placed_waits : (limits : Limits) (h : List Row) (link : Link) (p : Publication) → Crowds limits h link
    → (placed limits link p).waiting ≡ link.waiting ++ placed_by p (judged (place_rules h link.waiting p))
placed_waits limits h link p flights =
    placed_by_verdict link p (room_in limits link p.qos)
    ∙ ap (λ o. link.waiting ++ placed_by p o) (room_judged limits h link p flights)

-- what waits once the will waits, where it finds a place
pub will_waits : (limits : Limits) (h : List Row) (link : Link) (id : List ℕ) (will : Option Will)
    → Crowds limits h link
    → (all_placed limits link (ticking.will_of id will)).waiting
    ≡ link.waiting ++ will_placed h link.waiting (published_for id will)
will_waits limits h link id None flights = sym (append-nil link.waiting)
will_waits limits h link id (Some will) flights =
    placed_waits limits h link (record {
      origin = origin.Client id;
      name = will.topic;
      payload = will.payload;
      qos = will.qos;
      retain = will.retain;
    }) flights
