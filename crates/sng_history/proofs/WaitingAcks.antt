-- How many of the publishes that wait ask for an acknowledgement: one of a source never does, and one of a
-- client finds room.
use Rattle.std.proofs.Common.{◌≡◌, ◌≤◌, ◌<◌, ◌+◌, ℕ, Bool, true, false, List, [], ◌∷◌, ◌++◌, length, refl, ap}
use Rattle.std.proofs.Common.{sym, ◌∙◌, subst, arith, ◌⊎◌, inl, inr}
use Rattle.std.specs.Prelude.{if◌then◌else◌, ◌&&◌, nat_lt, count_by, Some, None, Ok, Err}
use Rattle.std.specs.declared.result.Result.{Result}
use Rattle.std.specs.List.{flat_map}
use Rattle.std.proofs.lemmas.List.{append-nil}
use Rattle.std.proofs.lemmas.List.Sums.{sum_by-append}
use Rattle.std.proofs.lemmas.Bool.Decides.{nat_tests}
use Rattle.sng_text.specs.declared.qos.Qos.{Qos}
use Rattle.sng_text.specs.declared.qos.Qos.TheVariants.{AtMostOnce, AtLeastOnce}
use Rattle.sng_policy.specs.Grants.{lists_source}
use Rattle.sng_frames.specs.declared.messages.publish.Publish.{Publish}
use Rattle.sng_outbox.specs.Sending.{asks_for_ack, load}
use Rattle.sng_grants.specs.Limits.{Limits, flight_limit}
use Rattle.sng_grants.specs.declared.limits.TheConstants.{MAX_FLIGHT}
use Rattle.sng_outbox.specs.declared.in_flight.InFlight.{InFlight}
use Rattle.sng_outbox.specs.declared.item.Item.{Item}
use Rattle.sng_outbox.specs.declared.origin.Origin.{Origin}
use Rattle.sng_outbox.specs.declared.origin.Origin.TheVariants as origin
use Rattle.sng_book.specs.declared.address.Address.{Address}
use Rattle.sng_book.specs.declared.outcome.Denial.{Denial}
use Rattle.sng_book.specs.declared.outcome.Denial.TheVariants.{Room}
use Rattle.sng_book.specs.declared.outcome.RoomDenial.TheVariants.{UpstreamDown, Full}
use Rattle.sng_book.specs.declared.outcome.Place.TheVariants as place
use Rattle.sng_book.specs.declared.outcome.Outcome.{Outcome}
use Rattle.sng_book.specs.declared.outcome.Outcome.TheVariants.{Allowed, Denied}
use Rattle.sng_book.specs.Denials.{is_allowed}
use Rattle.sng_history.specs.Clients.{Client, is_here}
use Rattle.sng_history.specs.Links.{Link}
use Rattle.sng_history.specs.Packets.{has_place}
use Rattle.sng_history.specs.Room.{has_flight, room_in}
use Rattle.sng_history.specs.State.{State, item_for, asked_by, qos_of}
use Rattle.sng_history.specs.Verdicts.{exit, and_then, room, verdict, named_ask, source_ask, name_in, may_ask}
use Rattle.sng_history.specs.Verdicts.{publish_named, publish_by}
use Rattle.sng_history.specs.Verdicts.{publish_ask, once_room_in, once_room, publish_once_named}
use Rattle.sng_history.specs.Verdicts.{publish_once_by, publish_once_ask}
use Rattle.sng_states.specs.OpenIds.{is_full_for}
use Rattle.sng_history.specs.Steps.{asked_by_all}
use Rattle.sng_history.specs.Good.{Each, Apart, OnePlace}

-- ---- how many of them ask for an acknowledgement

abbrev pub acks : List Item → ℕ
acks items = count_by asks_for_ack items

-- no more wait or are in flight than may
abbrev pub Few : List Item → List InFlight → Type 0
Few items flights = acks items + length flights ≤ MAX_FLIGHT

pub acks_append : (xs ys : List Item) → acks (xs ++ ys) ≡ acks xs + acks ys
acks_append xs ys = sum_by-append (λ i. if asks_for_ack i then 1 else 0) xs ys

pub more : (xs ys : List Item) (n : ℕ) → acks ys + (acks xs + n) ≤ MAX_FLIGHT
    → acks (xs ++ ys) + n ≤ MAX_FLIGHT
more xs ys n few = omega (arith, acks_append xs ys)

-- ---- a publish of a source, which never does

unasked : (asker : Origin) (name : List ℕ) (p : Publish) (b : Bool)
    → acks (if b then item_for asker name AtMostOnce p ∷ [] else []) ≡ 0
unasked asker name p true = refl
unasked asker name p false = refl

named_acks : (s : State) (source : List ℕ) (p : Publish) (named : Result (List ℕ) Denial)
    → acks (asked_by (Some p) (named_ask s source named)) ≡ 0
named_acks s source p (Ok name) =
    unasked (origin.Source source) name p (is_allowed (verdict s (origin.Source source) name AtMostOnce))
named_acks s source p (Err rule) = refl

pub source_acks : (s : State) (source : List ℕ) (p : Publish) (listed : Bool)
    → lists_source s.policy source ≡ listed → acks (asked_by (Some p) (source_ask s source p)) ≡ 0
source_acks s source p true is =
    rw is (named_acks s source p (name_in s.policy None p.flags.id_type p.topic_id))
source_acks s source p false is = rw is refl

-- ---- a publish of a client, which finds room

within : (limits : Limits) (n : ℕ) → nat_lt n (flight_limit limits) ≡ true → n < MAX_FLIGHT
within limits n is = let few : n < flight_limit limits = grind (arith, nat_tests) in omega (arith, few)

-- the second of two verdicts allows what both do
pub allowed_second : (a b : Outcome) → and_then a b ≡ Allowed → b ≡ Allowed
allowed_second Allowed b is = is
allowed_second (Denied rule) b is = absurd cc

has_it : (has fits : Bool) → (if has then (if fits then Allowed else Denied (Room (Full place.Outbox)))
    else Denied (Room (Full place.InFlight))) ≡ Allowed → has ≡ true
has_it true fits is = refl
has_it false fits is = absurd cc

-- and so does the room of a connection that is up
pub up_room : (up : Bool) (o : Outcome) → (if up then o else Denied (Room UpstreamDown)) ≡ Allowed
    → o ≡ Allowed
up_room true o is = is
up_room false o is = absurd cc

pub flight_in : (limits : Limits) (link : Link) → room_in limits link AtLeastOnce ≡ Allowed
    → load (record { waiting = link.waiting; in_flight = link.in_flight }) < MAX_FLIGHT
flight_in limits link is =
    within limits (load (record { waiting = link.waiting; in_flight = link.in_flight }))
    (has_it (has_flight limits link AtLeastOnce) (has_place limits link) is)

flight_room : (s : State) → room s AtLeastOnce ≡ Allowed
    → load (record { waiting = s.link.waiting; in_flight = s.link.in_flight }) < MAX_FLIGHT
flight_room s is =
    flight_in s.policy.limits s.link (up_room s.up (room_in s.policy.limits s.link AtLeastOnce) is)

item_acks : (asker : Origin) (name : List ℕ) (q : Qos) (p : Publish) (o : Outcome) (n : ℕ) → n ≤ MAX_FLIGHT
    → (o ≡ Allowed → q ≡ AtLeastOnce → n < MAX_FLIGHT)
    → acks (if is_allowed o then item_for asker name q p ∷ [] else []) + n ≤ MAX_FLIGHT
item_acks asker name AtMostOnce p Allowed n few fits = omega (arith, few)
item_acks asker name AtLeastOnce p Allowed n few fits = omega (arith, fits refl refl)
item_acks asker name q p (Denied rule) n few fits = omega (arith, few)

verdict_room : (s : State) (asker : Origin) (name : List ℕ) (q : Qos) → verdict s asker name q ≡ Allowed
    → q ≡ AtLeastOnce
    → load (record { waiting = s.link.waiting; in_flight = s.link.in_flight }) < MAX_FLIGHT
verdict_room s asker name q is once =
    flight_room s (subst (λ r. room s r ≡ Allowed) once
    (allowed_second (exit s.policy asker name) (room s q) is))

-- the publish adds no more than there is room for
abbrev pub Fits : State → List Item → Type 0
Fits s items = acks items + (acks s.link.waiting + length s.link.in_flight) ≤ MAX_FLIGHT

fits_none : (s : State) → Few s.link.waiting s.link.in_flight → Fits s []
fits_none s few = omega (arith, few)

named_fits : (s : State) (x : Client) (p : Publish) (named : Result (List ℕ) Denial)
    → Few s.link.waiting s.link.in_flight
    → Fits s (asked_by (Some p) (publish_named s x (qos_of p.flags.qos) named))
named_fits s x p (Ok name) few =
    let q = qos_of p.flags.qos in
    item_acks (origin.Client x.id) name q p (verdict s (origin.Client x.id) name q)
    (acks s.link.waiting + length s.link.in_flight) few (verdict_room s (origin.Client x.id) name q)
named_fits s x p (Err rule) few = fits_none s few

judged_fits : (s : State) (x : Client) (p : Publish) (may : Outcome) → Few s.link.waiting s.link.in_flight
    → Fits s (asked_by (Some p) (publish_by s x p may))
judged_fits s x p Allowed few =
    named_fits s x p (name_in s.policy (Some x.ids) p.flags.id_type p.topic_id) few
judged_fits s x p (Denied rule) few = fits_none s few

pub one_fits : (s : State) (x : Client) (p : Publish) (here : Bool) → Few s.link.waiting s.link.in_flight
    → Fits s (asked_by_all (Some p) (if here then publish_ask s x p ∷ [] else []))
one_fits s x p true few =
    subst (Fits s) (sym (append-nil (asked_by (Some p) (publish_ask s x p))))
    (judged_fits s x p (may_ask s.policy x) few)
one_fits s x p false few = fits_none s few

-- one at QoS 2 goes on at QoS 1
once_in : (full : Bool) (o : Outcome)
    → (if full then Denied (Room (Full place.Exchanges)) else o) ≡ Allowed → o ≡ Allowed
once_in true o is = absurd cc
once_in false o is = is

once_flight : (s : State) (x : Client) (p : Publish) → once_room s x p ≡ Allowed
    → load (record { waiting = s.link.waiting; in_flight = s.link.in_flight }) < MAX_FLIGHT
once_flight s x p is =
    flight_in s.policy.limits s.link
    (once_in (is_full_for p.msg_id x.unreleased) (room_in s.policy.limits s.link AtLeastOnce)
    (up_room s.up (once_room_in s x p) is))

named_once : (s : State) (x : Client) (p : Publish) (named : Result (List ℕ) Denial)
    → Few s.link.waiting s.link.in_flight → Fits s (asked_by (Some p) (publish_once_named s x p named))
named_once s x p (Ok name) few =
    let may = exit s.policy (origin.Client x.id) name in
    item_acks (origin.Client x.id) name (qos_of p.flags.qos) p (and_then may (once_room s x p))
    (acks s.link.waiting + length s.link.in_flight) few
    (λ is once. once_flight s x p (allowed_second may (once_room s x p) is))
named_once s x p (Err rule) few = fits_none s few

judged_once : (s : State) (x : Client) (p : Publish) (may : Outcome) → Few s.link.waiting s.link.in_flight
    → Fits s (asked_by (Some p) (publish_once_by s x p may))
judged_once s x p Allowed few =
    named_once s x p (name_in s.policy (Some x.ids) p.flags.id_type p.topic_id) few
judged_once s x p (Denied rule) few = fits_none s few

pub once_fits : (s : State) (x : Client) (p : Publish) (here first : Bool)
    → Few s.link.waiting s.link.in_flight
    → Fits s (asked_by_all (Some p)
    (if here then (if first then publish_once_ask s x p ∷ [] else []) else []))
once_fits s x p true true few =
    subst (Fits s) (sym (append-nil (asked_by (Some p) (publish_once_ask s x p))))
    (judged_once s x p (may_ask s.policy x) few)
once_fits s x p true false few = fits_none s few
once_fits s x p false first few = fits_none s few

-- of those at the address there is one at most
abbrev Sole : (Client → List Item) → List Client → Type 0
Sole f xs = (flat_map f xs ≡ []) ⊎ ((x : Client) × (flat_map f xs ≡ f x))

none_here : (from : Address) (f : Client → List Item) (x : Client) (xs : List Client)
    → ((y : Client) → is_here y from ≡ false → f y ≡ []) → is_here x from ≡ true → Each (Apart x) xs
    → flat_map f xs ≡ []
none_here from f x [] quiet at apart = refl
none_here from f x (y ∷ ys) quiet at apart =
    let off : is_here y from ≡ false =
    (let e : (is_here x from && is_here y from) ≡ false = apart.0 from in rw at at e) in
    rw (quiet y off) (none_here from f x ys quiet at apart.1)

sole_by : (from : Address) (f : Client → List Item) (x : Client) (xs : List Client) (b : Bool)
    → is_here x from ≡ b → ((y : Client) → is_here y from ≡ false → f y ≡ []) → Each (Apart x) xs → Sole f xs
    → Sole f (x ∷ xs)
sole_by from f x xs true at quiet apart rest =
    inr (x, ap (λ items. f x ++ items) (none_here from f x xs quiet at apart) ∙ append-nil (f x))
sole_by from f x xs false at quiet apart rest =
    let none : flat_map f (x ∷ xs) ≡ flat_map f xs = ap (λ items. items ++ flat_map f xs) (quiet x at) in
    elim rest [ inl nobody ↦ inl (none ∙ nobody) | inr one ↦ inr (one.0, none ∙ one.1) ]

pub sole : (from : Address) (f : Client → List Item) (xs : List Client)
    → ((y : Client) → is_here y from ≡ false → f y ≡ []) → OnePlace xs → Sole f xs
sole from f [] quiet places = inl refl
sole from f (x ∷ xs) quiet places =
    sole_by from f x xs (is_here x from) refl quiet places.0 (sole from f xs quiet places.1)

pub all_fit : (s : State) (f : Client → List Item) (xs : List Client) → Few s.link.waiting s.link.in_flight
    → ((x : Client) → Fits s (f x)) → Sole f xs → Fits s (flat_map f xs)
all_fit s f xs few each one =
    elim one [ inl nobody ↦ rw nobody (fits_none s few) | inr found ↦ rw found.1 (each found.0) ]
