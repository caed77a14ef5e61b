-- After a step no more publishes at QoS 1 wait for the broker or are in flight than may.
use Rattle.std.proofs.Common.{◌≡◌, ◌≤◌, ◌+◌, ℕ, Bool, true, false, List, [], ◌∷◌, ◌++◌, length, refl, ap}
use Rattle.std.proofs.Common.{◌∙◌, arith}
use Rattle.std.specs.Prelude.{if◌then◌else◌, not, map, take, Option, Some, None}
use Rattle.std.specs.List.{flat_map}
use Rattle.sng_text.specs.declared.qos.Qos.{Qos}
use Rattle.sng_text.specs.declared.qos.Qos.TheVariants.{AtMostOnce, AtLeastOnce}
use Rattle.sng_policy.specs.Grants.{lists_source}
use Rattle.sng_outbox.specs.Sending.{publishes}
use Rattle.sng_grants.specs.Limits.{Limits}
use Rattle.sng_grants.specs.declared.limits.TheConstants.{MAX_FLIGHT}
use Rattle.sng_outbox.specs.declared.item.Item.{Item}
use Rattle.sng_outbox.specs.declared.item.Item.TheVariants as item
use Rattle.sng_outbox.specs.declared.item.Publication.{Publication}
use Rattle.sng_outbox.proofs.LoadLemmas.{counted-front, counted-publishes}
use Rattle.sng_book.specs.declared.address.Address.{Address}
use Rattle.sng_book.specs.declared.decision.Decision.{Decision}
use Rattle.sng_book.specs.declared.decision.Decision.TheVariants as note
use Rattle.sng_book.specs.declared.outcome.Outcome.{Outcome}
use Rattle.sng_book.specs.declared.outcome.Outcome.TheVariants.{Allowed, Denied}
use Rattle.sng_history.specs.Causes.{Request, ToPing, ToLeave, ToSleep, ToRegister, ToPublish, ToSubscribe}
use Rattle.sng_history.specs.Causes.{ToUnsubscribe, ToConfirm, ToAcknowledge}
use Rattle.sng_history.specs.Causes.{ToState, Untaken, Cause, publish_asked}
use Rattle.sng_history.specs.Causes.{ByConnect, ByMessage, BySource, ByBroken, ByPacket, ByUp, ByDown, ByTake}
use Rattle.sng_history.specs.Causes.{ByReplace, ByTick}
use Rattle.sng_history.specs.Causes.{ToPublishOnce, ToRelease}
use Rattle.sng_history.specs.Clients.{Client, is_here}
use Rattle.sng_history.specs.Links.{Link}
use Rattle.sng_history.specs.Links.{outgoing}
use Rattle.sng_history.specs.Links.{resumed, filters_owed, filters_wanted}
use Rattle.sng_history.specs.Packets.{Answer, Delivers, Acknowledges, Grants, Refuses, Confirms, Strange}
use Rattle.sng_history.specs.Packets.{answer_of, owed, has_place, acknowledgement, acknowledgements, answered}
use Rattle.sng_history.specs.Room.{room_in}
use Rattle.sng_history.specs.Ticking.{with_item, ticked}
use Rattle.sng_history.specs.State.{State, later, policy_by, subscribe_item, asked_by, link_moved}
use Rattle.sng_history.specs.Standing.{Release, released, places_left}
use Rattle.sng_history.specs.Verdicts.{source_ask, is_repeat}
use Rattle.sng_history.specs.Exits.{exits_of}
use Rattle.sng_history.specs.Lawful.{fixed_for, exits_for}
use Rattle.sng_history.specs.Steps.{asked_by_all, asked_for, clients_next}
use Rattle.sng_history.specs.Good.{OnePlace}
use Rattle.sng_history.proofs.WaitingItems.{waiting_next, let_go}
use Rattle.sng_history.proofs.Ticked.{ticked_holds}
use Rattle.sng_history.proofs.WaitingAcks.{acks, Few, acks_append, more, source_acks, flight_in, Fits}
use Rattle.sng_history.proofs.WaitingAcks.{one_fits, once_fits, sole, all_fit}
use Rattle.sng_history.proofs.WaitingFlight.{answered_less, still_less, subscribes_flights, after_more}

owed_acks : (place : Bool) (o : Option ℕ) → acks (acknowledgement place o) ≡ 0
owed_acks place None = refl
owed_acks true (Some packet_id) = refl
owed_acks false (Some packet_id) = refl

answer_acks : (limits : Limits) (up : Bool) (link : Link) (a : Answer)
    → acks (acknowledgements limits up link a) ≡ 0
answer_acks limits up link (Delivers p) = owed_acks (has_place limits link) (owed up p)
answer_acks limits up link (Acknowledges packet_id) = refl
answer_acks limits up link (Grants packet_id) = refl
answer_acks limits up link (Refuses packet_id) = refl
answer_acks limits up link Confirms = refl
answer_acks limits up link Strange = refl

up_few : (up : Bool) (items : List Item) (n m : ℕ) → n ≤ m → acks items + m ≤ MAX_FLIGHT
    → acks (if up then publishes items else items) + n ≤ MAX_FLIGHT
up_few true items n m less few = omega (arith, counted-publishes items)
up_few false items n m less few = omega arith

subscribes_none : (texts : List (List ℕ)) → acks (map item.Subscribe texts) ≡ 0
subscribes_none [] = refl
subscribes_none (text ∷ texts) =
    omega (arith, counted-front (item.Subscribe text) (map item.Subscribe texts), subscribes_none texts)

take_few : (s : State) (up : Bool) → s.up ≡ up → Few s.link.waiting s.link.in_flight
    → Few (waiting_next s ByTake) (link_moved s ByTake (exits_for s ByTake)).in_flight
take_few s true is few =
    let owed = filters_owed s.link in
    rw is (omega (
      arith,
      few,
      after_more s.link (outgoing s.link) (exits_of s.policy (outgoing s.link)),
      acks_append (map item.Subscribe owed) s.link.waiting,
      subscribes_none owed,
    ))
take_few s false is few = rw is few

-- only a PUBLISH of QoS 1 asks for an acknowledgement
item_none : (filter : Option (List ℕ)) (o : Outcome) → acks (subscribe_item filter o) ≡ 0
item_none (Some filter) Allowed = refl
item_none (Some filter) (Denied rule) = refl
item_none None o = refl

said_none : (said : Decision) → acks (asked_by None said) ≡ 0
said_none (note.Subscribe whom filter o) = item_none filter o
said_none _ = refl

all_none : (notes : List Decision) → acks (asked_by_all None notes) ≡ 0
all_none [] = refl
all_none (said ∷ notes) =
    omega (arith, acks_append (asked_by None said) (asked_by_all None notes), said_none said, all_none notes)

flat_none : (f : Client → List Item) (xs : List Client) → ((x : Client) → acks (f x) ≡ 0)
    → acks (flat_map f xs) ≡ 0
flat_none f [] none = refl
flat_none f (x ∷ xs) none = omega (arith, acks_append (f x) (flat_map f xs), none x, flat_none f xs none)

released_none : (rs : List Release) → acks (map (λ r. item.Unsubscribe r.filter) rs) ≡ 0
released_none [] = refl
released_none (r ∷ rs) =
    omega (
      arith,
      counted-front (item.Unsubscribe r.filter) (map (λ q. item.Unsubscribe q.filter) rs),
      released_none rs,
    )

let_go_none : (s : State) (c : Cause) → acks (let_go s c) ≡ 0
let_go_none s c =
    released_none (take (places_left (policy_by c s.policy).limits s.link) (released s.clients (clients_next s c)))

abbrev AskedFits : State → Address → Request → Type 0
AskedFits s from request = Fits s (asked_for s (ByMessage from request))

unasked_fits : (s : State) (from : Address) (request : Request) → publish_asked request ≡ None
    → Few s.link.waiting s.link.in_flight → AskedFits s from request
unasked_fits s from request none few =
    let c = ByMessage from request in
    let adds : Client → List Item = λ x. asked_by_all (publish_asked request) (fixed_for s c x) in
    let quiet : acks (flat_map adds s.clients) ≡ 0 =
    flat_none adds s.clients (λ x. ap (λ p. acks (asked_by_all p (fixed_for s c x))) none
    ∙ all_none (fixed_for s c x)) in
    omega (arith, quiet, few)

asked_fits : (s : State) (from : Address) (request : Request) → OnePlace s.clients
    → Few s.link.waiting s.link.in_flight → AskedFits s from request
asked_fits s from (ToPublish p) places few =
    let adds : Client → List Item =
    λ x. asked_by_all (Some p) (fixed_for s (ByMessage from (ToPublish p)) x) in
    all_fit s adds s.clients few (λ x. one_fits s x p (is_here x from) few)
    (sole from adds s.clients (λ y off. rw off refl) places)
asked_fits s from (ToPublishOnce p) places few =
    let adds : Client → List Item =
    λ x. asked_by_all (Some p) (fixed_for s (ByMessage from (ToPublishOnce p)) x) in
    all_fit s adds s.clients few (λ x. once_fits s x p (is_here x from) (not (is_repeat p x)) few)
    (sole from adds s.clients (λ y off. rw off refl) places)
asked_fits s from (ToRelease id) places few = unasked_fits s from (ToRelease id) refl few
asked_fits s from (ToPing client) places few = unasked_fits s from (ToPing client) refl few
asked_fits s from (ToSleep duration) places few = unasked_fits s from (ToSleep duration) refl few
asked_fits s from ToLeave places few = unasked_fits s from ToLeave refl few
asked_fits s from (ToRegister r) places few = unasked_fits s from (ToRegister r) refl few
asked_fits s from (ToSubscribe r) places few = unasked_fits s from (ToSubscribe r) refl few
asked_fits s from (ToUnsubscribe r) places few = unasked_fits s from (ToUnsubscribe r) refl few
asked_fits s from (ToConfirm r) places few = unasked_fits s from (ToConfirm r) refl few
asked_fits s from (ToAcknowledge r) places few = unasked_fits s from (ToAcknowledge r) refl few
asked_fits s from (ToState statement) places few = unasked_fits s from (ToState statement) refl few
asked_fits s from (Untaken message) places few = unasked_fits s from (Untaken message) refl few

-- what the broker is told of filters that end needs no room among those
go_few : (s : State) (c : Cause) → Few s.link.waiting s.link.in_flight
    → Few (s.link.waiting ++ let_go s c) s.link.in_flight
go_few s c few = omega (arith, few, acks_append s.link.waiting (let_go s c), let_go_none s c)

message_few : (s : State) (from : Address) (request : Request) → OnePlace s.clients
    → Few s.link.waiting s.link.in_flight → Few (waiting_next s (ByMessage from request)) s.link.in_flight
message_few s from request places few =
    let c = ByMessage from request in
    let go = let_go s c in
    omega (
      arith,
      asked_fits s from request places few,
      acks_append s.link.waiting (asked_for s c ++ go),
      acks_append (asked_for s c) go,
      let_go_none s c,
    )

begun_few : (s : State) → Few s.link.waiting s.link.in_flight
    → Few (waiting_next s ByUp) (link_moved s ByUp (exits_for s ByUp)).in_flight
begun_few s few =
    let begun = resumed s.link s.clock (exits_for s ByUp) in
    rw (subscribes_flights begun (filters_wanted s.link))
    (up_few s.up s.link.waiting (length begun.in_flight) (length s.link.in_flight)
    (still_less s.link.in_flight (exits_for s ByUp)) few)

-- the will of a lost client waits where there is room for it, and a PINGREQ asks for no acknowledgement
abbrev FewOf : Link → Type 0
FewOf link = Few link.waiting link.in_flight

will_few : (limits : Limits) (link : Link) (p : Publication) (q : Qos) → p.qos ≡ q
    → room_in limits link q ≡ Allowed → FewOf link → FewOf (with_item link (item.Publish p))
will_few limits link p AtMostOnce same is few =
    let none : acks (item.Publish p ∷ []) ≡ 0 = rw same refl in
    omega (arith, few, none, acks_append link.waiting (item.Publish p ∷ []))
will_few limits link p AtLeastOnce same is few =
    let one : acks (item.Publish p ∷ []) ≡ 1 = rw same refl in
    omega (arith, flight_in limits link is, one, acks_append link.waiting (item.Publish p ∷ []))

ticked_few : (limits : Limits) (up : Bool) (link : Link) (clock : ℕ) (xs : List Client) → FewOf link
    → FewOf (ticked limits up link clock xs)
ticked_few limits up link clock xs few =
    ticked_holds limits FewOf (record {
      publish = λ l p is before. will_few limits l p p.qos refl is before;
      ping = λ l now before. omega (arith, before, acks_append l.waiting (item.Ping ∷ []));
    }) up link clock xs few

pub few_next : (s : State) (c : Cause) → OnePlace s.clients → Few s.link.waiting s.link.in_flight
    → Few (waiting_next s c) (link_moved s c (exits_for s c)).in_flight
few_next s (ByConnect from connect) places few = go_few s (ByConnect from connect) few
few_next s (ByMessage from request) places few = message_few s from request places few
few_next s (BySource from p) places few =
    more s.link.waiting (asked_by (Some p) (source_ask s from.ip p)) (length s.link.in_flight)
    (omega (arith, source_acks s from.ip p (lists_source s.policy from.ip) refl))
few_next s (ByBroken from rule) places few = few
few_next s (ByPacket p) places few =
    more s.link.waiting (acknowledgements s.policy.limits s.up s.link (answer_of p))
    (length (answered s.link (answer_of p)).in_flight)
    (omega (arith, answer_acks s.policy.limits s.up s.link (answer_of p), answered_less s.link (answer_of p)))
few_next s ByUp places few = begun_few s few
few_next s ByDown places few = omega (arith, counted-publishes s.link.waiting)
few_next s ByTake places few = take_few s s.up refl few
few_next s (ByReplace policy) places few = go_few s (ByReplace policy) few
few_next s (ByTick clock) places few =
    ticked_few s.policy.limits s.up s.link (later s.clock clock) s.clients few
