-- Where a client finds room among the places that all share, it does not matter what else is there.
use Rattle.std.proofs.Common.{◌≡◌, ℕ, Bool, true, false, List, refl, ap, sym, ◌∙◌, subst, if◌then◌else◌}
use Rattle.std.specs.Prelude.{nat_lt, length, ◌||◌, ◌&&◌}
use Rattle.sng_grants.specs.Limits.{Limits}
use Rattle.sng_text.specs.declared.qos.Qos.{Qos}
use Rattle.sng_text.specs.declared.qos.Qos.TheVariants.{AtLeastOnce}
use Rattle.sng_states.specs.OpenIds as ids_open
use Rattle.sng_fan.specs.Subscriptions.{is_full}
use Rattle.sng_ids.specs.Ids.{is_full_for}
use Rattle.sng_frames.specs.declared.messages.publish.Publish.{Publish}
use Rattle.sng_frames.specs.declared.messages.subscribe.TopicRequest.{TopicRequest}
use Rattle.sng_book.specs.declared.decision.Decision.{Decision}
use Rattle.sng_book.specs.declared.outcome.Place.TheVariants as place
use Rattle.sng_book.specs.declared.outcome.Denial.TheVariants.{Room}
use Rattle.sng_book.specs.declared.outcome.RoomDenial.TheVariants.{UpstreamDown, Full}
use Rattle.sng_book.specs.declared.outcome.Outcome.{Outcome}
use Rattle.sng_book.specs.declared.outcome.Outcome.TheVariants.{Allowed, Denied}
use Rattle.sng_history.specs.Clients.{Client}
use Rattle.sng_history.specs.Links.{Link}
use Rattle.sng_history.specs.Packets.{has_place}
use Rattle.sng_history.specs.Requests.{gets_id}
use Rattle.sng_history.specs.Room.{has_flight, room_in}
use Rattle.sng_history.specs.State.{State, is_known}
use Rattle.sng_history.specs.Verdicts.{room, once_room_in, once_room, subscribe_room_in, subscribe_room}
use Rattle.sng_history.specs.Verdicts.{entry_room, and_then}
use Rattle.sng_isolation.specs.Room.{is_crowded, tells_crowd}

-- two outcomes that depend on the same thing agree, where they do at each value of it that says of no crowd
pub agree_outcome : {A : Type 0} (f g : A → Outcome) (a b : A) → a ≡ b
    → ((x : A) → is_crowded (f x) ≡ false → is_crowded (g x) ≡ false → f x ≡ g x)
    → is_crowded (f a) ≡ false → is_crowded (g b) ≡ false → f a ≡ g b
agree_outcome f g a b same all one two =
    all a one (subst (λ y. is_crowded (g y) ≡ false) (sym same) two) ∙ ap g same

-- and two notes
pub agree_note : {A : Type 0} (f g : A → Decision) (a b : A) → a ≡ b
    → ((x : A) → tells_crowd (f x) ≡ false → tells_crowd (g x) ≡ false → f x ≡ g x)
    → tells_crowd (f a) ≡ false → tells_crowd (g b) ≡ false → f a ≡ g b
agree_note f g a b same all one two =
    all a one (subst (λ y. tells_crowd (g y) ≡ false) (sym same) two) ∙ ap g same

-- the first of two rules, where the first is the same
pub then_same : (e f o p : Outcome) → e ≡ f
    → (is_crowded o ≡ false → is_crowded p ≡ false → o ≡ p)
    → is_crowded (and_then e o) ≡ false → is_crowded (and_then f p) ≡ false → and_then e o ≡ and_then f p
then_same e f o p same rest one two =
    agree_outcome (λ first. and_then first o) (λ first. and_then first p) e f same by_first one two
  where
    by_first : (first : Outcome) → is_crowded (and_then first o) ≡ false
        → is_crowded (and_then first p) ≡ false → and_then first o ≡ and_then first p
    by_first Allowed one two = rest one two
    by_first (Denied rule) one two = refl

-- ---- the places

room_by : (flight has : Bool)
    → (let o : Outcome = if flight then (if has then Allowed else Denied (Room (Full place.Outbox)))
    else Denied (Room (Full place.InFlight)) in is_crowded o ≡ false → o ≡ Allowed)
room_by true true free = refl
room_by true false free = absurd cc
room_by false has free = absurd cc

pub room_allowed : (limits : Limits) (link : Link) (q : Qos) → is_crowded (room_in limits link q) ≡ false
    → room_in limits link q ≡ Allowed
room_allowed limits link q free = room_by (has_flight limits link q) (has_place limits link) free

-- whatever the limits are
pub room_in_same : (limits others : Limits) (one two : Link) (q : Qos) → is_crowded (room_in limits one q) ≡ false
    → is_crowded (room_in others two q) ≡ false → room_in limits one q ≡ room_in others two q
room_in_same limits others one two q free also =
    room_allowed limits one q free ∙ sym (room_allowed others two q also)

pub room_same : (s t : State) (q : Qos) → s.up ≡ t.up → is_crowded (room s q) ≡ false
    → is_crowded (room t q) ≡ false → room s q ≡ room t q
room_same s t q up one two =
    agree_outcome (λ is_up. if is_up then room_in s.policy.limits s.link q else Denied (Room UpstreamDown))
    (λ is_up. if is_up then room_in t.policy.limits t.link q else Denied (Room UpstreamDown)) s.up t.up up by_up
    one two
  where
    by_up : (is_up : Bool)
        → (let o : Outcome = if is_up then room_in s.policy.limits s.link q else Denied (Room UpstreamDown) in
        let p : Outcome = if is_up then room_in t.policy.limits t.link q else Denied (Room UpstreamDown) in
        is_crowded o ≡ false → is_crowded p ≡ false → o ≡ p)
    by_up true one two = room_in_same s.policy.limits t.policy.limits s.link t.link q one two
    by_up false one two = refl

once_by : (s t : State) (full : Bool)
    → (let o : Outcome = if full then Denied (Room (Full place.Exchanges)) else room_in s.policy.limits s.link
    AtLeastOnce in
    let p : Outcome = if full then Denied (Room (Full place.Exchanges)) else room_in t.policy.limits t.link
    AtLeastOnce in
    is_crowded o ≡ false → is_crowded p ≡ false → o ≡ p)
once_by s t true one two = refl
once_by s t false one two =
    room_in_same s.policy.limits t.policy.limits s.link t.link AtLeastOnce one two

pub once_room_same : (s t : State) (x : Client) (p : Publish) → s.up ≡ t.up
    → is_crowded (once_room s x p) ≡ false → is_crowded (once_room t x p) ≡ false
    → once_room s x p ≡ once_room t x p
once_room_same s t x p up one two =
    agree_outcome (λ is_up. if is_up then once_room_in s x p else Denied (Room UpstreamDown))
    (λ is_up. if is_up then once_room_in t x p else Denied (Room UpstreamDown)) s.up t.up up by_up one two
  where
    by_up : (is_up : Bool)
        → (let o : Outcome = if is_up then once_room_in s x p else Denied (Room UpstreamDown) in
        let q : Outcome = if is_up then once_room_in t x p else Denied (Room UpstreamDown) in
        is_crowded o ≡ false → is_crowded q ≡ false → o ≡ q)
    by_up true one two = once_by s t (ids_open.is_full_for p.msg_id x.unreleased) one two
    by_up false one two = refl

subscribe_by : (ids own here there : Bool)
    → (let o : Outcome = if ids then Denied (Room (Full place.Ids)) else (if own
    then Denied (Room (Full place.Subscriptions))
    else (if here then Allowed else Denied (Room (Full place.Outbox)))) in
    let p : Outcome = if ids then Denied (Room (Full place.Ids)) else (if own
    then Denied (Room (Full place.Subscriptions))
    else (if there then Allowed else Denied (Room (Full place.Outbox)))) in
    is_crowded o ≡ false → is_crowded p ≡ false → o ≡ p)
subscribe_by true own here there one two = refl
subscribe_by false true here there one two = refl
subscribe_by false false true true one two = refl
subscribe_by false false true false one two = absurd cc
subscribe_by false false false there one two = absurd cc

pub subscribe_room_same : (s t : State) (x : Client) (r : TopicRequest) (filter : List ℕ) → s.up ≡ t.up
    → is_crowded (subscribe_room s x r filter) ≡ false → is_crowded (subscribe_room t x r filter) ≡ false
    → subscribe_room s x r filter ≡ subscribe_room t x r filter
subscribe_room_same s t x r filter up one two =
    agree_outcome (λ is_up. if is_up then subscribe_room_in s x r filter else Denied (Room UpstreamDown))
    (λ is_up. if is_up then subscribe_room_in t x r filter else Denied (Room UpstreamDown)) s.up t.up up by_up
    one two
  where
    by_up : (is_up : Bool)
        → (let o : Outcome = if is_up then subscribe_room_in s x r filter else Denied (Room UpstreamDown) in
        let p : Outcome = if is_up then subscribe_room_in t x r filter else Denied (Room UpstreamDown) in
        is_crowded o ≡ false → is_crowded p ≡ false → o ≡ p)
    by_up true one two =
        subscribe_by (gets_id r.flags.id_type filter && is_full_for filter x.ids) (is_full x.filters filter)
        (has_place s.policy.limits s.link) (has_place t.policy.limits t.link) one two
    by_up false one two = refl

entry_by : (fits : Bool)
    → (let o : Outcome = if fits then Allowed else Denied (Room (Full place.Clients)) in
    is_crowded o ≡ false → o ≡ Allowed)
entry_by true free = refl
entry_by false free = absurd cc

pub entry_room_same : (limits others : Limits) (xs ys : List Client) (id : List ℕ)
    → is_crowded (entry_room limits xs id) ≡ false
    → is_crowded (entry_room others ys id) ≡ false → entry_room limits xs id ≡ entry_room others ys id
entry_room_same limits others xs ys id one two =
    entry_by (is_known id xs || nat_lt (length xs) limits.clients) one
    ∙ sym (entry_by (is_known id ys || nat_lt (length ys) others.clients) two)
