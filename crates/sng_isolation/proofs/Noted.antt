-- Each cause fixes the same notes of a client in two states that it cannot tell apart.
use Rattle.std.proofs.Common.{◌≡◌, ℕ, Bool, true, false, List, [], ◌∷◌, ◌++◌, refl, ap, ap₂, sym, ◌∙◌, subst}
use Rattle.std.proofs.Common.{if◌then◌else◌}
use Rattle.std.specs.Prelude.{not, None}
use Rattle.std.specs.Str.{bytes_eq}
use Rattle.sng_grants.specs.Limits.{Limits}
use Rattle.sng_frames.specs.declared.messages.connect.Connect.{Connect}
use Rattle.sng_outbox.specs.declared.item.Publication.{Publication}
use Rattle.sng_book.specs.declared.address.Address.{Address}
use Rattle.sng_book.specs.declared.decision.Decision.{Decision}
use Rattle.sng_book.specs.declared.decision.Decision.TheVariants as note
use Rattle.sng_book.specs.declared.outcome.Outcome.{Outcome}
use Rattle.sng_book.specs.declared.outcome.Outcome.TheVariants.{Allowed, Denied}
use Rattle.sng_history.specs.Causes.{Request, ToPing, ToLeave, ToSleep, ToRegister, ToPublish, ToSubscribe}
use Rattle.sng_history.specs.Causes.{ToUnsubscribe, ToConfirm, ToAcknowledge, ToState, Untaken}
use Rattle.sng_history.specs.Causes.{ToPublishOnce, ToRelease}
use Rattle.sng_history.specs.Causes.{ByConnect, ByMessage}
use Rattle.sng_history.specs.Clients.{Client, is_here, let_in, closed, is_confirming, is_acknowledging, message_due}
use Rattle.sng_history.specs.Links.{Link}
use Rattle.sng_history.specs.Packets.{Answer, Delivers, Acknowledges, Grants, Refuses, Confirms, Strange}
use Rattle.sng_history.specs.Packets.{refused_filter}
use Rattle.sng_history.specs.Room.{room_in}
use Rattle.sng_history.specs.State.{State}
use Rattle.sng_history.specs.Verdicts.{entry, ping_verdict, publish_once_ask, is_repeat}
use Rattle.sng_history.specs.Outgoing.{all_gone, handed_over, out_of_turn, delivered_notes}
use Rattle.sng_history.specs.Ticking.{will_of, testaments, all_placed, is_lost_at}
use Rattle.sng_history.specs.Losing.{before, unplaced, will_dropped, lost_notes, again_notes, tick_notes}
use Rattle.sng_history.specs.Lawful.{denial_of, entering_notes, refused_end, fixed_to, fixed_for}
use Rattle.sng_history.proofs.Hands.{Every}
use Rattle.sng_history.proofs.Kept.{let_in_id}
use Rattle.sng_isolation.specs.Room.{is_crowded}
use Rattle.sng_isolation.specs.Isolation.{is_refusal}
use Rattle.sng_isolation.proofs.Policies.{SaysSame}
use Rattle.sng_isolation.proofs.Crowds.{room_allowed}
use Rattle.sng_isolation.proofs.Asked.{register_same, publish_same, publish_once_same, subscribe_same}
use Rattle.sng_isolation.proofs.Asked.{unsubscribe_same}
use Rattle.sng_isolation.proofs.Turned.{handed_same, woken_same, confirmations_same, delivered_same, again_same}
use Rattle.sng_isolation.proofs.Turned.{statement_same}
use Rattle.sng_isolation.proofs.Roomy.{Roomy, every_right}

-- ---- a message of its own

once_same : (s t : State) (request : Decision) (other : Decision) (b : Bool)
    → (Every Roomy (request ∷ []) → Every Roomy (other ∷ []) → request ≡ other)
    → Every Roomy (if b then request ∷ [] else []) → Every Roomy (if b then other ∷ [] else [])
    → (let one : List Decision = if b then request ∷ [] else [] in
    let two : List Decision = if b then other ∷ [] else [] in one ≡ two)
once_same s t request other true same one two = ap (λ said. said ∷ []) (same one two)
once_same s t request other false same one two = refl

pub request_same : (s t : State) (request : Request) (x : Client) → SaysSame x.id s.policy t.policy
    → s.up ≡ t.up → Every Roomy (fixed_to s request x) → Every Roomy (fixed_to t request x)
    → fixed_to s request x ≡ fixed_to t request x
request_same s t (ToPing client) x same up one two =
    ap (λ notes. denial_of x.id (ping_verdict client x) ++ notes) (woken_same s.policy t.policy client x same)
request_same s t (ToSleep duration) x same up one two = refl
request_same s t ToLeave x same up one two = refl
request_same s t (ToRegister r) x same up one two =
    ap (λ said. said ∷ []) (register_same s.policy t.policy x r.name same)
request_same s t (ToPublish p) x same up one two =
    ap (λ said. said ∷ []) (publish_same s t x p same up one.0 two.0)
request_same s t (ToPublishOnce p) x same up one two =
    once_same s t (publish_once_ask s x p) (publish_once_ask t x p) (not (is_repeat p x))
    (λ first second. publish_once_same s t x p same up first.0 second.0) one two
request_same s t (ToRelease id) x same up one two = refl
request_same s t (ToSubscribe r) x same up one two =
    ap (λ said. said ∷ []) (subscribe_same s t x r same up one.0 two.0)
request_same s t (ToUnsubscribe r) x same up one two =
    ap (λ said. said ∷ []) (unsubscribe_same s.policy t.policy x r same)
request_same s t (ToConfirm r) x same up one two =
    ap (λ notes. if is_confirming r x then notes else out_of_turn x.id)
    (confirmations_same s.policy t.policy r x same)
request_same s t (ToAcknowledge r) x same up one two =
    ap (λ notes. if is_acknowledging r x then notes else out_of_turn x.id)
    (handed_same s.policy t.policy (closed x) same)
request_same s t (ToState statement) x same up one two = statement_same s.policy t.policy statement x same
request_same s t (Untaken message) x same up one two = refl

pub message_same : (s t : State) (from : Address) (request : Request) (x : Client)
    → SaysSame x.id s.policy t.policy → s.up ≡ t.up
    → Every Roomy (fixed_for s (ByMessage from request) x) → Every Roomy (fixed_for t (ByMessage from request) x)
    → fixed_for s (ByMessage from request) x ≡ fixed_for t (ByMessage from request) x
message_same s t from request x same up = by_here (is_here x from)
  where
    by_here : (b : Bool) → Every Roomy (if b then fixed_to s request x else [])
        → Every Roomy (if b then fixed_to t request x else [])
        → (let one : List Decision = if b then fixed_to s request x else [] in
        let two : List Decision = if b then fixed_to t request x else [] in one ≡ two)
    by_here true one two = request_same s t request x same up one two
    by_here false one two = refl

-- ---- its CONNECT

pub entering_same : (s t : State) (from : Address) (connect : Connect) (x : Client) (o : Outcome)
    → SaysSame x.id s.policy t.policy → s.clock ≡ t.clock
    → entering_notes s from connect x o ≡ entering_notes t from connect x o
entering_same s t from connect x Allowed same clock =
    let y = let_in s.clock from connect x in
    let z = let_in t.clock from connect x in
    let alike : SaysSame y.id s.policy t.policy =
    subst (λ id. SaysSame id s.policy t.policy) (sym (let_in_id s.clock from connect x)) same in
    ap (λ notes. if connect.flags.clean then all_gone x.id x.buffer.waiting else notes)
    (handed_same s.policy t.policy y alike
    ∙ ap (λ clock. handed_over t.policy (let_in clock from connect x)) clock)
entering_same s t from connect x (Denied rule) same clock = refl

pub connect_same : (s t : State) (from : Address) (connect : Connect) (x : Client)
    → bytes_eq connect.client_id x.id ≡ true → entry s connect ≡ entry t connect
    → SaysSame x.id s.policy t.policy → s.clock ≡ t.clock
    → fixed_for s (ByConnect from connect) x ≡ fixed_for t (ByConnect from connect) x
connect_same s t from connect x named entered same clock =
    own s ∙ (ap₂ (λ o more. note.Connect x.id o ∷ more) entered
    (ap (entering_notes s from connect x) entered
    ∙ entering_same s t from connect x (entry t connect) same clock) ∙ sym (own t))
  where
    own : (r : State) → fixed_for r (ByConnect from connect) x
        ≡ note.Connect x.id (entry r connect) ∷ entering_notes r from connect x (entry r connect)
    own r = rw named refl

-- ---- a packet of the broker

none_refused : (link : Link) (a : Answer) → is_refusal a ≡ false → refused_filter link a ≡ None
none_refused link (Refuses packet_id) none = absurd cc
none_refused link (Delivers p) none = refl
none_refused link (Acknowledges packet_id) none = refl
none_refused link (Grants packet_id) none = refl
none_refused link Confirms none = refl
none_refused link Strange none = refl

pub packet_same : (s t : State) (a : Answer) (x : Client) → is_refusal a ≡ false
    → SaysSame x.id s.policy t.policy
    → refused_end x (refused_filter s.link a) ++ delivered_notes s.policy (message_due a x) x
    ≡ refused_end x (refused_filter t.link a) ++ delivered_notes t.policy (message_due a x) x
packet_same s t a x none same =
    ap₂ (λ refused notes. refused_end x refused ++ notes)
    (none_refused s.link a none ∙ sym (none_refused t.link a none))
    (delivered_same s.policy t.policy (message_due a x) x same)

-- ---- a tick

-- a will that found its place is not noted
placed_unsaid : (limits : Limits) (link : Link) (id : List ℕ) (ps : List Publication)
    → Every Roomy (will_dropped limits link id ps)
    → will_dropped limits link id ps ≡ []
placed_unsaid limits link id [] roomy = refl
placed_unsaid limits link id (p ∷ ps) roomy = by_room (room_in limits link p.qos) refl roomy
  where
    by_room : (o : Outcome) → room_in limits link p.qos ≡ o → Every Roomy (unplaced id p o) → unplaced id p o ≡ []
    by_room Allowed is free = refl
    by_room (Denied rule) is free =
        let found : room_in limits link p.qos ≡ Allowed =
        room_allowed limits link p.qos (subst (λ o. is_crowded o ≡ false) (sym is) free.0) in
        absurd (let e : Allowed ≡ Denied rule = sym found ∙ is in cc)

lost_same : (limits others : Limits) (one two : Link) (x : Client) → Every Roomy (lost_notes limits one x)
    → Every Roomy (lost_notes others two x)
    → lost_notes limits one x ≡ lost_notes others two x
lost_same limits others one two x free also =
    let gone = all_gone x.id x.buffer.waiting in
    let will = will_of x.id x.wills.will in
    ap (λ notes. note.Lost x.id ∷ (gone ++ notes))
    (placed_unsaid limits one x.id will (every_right Roomy gone (will_dropped limits one x.id will) free.1)
    ∙ sym (placed_unsaid others two x.id will (every_right Roomy gone (will_dropped others two x.id will) also.1)))

pub tick_same : (s t : State) (now : ℕ) (x : Client) → SaysSame x.id s.policy t.policy
    → Every Roomy (tick_notes s.policy s.link now s.clients x)
    → Every Roomy (tick_notes t.policy t.link now t.clients x)
    → tick_notes s.policy s.link now s.clients x ≡ tick_notes t.policy t.link now t.clients x
tick_same s t now x same = by_lost (is_lost_at now x)
  where
    by_lost : (b : Bool)
        → (let one = all_placed s.policy.limits s.link (testaments now (before x.id s.clients)) in
        let two = all_placed t.policy.limits t.link (testaments now (before x.id t.clients)) in
        Every Roomy (if b then lost_notes s.policy.limits one x else again_notes s.policy now x)
        → Every Roomy (if b then lost_notes t.policy.limits two x else again_notes t.policy now x)
        → (let first : List Decision = if b then lost_notes s.policy.limits one x else again_notes s.policy now x in
        let second : List Decision = if b then lost_notes t.policy.limits two x else again_notes t.policy now x in
        first ≡ second))
    by_lost true free also =
        lost_same s.policy.limits t.policy.limits
        (all_placed s.policy.limits s.link (testaments now (before x.id s.clients)))
        (all_placed t.policy.limits t.link (testaments now (before x.id t.clients))) x free also
    by_lost false free also = again_same s.policy t.policy now x same
