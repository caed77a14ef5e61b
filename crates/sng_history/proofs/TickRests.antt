-- After a tick a client is lost, or at rest: what was open with it was sent again, or is over.
use Rattle.std.proofs.Common.{◌≡◌, ℕ, Bool, true, false, List, [], ◌∷◌, refl, ap, sym, ◌∙◌, subst}
use Rattle.std.specs.Prelude.{if◌then◌else◌, Option, Some, None}
use Rattle.sng_grants.specs.Limits.{Limits}
use Rattle.sng_states.specs.States.{takes_messages}
use Rattle.sng_queue.specs.declared.exchange.Exchange.{Exchange}
use Rattle.sng_queue.specs.declared.exchange.Exchange.TheVariants.{Announcing, Acknowledging}
use Rattle.sng_queue.specs.Messages.{Message}
use Rattle.sng_queue.specs.Buffers.{nothing, settle}
use Rattle.sng_outbox.specs.declared.item.Publication.{Publication}
use Rattle.sng_book.specs.declared.outcome.Outcome.{Outcome}
use Rattle.sng_book.specs.declared.outcome.Outcome.TheVariants.{Allowed, Denied}
use Rattle.sng_history.specs.Causes.{ByTick}
use Rattle.sng_history.specs.Clients.{Around, Client, lost, closed, repeated, notes_by, drained}
use Rattle.sng_history.specs.Links.{Link}
use Rattle.sng_history.specs.Room.{room_in}
use Rattle.sng_history.specs.State.{State, around, later}
use Rattle.sng_history.specs.Outgoing.{all_gone, receive, handed_over}
use Rattle.sng_history.specs.Ticking.{is_unanswered, is_repeating, is_lost_at, will_of, testaments}
use Rattle.sng_history.specs.Ticking.{all_placed}
use Rattle.sng_history.specs.Losing.{before, unplaced, will_dropped, lost_notes, message_open, judged_again}
use Rattle.sng_history.specs.Losing.{message_again, exchange_again}
use Rattle.sng_history.specs.Losing.{again_notes}
use Rattle.sng_history.specs.Steps.{client_next}
use Rattle.sng_history.specs.Good.{AtRest}
use Rattle.sng_history.proofs.Hands.{gone_stays}
use Rattle.sng_history.proofs.Statements.{notes_both}
use Rattle.sng_history.proofs.Turns.{denied_settles}
use Rattle.sng_history.proofs.Served.{Rested, rested, rest_drained, InSession, rest_served, taking}
use Rattle.sng_history.proofs.Booleans.{left_holds}

-- ---- a client that is lost

-- that its will found no place moves nothing
unplaced_stays : (s : State) (clock : ℕ) (id : List ℕ) (p : Publication) (o : Outcome) (x : Client)
    → notes_by (around s (ByTick clock)) (unplaced id p o) x ≡ x
unplaced_stays s clock id p Allowed x = refl
unplaced_stays s clock id p (Denied rule) x = refl

dropped_stays : (s : State) (clock : ℕ) (limits : Limits) (link : Link) (id : List ℕ) (ps : List Publication) (x : Client)
    → notes_by (around s (ByTick clock)) (will_dropped limits link id ps) x ≡ x
dropped_stays s clock limits link id [] x = refl
dropped_stays s clock limits link id (p ∷ ps) x = unplaced_stays s clock id p (room_in limits link p.qos) x

-- the notes of a client that is lost make just this of it
pub lost_next : (s : State) (clock : ℕ) (limits : Limits) (link : Link) (x : Client)
    → notes_by (around s (ByTick clock)) (lost_notes limits link x) x ≡ lost x
lost_next s clock limits link x =
    let a = around s (ByTick clock) in
    let will = will_of x.id x.wills.will in
    notes_both a (all_gone x.id x.buffer.waiting) (will_dropped limits link x.id will) (lost x)
    ∙ (ap (notes_by a (will_dropped limits link x.id will)) (gone_stays a x.id x.buffer.waiting (lost x) refl)
    ∙ dropped_stays s clock limits link x.id will (lost x))

-- ---- one with whom something is open

-- it is sent again
rest_sent : (clock : ℕ) (x : Client) (e : Exchange) → x.buffer.exchange ≡ Some e → InSession x
    → takes_messages x.phase ≡ true
    → Rested (repeated clock Allowed x)
rest_sent clock x e at in_session takes = record {
  handed = rw (takes, at) refl;
  quiet = rw takes refl;
  away = ap (λ b. if b then nothing else (repeated clock Allowed x).buffer) in_session.here;
  dialogue = in_session.dialogue;
}

-- or is over, and what may leave leaves
rest_judged : (a : Around) (x : Client) (e : Exchange) (m : Message) (o : Outcome)
    → x.buffer.exchange ≡ Some e
    → receive a.policy x.id m.name ≡ o → AtRest x → takes_messages x.phase ≡ true
    → Rested (notes_by a (judged_again a.policy x e m o) x)
rest_judged a x e m Allowed at is rest takes = rest_sent a.clock x e at (taking x takes rest) takes
rest_judged a x (Announcing sent) m (Denied rule) at is rest takes =
    let y : Client = record x { buffer = settle x.buffer } in
    let in_session = taking x takes rest in
    subst (λ z. Rested (notes_by a (handed_over a.policy y) z))
    (sym (denied_settles a.policy x.id m.name rule x is))
    (rest_served a y (record {
      here = in_session.here;
      quiet = rw takes refl;
      dialogue = in_session.dialogue;
    }))
rest_judged a x (Acknowledging sent k one) m (Denied rule) at is rest takes =
    let in_session = taking x takes rest in
    rest_served a (closed x) (record {
      here = in_session.here;
      quiet = rw takes refl;
      dialogue = in_session.dialogue;
    })

rest_message : (a : Around) (x : Client) (e : Exchange) (m : Option Message) → x.buffer.exchange ≡ Some e
    → AtRest x
    → takes_messages x.phase ≡ true → Rested (notes_by a (message_again a.policy x e m) x)
rest_message a x e None at rest takes = rested x rest
rest_message a x e (Some m) at rest takes =
    rest_judged a x e m (receive a.policy x.id m.name) at refl rest takes

rest_exchange : (a : Around) (x : Client) (e : Option Exchange) → x.buffer.exchange ≡ e → AtRest x
    → takes_messages x.phase ≡ true
    → Rested (notes_by a (exchange_again a.policy x e) x)
rest_exchange a x None at rest takes = rested x rest
rest_exchange a x (Some e) at rest takes = rest_message a x e (message_open x.buffer e) at rest takes

rest_repeating : (a : Around) (clock : ℕ) (x : Client) (b : Bool) → is_repeating clock x ≡ b → AtRest x
    → Rested (notes_by a (if b then exchange_again a.policy x x.buffer.exchange else []) x)
rest_repeating a clock x true is rest =
    rest_exchange a x x.buffer.exchange refl rest
    (left_holds (takes_messages x.phase) (is_unanswered clock x.buffer.exchange) is)
rest_repeating a clock x false is rest = rested x rest

rest_again : (a : Around) (clock : ℕ) (x : Client) → AtRest x
    → Rested (notes_by a (again_notes a.policy clock x) x)
rest_again a clock x rest = rest_repeating a clock x (is_repeating clock x) refl rest

-- ---- each client

tick_by : (s : State) (clock now : ℕ) (limits : Limits) (link : Link) (x : Client) (over : Bool)
    → (let a = around s (ByTick clock) in
    drained (notes_by a (if over then lost_notes limits link x else again_notes s.policy now x) x)
    ≡ (if over then lost x else drained (notes_by a (again_notes s.policy now x) x)))
tick_by s clock now limits link x true = ap drained (lost_next s clock limits link x)
tick_by s clock now limits link x false = refl

-- a client after a tick
pub tick_next : (s : State) (clock : ℕ) (x : Client)
    → (let now = later s.clock clock in
    client_next s (ByTick clock) x
    ≡ (if is_lost_at now x then lost x
    else drained (notes_by (around s (ByTick clock)) (again_notes s.policy now x) x)))
tick_next s clock x =
    let now = later s.clock clock in
    tick_by s clock now s.policy.limits (all_placed s.policy.limits s.link (testaments now (before x.id s.clients))) x
    (is_lost_at now x)

rest_over : (over : Bool) (x y : Client) → AtRest y → AtRest (if over then lost x else y)
rest_over true x y rest = record { handed = refl; quiet = refl; busy = refl; away = refl; dialogue = refl }
rest_over false x y rest = rest

pub rest_tick : (s : State) (clock : ℕ) (x : Client) → AtRest x → AtRest (client_next s (ByTick clock) x)
rest_tick s clock x rest =
    let a = around s (ByTick clock) in
    let now = later s.clock clock in
    let y = notes_by a (again_notes s.policy now x) x in
    subst AtRest (sym (tick_next s clock x))
    (rest_over (is_lost_at now x) x (drained y) (rest_drained y (rest_again a now x rest)))
