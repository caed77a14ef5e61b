-- What a client did not answer in time, as code sends it again or ends it, is the notes of the step.
use Rattle.std.proofs.Common.{◌≡◌, ℕ, Bool, true, false, List, [], ◌∷◌, ◌++◌, drop, refl, ap, sym, ◌∙◌}
use Rattle.std.specs.Prelude.{if◌then◌else◌, ◌&&◌, ◌||◌, is_none, slice_get, Option, Some, None}
use Rattle.sng_states.specs.States.{is_awake, takes_messages}
use Rattle.sng_queue.specs.declared.kind.TopicIdKind.{TopicIdKind}
use Rattle.sng_queue.specs.declared.exchange.Exchange.{Exchange}
use Rattle.sng_queue.specs.declared.exchange.Exchange.TheVariants.{Announcing, Acknowledging}
use Rattle.sng_queue.specs.declared.exchange.Sending.{Sending}
use Rattle.sng_queue.specs.Exchanges.{repeat}
use Rattle.sng_queue.specs.Messages.{Message}
use Rattle.sng_queue.specs.Buffers.{settle}
use Rattle.sng_book.specs.declared.decision.Decision.{Decision}
use Rattle.sng_book.specs.declared.decision.Decision.TheVariants as note
use Rattle.sng_book.specs.declared.outcome.Outcome.{Outcome}
use Rattle.sng_book.specs.declared.outcome.Outcome.TheVariants.{Allowed, Denied}
use Rattle.sng_book.specs.declared.out.Out.{Out}
use Rattle.sng_book.specs.declared.out.Out.TheVariants.{Note}
use Rattle.sng_history.specs.Clients.{Around, Client, closed, repeated, notes_by, drained}
use Rattle.sng_history.specs.Entering.{served}
use Rattle.sng_history.specs.Handing.{announced_again, handed_again, repeated_outs}
use Rattle.sng_history.specs.Losing.{judged_again, message_again, exchange_again, again_notes}
use Rattle.sng_history.specs.Outgoing.{receive, is_free, handed_over}
use Rattle.sng_history.specs.Ticking.{is_unanswered, is_repeating, is_tried_out}
use Rattle.sng_history.specs.Whole.{spell, drained_outs}
use Rattle.sng_history.specs.Good.{AtRest}
use Rattle.sng_history.proofs.Steady.{undrained}
use Rattle.sng_history.proofs.Turns.{denied_settles}
use Rattle.sng_history.proofs.Booleans.{and_no, left_holds}
use Rattle.sng_sessions.specs.Handed.{handed_by}
use Rattle.sng_sessions.specs.Sleeping.{changed}
use Rattle.sng_sessions.specs.declared.sleeping.Change.TheVariants.{Repeats}
use Rattle.sng_turns.specs.Again.{register_again, announced_by, announced_to, announced_outs, announced_comes}
use Rattle.sng_turns.specs.Again.{handed_outs_by, handed_to, exchange_outs, exchange_comes}
use Rattle.sng_core.specs.Dues.{again_outs}
use Rattle.sng_turns.specs.Serving.{told_left, serving_outs}
use Rattle.sng_turns.specs.declared.again.Retried.{Retried}
use Rattle.sng_turns.specs.declared.again.Retried.TheVariants.{Nothing, Sent, Over}
use Rattle.sng_core.proofs.HandingPlans.{plan_further, settled_first}
use Rattle.sng_core.proofs.HandingRows.{free_row, free_moves}
use Rattle.sng_core.proofs.ServingRows.{left_row}
use Rattle.sng_core.proofs.Plain.{Busy, busy_outs}

-- what is let out, and behind it that nothing is left
abbrev all_spelled : Around → Client → List Decision → List Out
all_spelled a y notes = spell a [] y notes ++ drained_outs (notes_by a notes y)

-- what comes of it does this to its client
abbrev pub carried : ℕ → Retried → Client → Client
carried clock Nothing x = x
carried clock Sent x = changed clock Repeats x
carried clock (Over handed) x = drained (handed_by clock handed (closed x))

-- where nothing is noted nothing is let out, and nothing moves
nothing_spelled : (a : Around) (x : Client) → Busy x → [] ≡ all_spelled a x []
nothing_spelled a x busy = sym (busy_outs x busy)

-- ---- sent again

-- something is open then
open_busy : (clock : ℕ) (x : Client) (e : Exchange) → x.buffer.exchange ≡ Some e
    → Busy (repeated clock Allowed x)
open_busy clock x e at =
    let front = is_none (slice_get x.buffer.waiting 0) in
    ap (λ o. is_awake x.phase && (front && is_none (repeat o clock))) at
    ∙ (ap (λ b. is_awake x.phase && b) (and_no front) ∙ and_no (is_awake x.phase))

sent_spelled : (a : Around) (x : Client) (e : Exchange) (m : Message) (out : Out) → x.buffer.exchange ≡ Some e
    → repeated_outs x.address x.buffer x.buffer.exchange ≡ out ∷ []
    → Note (note.Retry x.id m.name Allowed) ∷ out ∷ [] ≡ all_spelled a x (note.Retry x.id m.name Allowed ∷ [])
sent_spelled a x e m out at shown =
    let none = sym (busy_outs (repeated a.clock Allowed x) (open_busy a.clock x e at)) in
    λ i. Note (note.Retry x.id m.name Allowed) ∷ ((sym shown i ++ []) ++ none i)

sent_moved : (a : Around) (x : Client) (e : Exchange) (m : Message) → x.buffer.exchange ≡ Some e
    → is_tried_out x.buffer.exchange ≡ false
    → carried a.clock Sent x ≡ drained (notes_by a (note.Retry x.id m.name Allowed ∷ []) x)
sent_moved a x e m at fresh =
    ap (λ b. let y : Client = record x {
      buffer = if b then x.buffer
          else record x.buffer { exchange = repeat x.buffer.exchange a.clock };
    } in y) fresh
    ∙ sym (undrained (repeated a.clock Allowed x) (open_busy a.clock x e at))

-- ---- an announcement

-- behind the front
abbrev behind : Client → Client
behind x = record x { buffer = record { waiting = drop 1 x.buffer.waiting; exchange = None } }

abbrev settled_front : Client → Client
settled_front x = record x { buffer = settle x.buffer }

behind_free : (x : Client) → takes_messages x.phase ≡ true → is_free (behind x) ≡ true
behind_free x takes = ap (λ b. b && true) takes

settles : (x : Client) (sent : Sending) → x.buffer.exchange ≡ Some (Announcing sent)
    → behind x ≡ settled_front x
settles x sent at = rw at refl

served_spelled : (a : Around) (x : Client) → takes_messages x.phase ≡ true
    → serving_outs a.policy x.phase 0 1 x ≡ all_spelled a (behind x) (handed_over a.policy (behind x))
served_spelled a x takes =
    let free = behind_free x takes in
    let told =
    ap (told_left x.phase x.address) (plan_further a.policy x.id x.ids 0 0 (drop 1 x.buffer.waiting))
    ∙ left_row a (behind x) free in
    λ i. free_row a [] (behind x) free i ++ told i

announced_spelled : (a : Around) (x : Client) (sent : Sending) (m : Message) (o : Outcome)
    → x.buffer.exchange ≡ Some (Announcing sent)
    → slice_get x.buffer.waiting 0 ≡ Some m → receive a.policy x.id m.name ≡ o → takes_messages x.phase ≡ true
    → announced_by a.policy x sent m o ≡ all_spelled a x (judged_again a.policy x (Announcing sent) m o)
announced_spelled a x sent m Allowed at found is takes =
    sent_spelled a x (Announcing sent) m (register_again x.address sent m.name) at
    (ap (repeated_outs x.address x.buffer) at ∙ ap (announced_again x.address sent) found)
announced_spelled a x sent m (Denied rule) at found is takes =
    ap (λ outs. Note (note.Hand x.id m.name (Denied rule)) ∷ outs)
    (served_spelled a x takes
    ∙ (ap (λ z. all_spelled a z (handed_over a.policy z)) (settles x sent at)
    ∙ ap (λ z. all_spelled a z (handed_over a.policy (settled_front x)))
    (sym (denied_settles a.policy x.id m.name rule x is))))

announced_moved : (a : Around) (x : Client) (sent : Sending) (m : Message) (o : Outcome)
    → x.buffer.exchange ≡ Some (Announcing sent)
    → receive a.policy x.id m.name ≡ o → takes_messages x.phase ≡ true
    → is_tried_out x.buffer.exchange ≡ false
    → carried a.clock (announced_to a.policy x o) x
    ≡ drained (notes_by a (judged_again a.policy x (Announcing sent) m o) x)
announced_moved a x sent m Allowed at is takes fresh = sent_moved a x (Announcing sent) m at fresh
announced_moved a x sent m (Denied rule) at is takes fresh =
    ap drained (settled_first a.clock a.policy x.id x.ids 0 0 (drop 1 x.buffer.waiting) (closed x)
    ∙ (free_moves a (behind x) (behind_free x takes)
    ∙ (ap (served a) (settles x sent at)
    ∙ ap (notes_by a (handed_over a.policy (settled_front x)))
    (sym (denied_settles a.policy x.id m.name rule x is)))))

-- it is about the front, where there is one
front_spelled : (a : Around) (x : Client) (sent : Sending) (waiting : List Message)
    → x.buffer.waiting ≡ waiting → x.buffer.exchange ≡ Some (Announcing sent)
    → takes_messages x.phase ≡ true → Busy x
    → announced_outs a.policy x sent waiting
    ≡ all_spelled a x (message_again a.policy x (Announcing sent) (slice_get waiting 0))
front_spelled a x sent [] are at takes busy = nothing_spelled a x busy
front_spelled a x sent (m ∷ waiting) are at takes busy =
    announced_spelled a x sent m (receive a.policy x.id m.name) at (ap (λ ms. slice_get ms 0) are) refl takes

front_moved : (a : Around) (x : Client) (sent : Sending) (waiting : List Message)
    → x.buffer.exchange ≡ Some (Announcing sent)
    → takes_messages x.phase ≡ true → is_tried_out x.buffer.exchange ≡ false → Busy x
    → carried a.clock (announced_comes a.policy x waiting) x
    ≡ drained (notes_by a (message_again a.policy x (Announcing sent) (slice_get waiting 0)) x)
front_moved a x sent [] at takes fresh busy = sym (undrained x busy)
front_moved a x sent (m ∷ waiting) at takes fresh busy =
    announced_moved a x sent m (receive a.policy x.id m.name) at refl takes fresh

-- ---- a message that was handed over

closed_free : (x : Client) → takes_messages x.phase ≡ true → is_free (closed x) ≡ true
closed_free x takes = ap (λ b. b && true) takes

handed_spelled : (a : Around) (x : Client) (sent : Sending) (k : TopicIdKind) (m : Message) (o : Outcome)
    → x.buffer.exchange ≡ Some (Acknowledging sent k m)
    → takes_messages x.phase ≡ true
    → handed_outs_by a.policy x sent k m o
    ≡ all_spelled a x (judged_again a.policy x (Acknowledging sent k m) m o)
handed_spelled a x sent k m Allowed at takes =
    sent_spelled a x (Acknowledging sent k m) m (handed_again x.address sent k m) at
    (ap (repeated_outs x.address x.buffer) at)
handed_spelled a x sent k m (Denied rule) at takes =
    let free = closed_free x takes in
    λ i. Note (note.Retry x.id m.name (Denied rule))
    ∷ (free_row a [] (closed x) free i ++ left_row a (closed x) free i)

handed_moved : (a : Around) (x : Client) (sent : Sending) (k : TopicIdKind) (m : Message) (o : Outcome)
    → x.buffer.exchange ≡ Some (Acknowledging sent k m)
    → takes_messages x.phase ≡ true → is_tried_out x.buffer.exchange ≡ false
    → carried a.clock (handed_to a.policy x o) x
    ≡ drained (notes_by a (judged_again a.policy x (Acknowledging sent k m) m o) x)
handed_moved a x sent k m Allowed at takes fresh = sent_moved a x (Acknowledging sent k m) m at fresh
handed_moved a x sent k m (Denied rule) at takes fresh =
    ap drained (free_moves a (closed x) (closed_free x takes))

-- ---- what is open

exchange_spelled : (a : Around) (x : Client) (e : Option Exchange) → x.buffer.exchange ≡ e
    → takes_messages x.phase ≡ true → Busy x
    → exchange_outs a.policy x e ≡ all_spelled a x (exchange_again a.policy x e)
exchange_spelled a x None at takes busy = nothing_spelled a x busy
exchange_spelled a x (Some (Announcing sent)) at takes busy =
    front_spelled a x sent x.buffer.waiting refl at takes busy
exchange_spelled a x (Some (Acknowledging sent k m)) at takes busy =
    handed_spelled a x sent k m (receive a.policy x.id m.name) at takes

exchange_moved : (a : Around) (x : Client) (e : Option Exchange) → x.buffer.exchange ≡ e
    → takes_messages x.phase ≡ true
    → is_tried_out x.buffer.exchange ≡ false → Busy x
    → carried a.clock (exchange_comes a.policy x e) x ≡ drained (notes_by a (exchange_again a.policy x e) x)
exchange_moved a x None at takes fresh busy = sym (undrained x busy)
exchange_moved a x (Some (Announcing sent)) at takes fresh busy =
    front_moved a x sent x.buffer.waiting at takes fresh busy
exchange_moved a x (Some (Acknowledging sent k m)) at takes fresh busy =
    handed_moved a x sent k m (receive a.policy x.id m.name) at takes fresh

-- ---- one that is not lost

again_by : (a : Around) (clock : ℕ) (x : Client) (late : Bool) → is_repeating clock x ≡ late → AtRest x
    → (if late then exchange_outs a.policy x x.buffer.exchange else [])
    ≡ all_spelled a x (if late then exchange_again a.policy x x.buffer.exchange else [])
again_by a clock x true is rest =
    exchange_spelled a x x.buffer.exchange refl
    (left_holds (takes_messages x.phase) (is_unanswered clock x.buffer.exchange) is) rest.busy
again_by a clock x false is rest = nothing_spelled a x rest.busy

pub again_row : (a : Around) (clock : ℕ) (x : Client) → AtRest x
    → again_outs a.policy clock x
    ≡ spell a [] x (again_notes a.policy clock x)
    ++ drained_outs (notes_by a (again_notes a.policy clock x) x)
again_row a clock x rest = again_by a clock x (is_repeating clock x) refl rest

fresh_by : (over late tried : Bool) → (over || (late && tried)) ≡ false → late ≡ true → tried ≡ false
fresh_by true late tried is now = absurd cc
fresh_by false true tried is now = is
fresh_by false false tried is now = absurd cc

moved_by : (a : Around) (clock : ℕ) (x : Client) (over late : Bool) → is_repeating clock x ≡ late
    → (over || (late && is_tried_out x.buffer.exchange)) ≡ false → AtRest x
    → carried a.clock (if late then exchange_comes a.policy x x.buffer.exchange else Nothing) x
    ≡ drained (notes_by a (if late then exchange_again a.policy x x.buffer.exchange else []) x)
moved_by a clock x over true is stays rest =
    exchange_moved a x x.buffer.exchange refl
    (left_holds (takes_messages x.phase) (is_unanswered clock x.buffer.exchange) is)
    (fresh_by over true (is_tried_out x.buffer.exchange) stays refl) rest.busy
moved_by a clock x over false is stays rest = sym (undrained x rest.busy)

pub again_moves : (a : Around) (clock : ℕ) (x : Client) (over : Bool)
    → (over || (is_repeating clock x && is_tried_out x.buffer.exchange)) ≡ false → AtRest x
    → carried a.clock (if is_repeating clock x then exchange_comes a.policy x x.buffer.exchange else Nothing)
    x
    ≡ drained (notes_by a (again_notes a.policy clock x) x)
again_moves a clock x over stays rest = moved_by a clock x over (is_repeating clock x) refl stays rest
