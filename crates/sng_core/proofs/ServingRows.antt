-- An awake client for which nothing is left behind a hand-over is told so, by the code as by the step: just
-- where no exchange begins.
use Rattle.std.proofs.Common.{◌≡◌, ℕ, Bool, true, false, List, [], ◌∷◌, drop, refl, ap, sym, ◌∙◌, subst}
use Rattle.std.specs.Prelude.{if◌then◌else◌, ◌&&◌, not, is_none, slice_get, None}
use Rattle.sng_states.specs.States.{is_awake, takes_messages}
use Rattle.sng_ids.specs.Ids.{is_full_for}
use Rattle.sng_queue.specs.Exchanges.{awaits_ack}
use Rattle.sng_queue.specs.Messages.{Message}
use Rattle.sng_history.specs.Answers.{pong}
use Rattle.sng_history.specs.Clients.{Around, Client, announced, is_drained}
use Rattle.sng_history.specs.Entering.{served}
use Rattle.sng_history.specs.Outgoing.{is_free}
use Rattle.sng_history.specs.Whole.{drained_outs}
use Rattle.sng_sessions.specs.Handed.{handed_by, answered}
use Rattle.sng_sessions.specs.declared.handing.Opens.{Opens}
use Rattle.sng_sessions.specs.declared.handing.Opens.TheVariants.{Nothing, Announcing, Awaiting}
use Rattle.sng_sessions.proofs.HandedLemmas.{handed-keeps}
use Rattle.sng_turns.specs.HandingOver.{message_opens, is_open, hand_plan}
use Rattle.sng_turns.specs.Serving.{told_left}
use Rattle.sng_core.proofs.HandingPlans.{waits, hand_by, plan_further, settled_first}
use Rattle.sng_core.proofs.HandingRows.{waits_self, free_closed}
use Rattle.sng_core.proofs.HandingRows.{free_moves, plan_confirmed}
use Rattle.sng_core.proofs.HandingRows.{answered_free, behind_front, waits_behind, front_settled}
use Rattle.sng_history.proofs.Booleans.{and_no}

-- the client sleeps again where it is awake and no exchange begins
abbrev Tells : Around → List ℕ → List Message → Type 0
Tells a client more =
    (x : Client) → (let h = hand_plan a.policy client x.ids 0 0 more in
    is_drained (handed_by a.clock h (waits x more)) ≡ (is_awake x.phase && not (is_open h.opens)))

-- the front stays where its id is announced,
announced_left : (clock : ℕ) (m : Message) (more : List Message) (x : Client) (name : List ℕ) (full : Bool)
    → (let y : Client = if full then waits x (m ∷ more) else announced clock name (waits x (m ∷ more)) in
    is_drained y)
    ≡ (is_awake x.phase && false)
announced_left clock m more x name true = refl
announced_left clock m more x name false = refl

tells_by : (a : Around) (client : List ℕ) (m : Message) (more : List Message) (x : Client) (o : Opens)
    → Tells a client more
    → (let h = hand_by 0 o (hand_plan a.policy client x.ids 0 1 more) in
    is_drained (handed_by a.clock h (waits x (m ∷ more))) ≡ (is_awake x.phase && not (is_open h.opens)))
tells_by a client m more x Nothing rest =
    ap is_drained (settled_first a.clock a.policy client x.ids 0 0 more (waits x (m ∷ more)))
    ∙ (rest x ∙ ap (λ h. is_awake x.phase && not (is_open h.opens))
    (sym (plan_further a.policy client x.ids 0 0 more)))
tells_by a client m more x (Announcing name) rest =
    announced_left a.clock m more x name (is_full_for name x.ids)
tells_by a client m more x (Awaiting kind id) rest =
    ap (λ b. is_awake x.phase && b) (and_no (is_none (slice_get more 0)))

turns_tell : (a : Around) (client : List ℕ) (waiting : List Message) → Tells a client waiting
turns_tell a client [] x = refl
turns_tell a client (m ∷ more) x =
    tells_by a client m more x (message_opens a.policy client x.ids 0 m) (turns_tell a client more)

tells : (a : Around) (x : Client) → x.buffer.exchange ≡ None
    → (let h = hand_plan a.policy x.id x.ids 0 0 x.buffer.waiting in
    is_drained (handed_by a.clock h x) ≡ (is_awake x.phase && not (is_open h.opens)))
tells a x none =
    let h = hand_plan a.policy x.id x.ids 0 0 x.buffer.waiting in
    subst (λ y. is_drained (handed_by a.clock h y) ≡ (is_awake x.phase && not (is_open h.opens)))
    (waits_self x none)
    (turns_tell a x.id x.buffer.waiting x)

-- a client that is free
pub left_row : (a : Around) (x : Client) → is_free x ≡ true
    → told_left x.phase x.address (hand_plan a.policy x.id x.ids 0 0 x.buffer.waiting)
    ≡ drained_outs (served a x)
left_row a x is =
    let h = hand_plan a.policy x.id x.ids 0 0 x.buffer.waiting in
    let asleep = sym (tells a x (free_closed x is)) in
    let at : x.address ≡ (handed_by a.clock h x).address = sym ((handed-keeps a.clock h).address x) in
    (λ i. if asleep i then pong (at i) ∷ [] else []) ∙ ap drained_outs (free_moves a x is)

-- once it answered, by a PUBACK, or by a REGACK that accepts an id
pub answered_left : (a : Around) (more : ℕ) (x : Client) → takes_messages x.phase ≡ true
    → told_left x.phase x.address (hand_plan a.policy x.id x.ids more 0 (drop 0 x.buffer.waiting))
    ≡ drained_outs (served a (answered a.clock more x))
answered_left a more x takes =
    ap (told_left x.phase x.address) (plan_confirmed a.policy x.id x.ids more 0 x.buffer.waiting)
    ∙ left_row a (answered a.clock more x) (answered_free a.clock more x takes)

-- by a REGACK that refuses the id
pub refused_left : (a : Around) (x : Client) → awaits_ack x.buffer.exchange ≡ false
    → takes_messages x.phase ≡ true
    → told_left x.phase x.address (hand_plan a.policy x.id x.ids 0 1 (drop 1 x.buffer.waiting))
    ≡ drained_outs (served a (behind_front a.clock x))
refused_left a x is takes =
    let y = waits_behind a.clock x in
    ap (told_left x.phase x.address) (plan_further a.policy x.id x.ids 0 0 (drop 1 x.buffer.waiting))
    ∙ (left_row a y (ap (λ b. b && true) takes)
    ∙ ap (λ z. drained_outs (served a z)) (front_settled a.clock x is))
