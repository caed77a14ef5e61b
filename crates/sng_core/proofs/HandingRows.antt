-- A hand-over as code makes it is the notes of the step: what it lets out is those notes spelled, and what it
-- does to its client is what they do. And what is gone.
use Rattle.std.proofs.Common.{◌≡◌, ℕ, zero, suc, Bool, true, false, List, [], ◌∷◌, drop, length, refl}
use Rattle.std.proofs.Common.{ap, sym, ◌∙◌, subst}
use Rattle.std.specs.Prelude.{if◌then◌else◌, ◌&&◌, Option, Some, None}
use Rattle.sng_grants.specs.declared.policy.Policy.{Policy}
use Rattle.sng_states.specs.States.{takes_messages}
use Rattle.sng_ids.specs.Ids.{Ids, is_full_for, confirmed, confirmed_at}
use Rattle.sng_queue.specs.Exchanges.{awaits_ack}
use Rattle.sng_queue.specs.Messages.{Message}
use Rattle.sng_queue.specs.Buffers.{settle}
use Rattle.sng_book.specs.declared.address.Address.{Address}
use Rattle.sng_book.specs.declared.decision.Decision.TheVariants as note
use Rattle.sng_book.specs.declared.outcome.Denial.TheVariants.{Peer}
use Rattle.sng_book.specs.declared.outcome.PeerDenial.TheVariants.{Gone}
use Rattle.sng_book.specs.declared.outcome.Outcome.{Outcome}
use Rattle.sng_book.specs.declared.outcome.Outcome.TheVariants.{Allowed, Denied}
use Rattle.sng_book.specs.declared.out.Out.TheVariants.{Note}
use Rattle.sng_history.specs.Handing.{announced_out}
use Rattle.sng_history.specs.Clients.{Around, Client, notes_by}
use Rattle.sng_history.specs.Standing.{Release}
use Rattle.sng_history.specs.Outgoing.{receive, turns, is_free, handed_over}
use Rattle.sng_history.specs.Outgoing.{all_gone}
use Rattle.sng_history.specs.Entering.{served}
use Rattle.sng_history.specs.Whole.{spell}
use Rattle.sng_sessions.specs.Handed.{handed_by, answered}
use Rattle.sng_turns.specs.declared.known.KnownId.{KnownId}
use Rattle.sng_turns.specs.HandingOver.{fixed_id, known_id, offer_outs}
use Rattle.sng_turns.specs.HandingOver.{turn_outs, offer_opens, turn_opens, message_outs}
use Rattle.sng_turns.specs.HandingOver.{message_opens, hand_outs, hand_plan, gone_outs}
use Rattle.sng_turns.proofs.KnownLemmas.{place-confirmed}
use Rattle.sng_core.proofs.HandingPlans.{waits, turns_spelled, settled_first, turns_moved}
use Rattle.sng_history.proofs.Turns.{none_right}

-- ---- of a client

pub waits_self : (x : Client) → x.buffer.exchange ≡ None → waits x x.buffer.waiting ≡ x
waits_self x none =
    ap (λ o. let y : Client = record x { buffer = record { waiting = x.buffer.waiting; exchange = o } } in y)
    (sym none)

-- where no exchange is open with the client, what is let out is the notes, spelled,
pub hand_row : (a : Around) (dropped : List Release) (x : Client) → x.buffer.exchange ≡ None
    → hand_outs a.policy x.id x.address x.ids 0 x.number x.buffer.waiting
    ≡ spell a dropped x (turns a.policy x.id x.ids x.buffer.waiting)
hand_row a dropped x none =
    turns_spelled a dropped x.id x.buffer.waiting x
    ∙ ap (λ y. spell a dropped y (turns a.policy x.id x.ids x.buffer.waiting)) (waits_self x none)

-- and it comes to what they do
pub hand_moves : (a : Around) (x : Client) → x.buffer.exchange ≡ None
    → handed_by a.clock (hand_plan a.policy x.id x.ids 0 0 x.buffer.waiting) x
    ≡ notes_by a (turns a.policy x.id x.ids x.buffer.waiting) x
hand_moves a x none =
    subst (λ y. handed_by a.clock (hand_plan a.policy x.id x.ids 0 0 x.buffer.waiting) y
    ≡ notes_by a (turns a.policy x.id x.ids x.buffer.waiting) y)
    (waits_self x none) (turns_moved a x.id x.buffer.waiting x)

-- a client that takes messages has no exchange open, where it is free
pub free_closed : (x : Client) → is_free x ≡ true → x.buffer.exchange ≡ None
free_closed x is = none_right (takes_messages x.phase) x.buffer.exchange is

-- a hand-over to a client that is free
pub free_row : (a : Around) (dropped : List Release) (x : Client) → is_free x ≡ true
    → hand_outs a.policy x.id x.address x.ids 0 x.number x.buffer.waiting
    ≡ spell a dropped x (handed_over a.policy x)
free_row a dropped x is = rw is (hand_row a dropped x (free_closed x is))

pub free_moves : (a : Around) (x : Client) → is_free x ≡ true
    → handed_by a.clock (hand_plan a.policy x.id x.ids 0 0 x.buffer.waiting) x ≡ served a x
free_moves a x is = rw is (hand_moves a x (free_closed x is))

outs_if : (a : Around) (dropped : List Release) (x : Client) (free : Bool) → is_free x ≡ free
    → (if free then hand_outs a.policy x.id x.address x.ids 0 x.number x.buffer.waiting else [])
    ≡ spell a dropped x (handed_over a.policy x)
outs_if a dropped x true is = free_row a dropped x is
outs_if a dropped x false is = rw is refl

moves_if : (a : Around) (x : Client) (free : Bool) → is_free x ≡ free
    → (if free then handed_by a.clock (hand_plan a.policy x.id x.ids 0 0 x.buffer.waiting) x else x)
    ≡ served a x
moves_if a x true is = free_moves a x is
moves_if a x false is = rw is refl

-- a hand-over to a client, if it is free
pub over_row : (a : Around) (dropped : List Release) (x : Client)
    → (if is_free x then hand_outs a.policy x.id x.address x.ids 0 x.number x.buffer.waiting else [])
    ≡ spell a dropped x (handed_over a.policy x)
over_row a dropped x = outs_if a dropped x (is_free x) refl

pub over_moves : (a : Around) (x : Client)
    → (if is_free x then handed_by a.clock (hand_plan a.policy x.id x.ids 0 0 x.buffer.waiting) x else x)
    ≡ served a x
over_moves a x = moves_if a x (is_free x) refl

-- ---- an id that is confirmed first

length_confirmed_at : (at : ℕ) (ids : Ids) → length (confirmed_at at ids) ≡ length ids
length_confirmed_at at [] = refl
length_confirmed_at zero (entry ∷ ids) = refl
length_confirmed_at (suc at) (entry ∷ ids) = ap suc (length_confirmed_at at ids)

length_confirmed : (id : ℕ) (ids : Ids) → length (confirmed id ids) ≡ length ids
length_confirmed zero ids = refl
length_confirmed (suc at) ids = length_confirmed_at at ids

full_confirmed : (name : List ℕ) (id : ℕ) (ids : Ids)
    → is_full_for name (confirmed id ids) ≡ is_full_for name ids
full_confirmed name id ids = rw (place-confirmed name id ids, length_confirmed id ids) refl

announced_confirmed : (to : Address) (number : ℕ) (name : List ℕ) (id : ℕ) (ids : Ids)
    → announced_out to number (confirmed id ids) name ≡ announced_out to number ids name
announced_confirmed to number name id ids = rw (place-confirmed name id ids, length_confirmed id ids) refl

offer_outs_confirmed : (id : List ℕ) (to : Address) (ids : Ids) (more number : ℕ) (m : Message)
    (k : Option KnownId)
    → offer_outs id to ids number m k ≡ offer_outs id to (confirmed more ids) number m k
offer_outs_confirmed id to ids more number m (Some k) = refl
offer_outs_confirmed id to ids more number m None =
    rw (full_confirmed m.name more ids, announced_confirmed to number m.name more ids) refl

offer_opens_confirmed : (ids : Ids) (more : ℕ) (m : Message) (k : Option KnownId)
    → offer_opens ids m k ≡ offer_opens (confirmed more ids) m k
offer_opens_confirmed ids more m (Some k) = refl
offer_opens_confirmed ids more m None = rw (full_confirmed m.name more ids) refl

turn_outs_confirmed : (id : List ℕ) (to : Address) (ids : Ids) (more number : ℕ) (m : Message) (o : Outcome)
    (k : Option KnownId)
    → turn_outs id to ids number m o k ≡ turn_outs id to (confirmed more ids) number m o k
turn_outs_confirmed id to ids more number m Allowed k = offer_outs_confirmed id to ids more number m k
turn_outs_confirmed id to ids more number m (Denied rule) k = refl

turn_opens_confirmed : (ids : Ids) (more : ℕ) (m : Message) (o : Outcome) (k : Option KnownId)
    → turn_opens ids m o k ≡ turn_opens (confirmed more ids) m o k
turn_opens_confirmed ids more m Allowed k = offer_opens_confirmed ids more m k
turn_opens_confirmed ids more m (Denied rule) k = refl

opens_confirmed : (policy : Policy) (id : List ℕ) (ids : Ids) (more : ℕ) (m : Message)
    → message_opens policy id ids more m ≡ message_opens policy id (confirmed more ids) 0 m
opens_confirmed policy id ids more m =
    turn_opens_confirmed ids more m (receive policy id m.name)
    (known_id (fixed_id policy m.name) (confirmed more ids) m.name)

message_confirmed : (policy : Policy) (id : List ℕ) (to : Address) (ids : Ids) (more number : ℕ) (m : Message)
    → message_outs policy id to ids more number m ≡ message_outs policy id to (confirmed more ids) 0 number m
message_confirmed policy id to ids more number m =
    turn_outs_confirmed id to ids more number m (receive policy id m.name)
    (known_id (fixed_id policy m.name) (confirmed more ids) m.name)

-- a hand-over that confirms an id first is one to a client that knows it
pub outs_confirmed : (policy : Policy) (id : List ℕ) (to : Address) (ids : Ids) (more number : ℕ)
    (waiting : List Message)
    → hand_outs policy id to ids more number waiting
    ≡ hand_outs policy id to (confirmed more ids) 0 number waiting
outs_confirmed policy id to ids more number [] = refl
outs_confirmed policy id to ids more number (m ∷ waiting) =
    rw (
      message_confirmed policy id to ids more number m,
      opens_confirmed policy id ids more m,
      outs_confirmed policy id to ids more number waiting,
    ) refl

pub plan_confirmed : (policy : Policy) (id : List ℕ) (ids : Ids) (more at : ℕ) (waiting : List Message)
    → hand_plan policy id ids more at waiting ≡ hand_plan policy id (confirmed more ids) 0 at waiting
plan_confirmed policy id ids more at [] = refl
plan_confirmed policy id ids more at (m ∷ waiting) =
    rw (opens_confirmed policy id ids more m, plan_confirmed policy id ids more (suc at) waiting) refl

-- to a client that is free then
pub confirmed_row : (a : Around) (dropped : List Release) (ids : Ids) (more : ℕ) (x : Client)
    → x.ids ≡ confirmed more ids → is_free x ≡ true
    → hand_outs a.policy x.id x.address ids more x.number x.buffer.waiting
    ≡ spell a dropped x (handed_over a.policy x)
confirmed_row a dropped ids more x knows is =
    outs_confirmed a.policy x.id x.address ids more x.number x.buffer.waiting
    ∙ (ap (λ known. hand_outs a.policy x.id x.address known 0 x.number x.buffer.waiting) (sym knows)
    ∙ free_row a dropped x is)

pub confirmed_moves : (a : Around) (ids : Ids) (more : ℕ) (x : Client) → x.ids ≡ confirmed more ids
    → is_free x ≡ true
    → handed_by a.clock (hand_plan a.policy x.id ids more 0 x.buffer.waiting) x ≡ served a x
confirmed_moves a ids more x knows is =
    ap (λ h. handed_by a.clock h x)
    (plan_confirmed a.policy x.id ids more 0 x.buffer.waiting
    ∙ ap (λ known. hand_plan a.policy x.id known 0 0 x.buffer.waiting) (sym knows))
    ∙ free_moves a x is

-- ---- once the client answered

pub answered_free : (clock more : ℕ) (x : Client) → takes_messages x.phase ≡ true
    → is_free (answered clock more x) ≡ true
answered_free clock more x takes = ap (λ b. b && true) takes

-- by a PUBACK, or by a REGACK that accepts an id
pub answered_row : (a : Around) (dropped : List Release) (more : ℕ) (x : Client)
    → takes_messages x.phase ≡ true
    → hand_outs a.policy x.id x.address x.ids more x.number (drop 0 x.buffer.waiting)
    ≡ spell a dropped (answered a.clock more x) (handed_over a.policy (answered a.clock more x))
answered_row a dropped more x takes =
    confirmed_row a dropped x.ids more (answered a.clock more x) refl (answered_free a.clock more x takes)

pub answered_moves : (a : Around) (more : ℕ) (x : Client) → takes_messages x.phase ≡ true
    → handed_by a.clock (hand_plan a.policy x.id x.ids more 0 (drop 0 x.buffer.waiting))
    (answered a.clock more x) ≡ served a (answered a.clock more x)
answered_moves a more x takes =
    confirmed_moves a x.ids more (answered a.clock more x) refl (answered_free a.clock more x takes)

-- by a REGACK that refuses the id: the front is settled, and the others are handed over
abbrev pub behind_front : ℕ → Client → Client
behind_front clock x = record x { heard = clock; buffer = settle x.buffer }

abbrev pub waits_behind : ℕ → Client → Client
waits_behind clock x =
    record x { heard = clock; buffer = record { waiting = drop 1 x.buffer.waiting; exchange = None } }

pub front_settled : (clock : ℕ) (x : Client) → awaits_ack x.buffer.exchange ≡ false
    → waits_behind clock x ≡ behind_front clock x
front_settled clock x is = rw is refl

pub refused_row : (a : Around) (dropped : List Release) (x : Client) → awaits_ack x.buffer.exchange ≡ false
    → takes_messages x.phase ≡ true
    → hand_outs a.policy x.id x.address x.ids 0 x.number (drop 1 x.buffer.waiting)
    ≡ spell a dropped (behind_front a.clock x) (handed_over a.policy (behind_front a.clock x))
refused_row a dropped x is takes =
    let y = waits_behind a.clock x in
    free_row a dropped y (ap (λ b. b && true) takes)
    ∙ ap (λ z. spell a dropped z (handed_over a.policy z)) (front_settled a.clock x is)

pub refused_moves : (a : Around) (x : Client) → awaits_ack x.buffer.exchange ≡ false
    → takes_messages x.phase ≡ true
    → handed_by a.clock (hand_plan a.policy x.id x.ids 0 1 (drop 1 x.buffer.waiting)) (answered a.clock 0 x)
    ≡ served a (behind_front a.clock x)
refused_moves a x is takes =
    let y = waits_behind a.clock x in
    settled_first a.clock a.policy x.id x.ids 0 0 (drop 1 x.buffer.waiting) (answered a.clock 0 x)
    ∙ (free_moves a y (ap (λ b. b && true) takes) ∙ ap (served a) (front_settled a.clock x is))

-- ---- what is gone

pub gone_row : (a : Around) (dropped : List Release) (client : List ℕ) (waiting : List Message) (x : Client)
    → gone_outs client waiting ≡ spell a dropped x (all_gone client waiting)
gone_row a dropped client [] x = refl
gone_row a dropped client (m ∷ more) x =
    let y : Client = record x { buffer = settle x.buffer } in
    ap (λ outs. Note (note.Hand client m.name (Denied (Peer Gone))) ∷ outs) (gone_row a dropped client more y)
