-- Each note of a message for a client stands under the policy in force: as its turn comes, and as it is gone,
-- refused, turned away or sent again.
use Rattle.std.proofs.Common.{◌≡◌, ℕ, Bool, true, false, List, [], ◌∷◌, ◌++◌, refl, sym, subst, if◌then◌else◌}
use Rattle.std.specs.Prelude.{◌==◌, not, nat_le, length, is_some, Option, Some, None}
use Rattle.sng_text.specs.declared.qos.Qos.{Qos}
use Rattle.sng_text.specs.declared.qos.Qos.TheVariants.{AtMostOnce, AtLeastOnce}
use Rattle.sng_grants.specs.Sources.{scope_of}
use Rattle.sng_grants.specs.declared.policy.Policy.{Policy}
use Rattle.sng_ids.specs.Ids.{Ids, is_full_for}
use Rattle.sng_queue.specs.Messages.{Message, is_sendable}
use Rattle.sng_queue.specs.Buffers.{Buffer, settle}
use Rattle.sng_queue.specs.declared.exchange.Exchange.{Exchange}
use Rattle.sng_queue.specs.declared.exchange.Exchange.TheVariants.{Announcing, Acknowledging}
use Rattle.sng_queue.specs.declared.limits.TheConstants.{MAX_QUEUED}
use Rattle.sng_frames.specs.declared.messages.acks.TopicAck.{TopicAck}
use Rattle.sng_book.specs.declared.decision.Decision.{Decision}
use Rattle.sng_book.specs.declared.outcome.Place.TheVariants as place
use Rattle.sng_book.specs.declared.outcome.Denial.{Denial}
use Rattle.sng_book.specs.declared.outcome.Denial.TheVariants.{Grant, Room}
use Rattle.sng_book.specs.declared.outcome.GrantDenial.TheVariants.{NoScope, MissingSub}
use Rattle.sng_book.specs.declared.outcome.RoomDenial.TheVariants.{Full, TooLong}
use Rattle.sng_book.specs.declared.outcome.Outcome.{Outcome}
use Rattle.sng_book.specs.declared.outcome.Outcome.TheVariants.{Allowed, Denied}
use Rattle.sng_history.specs.Arriving.{joins, turned_away_by, turned_away}
use Rattle.sng_history.specs.Handing.{known_as}
use Rattle.sng_history.specs.Clients.{Client, closed, confirmed_with}
use Rattle.sng_history.specs.Losing.{message_open, judged_again, message_again, exchange_again, again_notes}
use Rattle.sng_history.specs.Ticking.{is_repeating}
use Rattle.sng_history.specs.Outgoing.{receive, behind, offered, judged_turn, turns, is_free, handed_over}
use Rattle.sng_history.specs.Outgoing.{all_gone, refusals}
use Rattle.sng_history.specs.Outgoing.{delivered_notes}
use Rattle.sng_history.specs.Lawful.{confirmations}
use Rattle.sng_laws.specs.LawsRules.{judged}
use Rattle.sng_laws.specs.LawsRules.{may_receive, receive_rules, IsDenial}
use Rattle.sng_laws.specs.LawsPromise.{Stands}
use Rattle.sng_history.proofs.Hands.{Every, every_append, every_if}
use Rattle.sng_promise.proofs.Answers.LawRules.{receive_ruled}

-- ---- a message has its turn

-- what the policy says, by its two rules
abbrev AsDenied : Policy → List ℕ → List ℕ → Outcome → Type 0
AsDenied policy id name Allowed = Unit {0}
AsDenied policy id name (Denied rule) = IsDenial policy id name rule

denial_by : (policy : Policy) (id name : List ℕ) (unlisted unmatched : Bool)
    → judged (receive_rules policy id name)
    ≡ judged ((unlisted, Grant (NoScope id)) ∷ (unmatched, Grant (MissingSub name)) ∷ [])
    → AsDenied policy id name (judged ((unlisted, Grant (NoScope id))
    ∷ (unmatched, Grant (MissingSub name)) ∷ []))
denial_by policy id name true unmatched is = is
denial_by policy id name false true is = is
denial_by policy id name false false is = tt

denial_so : (policy : Policy) (id name : List ℕ) (rule : Denial)
    → judged (receive_rules policy id name) ≡ Denied rule
    → IsDenial policy id name rule
denial_so policy id name rule is =
    let scope = scope_of policy.clients id in
    subst (AsDenied policy id name) is
    (denial_by policy id name (not (is_some scope)) (not (may_receive scope name)) refl)

every_behind : (policy : Policy) (q : Qos) (more : List Decision) → Every (Stands policy) more
    → Every (Stands policy) (behind q more)
every_behind policy AtMostOnce more every = every
every_behind policy AtLeastOnce more every = tt

every_offered : (policy : Policy) (id : List ℕ) (m : Message) (known full : Bool) (more : List Decision)
    → judged (receive_rules policy id m.name) ≡ Allowed
    → Every (Stands policy) more → Every (Stands policy) (offered id m known full more)
every_offered policy id m true full more is every = (is, every_behind policy m.qos more every)
every_offered policy id m false true more is every = (is, every)
every_offered policy id m false false more is every = (is, tt)

every_judged : (policy : Policy) (id : List ℕ) (ids : Ids) (m : Message) (o : Outcome) (more : List Decision)
    → judged (receive_rules policy id m.name) ≡ o
    → Every (Stands policy) more → Every (Stands policy) (judged_turn policy id ids m o more)
every_judged policy id ids m Allowed more is every =
    every_offered policy id m (is_some (known_as policy ids m.name)) (is_full_for m.name ids) more is every
every_judged policy id ids m (Denied rule) more is every = (denial_so policy id m.name rule is, every)

every_turn : (policy : Policy) (id : List ℕ) (ids : Ids) (waiting : List Message)
    → Every (Stands policy) (turns policy id ids waiting)
every_turn policy id ids [] = tt
every_turn policy id ids (m ∷ more) =
    every_judged policy id ids m (receive policy id m.name) (turns policy id ids more)
    (sym (receive_ruled policy id m.name))
    (every_turn policy id ids more)

pub every_handed : (policy : Policy) (x : Client) → Every (Stands policy) (handed_over policy x)
every_handed policy x =
    every_if (Stands policy) (is_free x) (turns policy x.id x.ids x.buffer.waiting)
    (every_turn policy x.id x.ids x.buffer.waiting)

-- ---- what is gone, refused or turned away

pub every_gone : (policy : Policy) (id : List ℕ) (waiting : List Message)
    → Every (Stands policy) (all_gone id waiting)
every_gone policy id [] = tt
every_gone policy id (m ∷ more) = (tt, every_gone policy id more)

every_refusal : (policy : Policy) (id : List ℕ) (code : ℕ) (waiting : List Message)
    → Every (Stands policy) (refusals id code waiting)
every_refusal policy id code [] = tt
every_refusal policy id code (m ∷ more) = (tt, tt)

every_away : (policy : Policy) (id : List ℕ) (due : Option Message) (b : Buffer)
    → Every (Stands policy) (turned_away id due b)
every_away policy id None b = tt
every_away policy id (Some m) b =
    away_by (is_sendable m.name m.payload) (nat_le MAX_QUEUED (length b.waiting))
  where
    away_by : (sendable full : Bool)
        → Every (Stands policy)
        (turned_away_by id m.name (if sendable
        then (if full then Denied (Room (Full place.Queue)) else Allowed)
        else Denied (Room TooLong)))
    away_by true true = (tt, tt)
    away_by true false = tt
    away_by false full = (tt, tt)

pub every_delivered : (policy : Policy) (due : Option Message) (x : Client)
    → Every (Stands policy) (delivered_notes policy due x)
every_delivered policy due x =
    let y : Client = record x { buffer = joins due x.buffer } in
    every_append (Stands policy) (turned_away x.id due x.buffer) (handed_over policy y)
    (every_away policy x.id due x.buffer)
    (every_handed policy y)

-- ---- what answers an announcement

every_either : (policy : Policy) (b : Bool) (xs ys : List Decision) → Every (Stands policy) xs
    → Every (Stands policy) ys
    → Every (Stands policy) (if b then xs else ys)
every_either policy true xs ys one two = one
every_either policy false xs ys one two = two

pub every_confirmed : (policy : Policy) (r : TopicAck) (x : Client)
    → Every (Stands policy) (confirmations policy r x)
every_confirmed policy r x =
    let y : Client = record x { buffer = settle x.buffer } in
    every_either policy (r.code.0 == 0) (handed_over policy (confirmed_with r x))
    (refusals x.id r.code.0 x.buffer.waiting ++ handed_over policy y)
    (every_handed policy (confirmed_with r x))
    (every_append (Stands policy) (refusals x.id r.code.0 x.buffer.waiting) (handed_over policy y)
    (every_refusal policy x.id r.code.0 x.buffer.waiting) (every_handed policy y))

-- ---- what is sent again

every_again_by : (policy : Policy) (x : Client) (open_one : Exchange) (m : Message) (o : Outcome)
    → judged (receive_rules policy x.id m.name) ≡ o
    → Every (Stands policy) (judged_again policy x open_one m o)
every_again_by policy x open_one m Allowed is = (sym is, tt)
every_again_by policy x (Announcing sent) m (Denied rule) is =
    (denial_so policy x.id m.name rule is, every_handed policy (record x { buffer = settle x.buffer }))
every_again_by policy x (Acknowledging sent k one) m (Denied rule) is =
    (sym is, every_handed policy (closed x))

every_message : (policy : Policy) (x : Client) (open_one : Exchange) (m : Option Message)
    → Every (Stands policy) (message_again policy x open_one m)
every_message policy x open_one None = tt
every_message policy x open_one (Some m) =
    every_again_by policy x open_one m (receive policy x.id m.name) (sym (receive_ruled policy x.id m.name))

every_exchange : (policy : Policy) (x : Client) (open_one : Option Exchange)
    → Every (Stands policy) (exchange_again policy x open_one)
every_exchange policy x None = tt
every_exchange policy x (Some open_one) = every_message policy x open_one (message_open x.buffer open_one)

pub every_again : (policy : Policy) (clock : ℕ) (x : Client)
    → Every (Stands policy) (again_notes policy clock x)
every_again policy clock x =
    every_if (Stands policy) (is_repeating clock x) (exchange_again policy x x.buffer.exchange)
    (every_exchange policy x x.buffer.exchange)
