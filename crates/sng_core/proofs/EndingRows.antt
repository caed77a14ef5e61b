-- The row and the next state of a tick by which scopes end, as code makes them: the row of the replacement by
-- what is left of the policy, and then that of the tick.
use Rattle.std.proofs.Common.{◌≡◌, ℕ, zero, suc, Bool, true, false, List, [], ◌∷◌, ◌++◌, refl, ap, ap₂, sym}
use Rattle.std.proofs.Common.{subst, ◌∙◌}
use Rattle.std.specs.Prelude.{if◌then◌else◌, Option, Some, None}
use Rattle.sng_grants.specs.Ends.{in_force, next_end}
use Rattle.sng_grants.specs.Limits.{Limits}
use Rattle.sng_grants.specs.Sources.{is_reached}
use Rattle.sng_grants.specs.declared.policy.Policy.{Policy}
use Rattle.sng_queue.specs.Messages.{Message}
use Rattle.sng_queue.specs.declared.kind.TopicIdKind.{TopicIdKind}
use Rattle.sng_queue.specs.declared.exchange.Exchange.{Exchange}
use Rattle.sng_queue.specs.declared.exchange.Exchange.TheVariants.{Announcing, Acknowledging}
use Rattle.sng_queue.specs.declared.exchange.Sending.{Sending}
use Rattle.sng_book.specs.declared.outcome.Outcome.{Outcome}
use Rattle.sng_book.specs.declared.outcome.Outcome.TheVariants.{Allowed, Denied}
use Rattle.sng_book.specs.declared.out.Out.{Out}
use Rattle.sng_history.specs.Books.{left, ends_by, tick_outs, tick_next}
use Rattle.sng_history.specs.Causes.{ByReplace, ByTick}
use Rattle.sng_history.specs.Clients.{Client, without}
use Rattle.sng_history.specs.Good.{Good}
use Rattle.sng_history.specs.Links.{Link}
use Rattle.sng_history.specs.Outgoing.{receive}
use Rattle.sng_history.specs.Standing.{is_held}
use Rattle.sng_history.specs.State.{State, later}
use Rattle.sng_history.specs.Steps.{outs_by, next_by}
use Rattle.sng_history.specs.Ticking.{is_repeating, is_lost_at, is_ping_due, pinged}
use Rattle.sng_history.proofs.GoodNext.{good_next}
use Rattle.sng_sessions.specs.Moving.{moved_at}
use Rattle.sng_endings.specs.Replacing.{Moved, moved, let_go, ended_next, all_next}
use Rattle.sng_endings.specs.Replacing.{endings_from}
use Rattle.sng_endings.specs.declared.replacing.SubscriptionEnd.{SubscriptionEnd}
use Rattle.sng_link.specs.Rooms.{room_of}
use Rattle.sng_link.specs.declared.room.Room.{Room}
use Rattle.sng_turns.specs.Again.{announced_by, announced_to, announced_outs, announced_comes}
use Rattle.sng_turns.specs.Again.{handed_outs_by, handed_to, exchange_outs, exchange_comes}
use Rattle.sng_turns.specs.declared.again.Retried.{Retried}
use Rattle.sng_core.specs.Dues.{due_outs, due_at, room_after, dues_outs, dues_plan, dues_room, dues_clients}
use Rattle.sng_core.specs.Dues.{dues_link, ping_outs, ping_noted, ticked_outs, ticked_next}
use Rattle.sng_core.specs.Ending.{ended_of, ending_outs, ending_next}
use Rattle.sng_core.specs.Losing.{lost_outs, loss_of}
use Rattle.sng_core.specs.declared.tick.Due.{Due}
use Rattle.sng_core.specs.declared.tick.Due.TheVariants.{Lost, Unanswered}
use Rattle.sng_core.proofs.DueLemmas.{dues_stay}
use Rattle.sng_core.proofs.Replacing.{replaced_outs, moved_by}
use Rattle.sng_core.proofs.TickRows.{tick_row}

-- ---- what is due looks at no filter

announced_same : (policy : Policy) (text : List ℕ) (x : Client) (sent : Sending) (m : Message) (o : Outcome)
    → announced_by policy (without text x) sent m o ≡ announced_by policy x sent m o
announced_same policy text x sent m Allowed = refl
announced_same policy text x sent m (Denied rule) = refl

announced_next : (policy : Policy) (text : List ℕ) (x : Client) (o : Outcome)
    → announced_to policy (without text x) o ≡ announced_to policy x o
announced_next policy text x Allowed = refl
announced_next policy text x (Denied rule) = refl

handed_same : (policy : Policy) (text : List ℕ) (x : Client) (sent : Sending) (k : TopicIdKind) (m : Message)
    (o : Outcome)
    → handed_outs_by policy (without text x) sent k m o ≡ handed_outs_by policy x sent k m o
handed_same policy text x sent k m Allowed = refl
handed_same policy text x sent k m (Denied rule) = refl

handed_next : (policy : Policy) (text : List ℕ) (x : Client) (o : Outcome)
    → handed_to policy (without text x) o ≡ handed_to policy x o
handed_next policy text x Allowed = refl
handed_next policy text x (Denied rule) = refl

front_same : (policy : Policy) (text : List ℕ) (x : Client) (sent : Sending) (waiting : List Message)
    → announced_outs policy (without text x) sent waiting ≡ announced_outs policy x sent waiting
front_same policy text x sent [] = refl
front_same policy text x sent (m ∷ waiting) =
    announced_same policy text x sent m (receive policy x.id m.name)

front_next : (policy : Policy) (text : List ℕ) (x : Client) (waiting : List Message)
    → announced_comes policy (without text x) waiting ≡ announced_comes policy x waiting
front_next policy text x [] = refl
front_next policy text x (m ∷ waiting) = announced_next policy text x (receive policy x.id m.name)

exchange_same : (policy : Policy) (text : List ℕ) (x : Client) (open_one : Option Exchange)
    → exchange_outs policy (without text x) open_one ≡ exchange_outs policy x open_one
exchange_same policy text x None = refl
exchange_same policy text x (Some (Announcing sent)) = front_same policy text x sent x.buffer.waiting
exchange_same policy text x (Some (Acknowledging sent k m)) =
    handed_same policy text x sent k m (receive policy x.id m.name)

exchange_next : (policy : Policy) (text : List ℕ) (x : Client) (open_one : Option Exchange)
    → exchange_comes policy (without text x) open_one ≡ exchange_comes policy x open_one
exchange_next policy text x None = refl
exchange_next policy text x (Some (Announcing sent)) = front_next policy text x x.buffer.waiting
exchange_next policy text x (Some (Acknowledging sent k m)) =
    handed_next policy text x (receive policy x.id m.name)

due_same : (policy : Policy) (clock : ℕ) (room : Room) (text : List ℕ) (x : Client)
    → due_outs policy clock room (without text x) ≡ due_outs policy clock room x
due_same policy clock room text x =
    ap (λ (outs : List Out). if is_lost_at clock x then lost_outs room x
    else (if is_repeating clock x then outs else []))
    (exchange_same policy text x x.buffer.exchange)

due_next : (policy : Policy) (clock : ℕ) (room : Room) (place : ℕ) (text : List ℕ) (x : Client)
    → due_at policy clock room place (without text x) ≡ due_at policy clock room place x
due_next policy clock room place text x =
    ap (λ (retried : Retried). if is_lost_at clock x then Lost (loss_of room place x) ∷ []
    else (if is_repeating clock x then Unanswered place retried ∷ [] else []))
    (exchange_next policy text x x.buffer.exchange)

-- ---- of all clients, once one filter has ended

outs_moved : (policy : Policy) (clock : ℕ) (room : Room) (text : List ℕ) (place : ℕ) (xs : List Client)
    → dues_outs policy clock room (moved_at place (without text) xs) ≡ dues_outs policy clock room xs
outs_moved policy clock room text place [] = refl
outs_moved policy clock room text zero (x ∷ xs) =
    ap (λ (outs : List Out). outs ++ dues_outs policy clock (room_after clock room x) xs)
    (due_same policy clock room text x)
outs_moved policy clock room text (suc place) (x ∷ xs) =
    ap (λ (outs : List Out). due_outs policy clock room x ++ outs)
    (outs_moved policy clock (room_after clock room x) text place xs)

plan_moved : (policy : Policy) (clock : ℕ) (room : Room) (first : ℕ) (text : List ℕ) (place : ℕ)
    (xs : List Client)
    → dues_plan policy clock room first (moved_at place (without text) xs)
    ≡ dues_plan policy clock room first xs
plan_moved policy clock room first text place [] = refl
plan_moved policy clock room first text zero (x ∷ xs) =
    ap (λ (dues : List Due). dues ++ dues_plan policy clock (room_after clock room x) (suc first) xs)
    (due_next policy clock room first text x)
plan_moved policy clock room first text (suc place) (x ∷ xs) =
    ap (λ (dues : List Due). due_at policy clock room first x ++ dues)
    (plan_moved policy clock (room_after clock room x) (suc first) text place xs)

room_moved : (clock : ℕ) (room : Room) (text : List ℕ) (place : ℕ) (xs : List Client)
    → dues_room clock room (moved_at place (without text) xs) ≡ dues_room clock room xs
room_moved clock room text place [] = refl
room_moved clock room text zero (x ∷ xs) = refl
room_moved clock room text (suc place) (x ∷ xs) =
    room_moved clock (room_after clock room x) text place xs

-- ---- once all have

outs_ended : (policy : Policy) (clock : ℕ) (room : Room) (m : Moved) (endings : List SubscriptionEnd)
    → dues_outs policy clock room (all_next policy.limits m endings).clients
    ≡ dues_outs policy clock room m.clients
outs_ended policy clock room m [] = refl
outs_ended policy clock room m (e ∷ endings) =
    outs_ended policy clock room (ended_next policy.limits m e) endings
    ∙ outs_moved policy clock room e.filter e.place m.clients

plan_ended : (policy : Policy) (clock : ℕ) (room : Room) (first : ℕ) (m : Moved)
    (endings : List SubscriptionEnd)
    → dues_plan policy clock room first (all_next policy.limits m endings).clients
    ≡ dues_plan policy clock room first m.clients
plan_ended policy clock room first m [] = refl
plan_ended policy clock room first m (e ∷ endings) =
    plan_ended policy clock room first (ended_next policy.limits m e) endings
    ∙ plan_moved policy clock room first e.filter e.place m.clients

room_ended : (limits : Limits) (clock : ℕ) (room : Room) (m : Moved) (endings : List SubscriptionEnd)
    → dues_room clock room (all_next limits m endings).clients ≡ dues_room clock room m.clients
room_ended limits clock room m [] = refl
room_ended limits clock room m (e ∷ endings) =
    room_ended limits clock room (ended_next limits m e) endings
    ∙ room_moved clock room e.filter e.place m.clients

-- nor is the broker pinged meanwhile
pinged_by : (limits : Limits) (link : Link) (text : List ℕ) (held : Bool)
    → (if held then link else let_go limits link text).pinged ≡ link.pinged
pinged_by limits link text true = refl
pinged_by limits link text false = refl

pinged_ended : (limits : Limits) (m : Moved) (endings : List SubscriptionEnd)
    → (all_next limits m endings).link.pinged ≡ m.link.pinged
pinged_ended limits m [] = refl
pinged_ended limits m (e ∷ endings) =
    pinged_ended limits (ended_next limits m e) endings
    ∙ pinged_by limits m.link e.filter (is_held (ended_next limits m e).clients e.filter)

-- so a PINGREQ is due behind all that ends and all that was due where it was before
pub due_behind : (limits : Limits) (up : Bool) (clock : ℕ) (at_first made behind after : Link)
    (clients then_clients : List Client) (endings : List SubscriptionEnd) (dues : List Due)
    → made ≡ at_first → moved behind then_clients ≡ all_next limits (moved made clients) endings
    → after ≡ dues_link limits dues behind → is_ping_due up at_first clock ≡ is_ping_due up after clock
due_behind limits up clock at_first made behind after clients then_clients endings dues same ends comes =
    let since : after.pinged ≡ at_first.pinged =
    ap (λ (l : Link). l.pinged) comes
    ∙ (dues_stay limits dues behind
    ∙ (ap (λ (m : Moved). m.link.pinged) ends
    ∙ (pinged_ended limits (moved made clients) endings ∙ ap (λ (l : Link). l.pinged) same))) in
    ap (λ (n : ℕ). is_ping_due up (record at_first { pinged = n }) clock) (sym since)

-- ---- the row

-- the state once what ends has ended
abbrev after_ends : State → Policy → State
after_ends s policy =
    let m = ended_of s policy in record s { policy = policy; link = m.link; clients = m.clients }

ends_made : (s : State) (policy : Policy) → Good s → after_ends s policy ≡ next_by s (ByReplace policy)
ends_made s policy good =
    let m = ended_of s policy in moved_by s policy policy m.link m.clients good refl refl

rest_outs : (s : State) (policy : Policy) (clock : ℕ)
    → (let room = room_of policy.limits (ended_of s policy).link in
    dues_outs policy clock room s.clients ++ ping_outs s clock (dues_room clock room s.clients))
    ≡ ticked_outs (after_ends s policy) clock
rest_outs s policy clock =
    let m : Moved = moved s.link s.clients in
    let endings = endings_from policy 0 s.clients in
    let limits = policy.limits in
    let room = room_of limits (all_next limits m endings).link in
    ap₂ (λ (some more : List Out). some ++ more) (sym (outs_ended policy clock room m endings))
    (ap₂ (λ (since : ℕ) (left_over : Room).
    ping_noted (is_ping_due s.up (record s.link { pinged = since }) clock) left_over)
    (sym (pinged_ended limits m endings)) (sym (room_ended limits clock room m endings)))

rest_next : (s : State) (clock : ℕ)
    → ending_next s clock ≡ ticked_next (after_ends s (in_force clock s.policy)) clock
rest_next s clock =
    let policy = in_force clock s.policy in
    let m : Moved = moved s.link s.clients in
    let endings = endings_from policy 0 s.clients in
    let limits = policy.limits in
    let n = all_next limits m endings in
    ap (λ (plan : List Due). let t : State = record s {
      policy = policy;
      clock = clock;
      link = pinged limits s.up (dues_link limits plan n.link) clock;
      clients = dues_clients clock plan n.clients;
    } in t)
    (sym (plan_ended policy clock (room_of limits n.link) 0 m endings))

pub ending_made : (s : State) (clock : ℕ) → Good s
    → (let now = later s.clock clock in
    let ended = next_by s (ByReplace (left s clock)) in
    (ending_outs s now ≡ outs_by s (ByReplace (left s clock)) ++ outs_by ended (ByTick clock))
    × (ending_next s now ≡ next_by ended (ByTick clock)))
ending_made s clock good =
    let now = later s.clock clock in
    let policy = left s clock in
    let same = ends_made s policy good in
    let good_after : Good (after_ends s policy) =
    subst Good (sym same) (good_next s (ByReplace policy) good) in
    let row = tick_row (after_ends s policy) clock good_after in (
      ap₂ (λ (some more : List Out). some ++ more) (replaced_outs s policy good)
          (rest_outs s policy now ∙ row.outs ∙ ap (λ (t : State). outs_by t (ByTick clock)) same),
      rest_next s now ∙ row.next ∙ ap (λ (t : State). next_by t (ByTick clock)) same,
    )

-- ---- the row of a tick, whether scopes end by it or not

ends_at : (s : State) (clock now : ℕ) (b : Bool) → now ≡ later s.clock clock
    → is_reached now (next_end s.policy) ≡ b → ends_by s clock ≡ b
ends_at s clock now b at is = subst (λ (n : ℕ). is_reached n (next_end s.policy) ≡ b) at is

pub ended_outs : (s : State) (clock now : ℕ) (outs : List Out) → Good s → now ≡ later s.clock clock
    → is_reached now (next_end s.policy) ≡ true → outs ≡ ending_outs s now → outs ≡ tick_outs s clock
ended_outs s clock now outs good at some is =
    let ends : ends_by s clock ≡ true = ends_at s clock now true at some in
    is ∙ ap (ending_outs s) at ∙ (ending_made s clock good).0 ∙ rw ends refl

pub ended_next_is : (s : State) (clock now : ℕ) (after : State) → Good s → now ≡ later s.clock clock
    → is_reached now (next_end s.policy) ≡ true → after ≡ ending_next s now → after ≡ tick_next s clock
ended_next_is s clock now after good at some is =
    let ends : ends_by s clock ≡ true = ends_at s clock now true at some in
    is ∙ ap (ending_next s) at ∙ (ending_made s clock good).1 ∙ rw ends refl

pub quiet_outs : (s : State) (clock now : ℕ) (outs : List Out) → Good s → now ≡ later s.clock clock
    → is_reached now (next_end s.policy) ≡ false → outs ≡ ticked_outs s now → outs ≡ tick_outs s clock
quiet_outs s clock now outs good at none is =
    let ends : ends_by s clock ≡ false = ends_at s clock now false at none in
    is ∙ ap (ticked_outs s) at ∙ (tick_row s clock good).outs ∙ rw ends refl

pub quiet_next : (s : State) (clock now : ℕ) (after : State) → Good s → now ≡ later s.clock clock
    → is_reached now (next_end s.policy) ≡ false → after ≡ ticked_next s now → after ≡ tick_next s clock
quiet_next s clock now after good at none is =
    let ends : ends_by s clock ≡ false = ends_at s clock now false at none in
    is ∙ ap (ticked_next s) at ∙ (tick_row s clock good).next ∙ rw ends refl
