-- The row and the next state of a tick of the clock, as code makes them.
use Rattle.std.proofs.Common.{◌≡◌, ℕ, zero, suc, Bool, true, false, List, [], ◌∷◌, ◌++◌, map, length, refl}
use Rattle.std.proofs.Common.{ap, sym, ◌∙◌, arith}
use Rattle.std.specs.Prelude.{if◌then◌else◌, ◌&&◌}
use Rattle.std.proofs.lemmas.List.{append-nil, append_assoc, length-append}
use Rattle.sng_grants.specs.Limits.{Limits}
use Rattle.sng_grants.specs.declared.policy.Policy.{Policy}
use Rattle.sng_outbox.specs.declared.item.Item.TheVariants as item
use Rattle.sng_outbox.specs.declared.item.Publication.{Publication}
use Rattle.sng_book.specs.Denials.{is_allowed}
use Rattle.sng_book.specs.declared.decision.Decision.TheVariants as note
use Rattle.sng_book.specs.declared.outcome.Outcome.{Outcome}
use Rattle.sng_book.specs.declared.outcome.Outcome.TheVariants.{Allowed, Denied}
use Rattle.sng_book.specs.declared.out.Out.TheVariants.{Note}
use Rattle.sng_history.specs.Causes.{ByTick}
use Rattle.sng_history.specs.Clients.{Client, closed, lost, notes_by, drained}
use Rattle.sng_history.specs.Links.{Link}
use Rattle.sng_history.specs.Losing.{again_notes}
use Rattle.sng_history.specs.Packets.{has_place}
use Rattle.sng_history.specs.Room.{room_in}
use Rattle.sng_history.specs.State.{State, around, later}
use Rattle.sng_history.specs.Steps.{outs_by, client_next}
use Rattle.sng_history.specs.Ticking.{is_overdue, is_repeating, is_lost_at, will_of, testament, testaments}
use Rattle.sng_history.specs.Ticking.{with_item, placed, all_placed, with_wills, is_ping_due, pinged}
use Rattle.sng_history.specs.Ticking.{ping_dropped}
use Rattle.sng_history.specs.Good.{Each, AtRest, Good}
use Rattle.sng_history.proofs.TickRests.{tick_next}
use Rattle.sng_history.proofs.WillsPlaced.{placed_append}
use Rattle.sng_sessions.specs.Moving.{moved_at}
use Rattle.sng_link.specs.Rooms.{room_of}
use Rattle.sng_link.specs.declared.room.Room.{Room}
use Rattle.sng_core.specs.Losing.{loss_of}
use Rattle.sng_turns.specs.Again.{exchange_comes, retried_clients}
use Rattle.sng_core.specs.Dues.{again_at, room_after, dues_plan, dues_room}
use Rattle.sng_core.specs.Dues.{dues_clients, dues_link, ping_noted, ticked_outs, ticked_next}
use Rattle.sng_core.specs.declared.tick.Due.{Due}
use Rattle.sng_core.specs.declared.tick.Due.TheVariants.{Lost, Unanswered}
use Rattle.sng_turns.specs.declared.again.Retried.{Retried}
use Rattle.sng_turns.specs.declared.again.Retried.TheVariants.{Nothing, Sent, Over}
use Rattle.sng_core.proofs.RoomLemmas.{place_left}
use Rattle.sng_sessions.proofs.MovedLists.{moved_at-twice}
use Rattle.sng_sessions.specs.Handed.{handed_by}
use Rattle.sng_core.proofs.AgainRows.{carried, again_moves}
use Rattle.sng_core.proofs.Rows.{Makes, makes}
use Rattle.sng_core.proofs.TickLosses.{will_placed, after_room, rows_from}
use Rattle.sng_core.proofs.Found.{moved_behind}

-- ---- what is planned, carried out

again_link : (policy : Policy) (clock place : ℕ) (x : Client) (late : Bool) (link : Link) (more : List Due)
    → dues_link policy.limits
    ((if late then Unanswered place (exchange_comes policy x x.buffer.exchange) ∷ [] else []) ++ more) link
    ≡ dues_link policy.limits more link
again_link policy clock place x true link more = refl
again_link policy clock place x false link more = refl

link_by : (policy : Policy) (clock : ℕ) (link : Link) (place : ℕ) (x : Client) (over : Bool) (more : List Due)
    → (let limits = policy.limits in
    dues_link limits
    ((if over then Lost (loss_of (room_of limits link) place x) ∷ [] else again_at policy clock place x)
    ++ more) link
    ≡ dues_link limits more (all_placed limits link (if over then will_of x.id x.wills.will else [])))
link_by policy clock link place x true more =
    ap (dues_link policy.limits more) (will_placed policy.limits link x.id x.wills.will)
link_by policy clock link place x false more =
    again_link policy clock place x (is_repeating clock x) link more

plan_link : (policy : Policy) (clock : ℕ) (link : Link) (place : ℕ) (xs : List Client)
    → dues_link policy.limits (dues_plan policy clock (room_of policy.limits link) place xs) link
    ≡ with_wills policy.limits link clock xs
plan_link policy clock link place [] = refl
plan_link policy clock link place (x ∷ xs) =
    let limits = policy.limits in
    let l = all_placed limits link (testament clock x) in
    link_by policy clock link place x (is_lost_at clock x)
    (dues_plan policy clock (room_after clock (room_of limits link) x) (suc place) xs)
    ∙ (ap (λ r. dues_link limits (dues_plan policy clock r (suc place) xs) l)
    (sym (after_room limits clock link x))
    ∙ (plan_link policy clock l (suc place) xs
    ∙ sym (placed_append limits link (testament clock x) (testaments clock xs))))

plan_room : (limits : Limits) (clock : ℕ) (link : Link) (xs : List Client)
    → dues_room clock (room_of limits link) xs ≡ room_of limits (with_wills limits link clock xs)
plan_room limits clock link [] = refl
plan_room limits clock link (x ∷ xs) =
    let l = all_placed limits link (testament clock x) in
    ap (λ r. dues_room clock r xs) (sym (after_room limits clock link x))
    ∙ (plan_room limits clock l xs
    ∙ ap (room_of limits) (sym (placed_append limits link (testament clock x) (testaments clock xs))))

-- what comes of one client
abbrev due_next : Policy → ℕ → Client → Client
due_next policy clock x =
    if is_lost_at clock x
    then lost x
    else carried clock (if is_repeating clock x then exchange_comes policy x x.buffer.exchange else Nothing) x

moved_none : (xs : List Client) (place : ℕ) → moved_at place (λ y. y) xs ≡ xs
moved_none [] place = refl
moved_none (x ∷ xs) zero = refl
moved_none (x ∷ xs) (suc place) = ap (λ ys. x ∷ ys) (moved_none xs place)

-- its moves are one
carried_moves : (clock place : ℕ) (r : Retried) (xs : List Client)
    → retried_clients clock place r xs ≡ moved_at place (carried clock r) xs
carried_moves clock place Nothing xs = sym (moved_none xs place)
carried_moves clock place Sent xs = refl
carried_moves clock place (Over handed) xs =
    ap (moved_at place drained) (moved_at-twice closed (handed_by clock handed) place xs)
    ∙ moved_at-twice (λ y. handed_by clock handed (closed y)) drained place xs

again_clients : (policy : Policy) (clock : ℕ) (pre : List Client) (x : Client) (xs : List Client)
    (late : Bool) (more : List Due)
    → dues_clients clock ((if late
    then Unanswered (length pre) (exchange_comes policy x x.buffer.exchange) ∷ []
    else []) ++ more) (pre ++ x ∷ xs)
    ≡ dues_clients clock more (pre
    ++ carried clock (if late then exchange_comes policy x x.buffer.exchange else Nothing) x ∷ xs)
again_clients policy clock pre x xs true more =
    let r = exchange_comes policy x x.buffer.exchange in
    ap (dues_clients clock more) (carried_moves clock (length pre) r (pre ++ x ∷ xs)
    ∙ moved_behind (carried clock r) pre x xs)
again_clients policy clock pre x xs false more = refl

clients_by : (policy : Policy) (clock : ℕ) (room : Room) (pre : List Client) (x : Client) (xs : List Client)
    (over : Bool) (more : List Due)
    → (let next : Client = if over then lost x
    else carried clock (if is_repeating clock x then exchange_comes policy x x.buffer.exchange
    else Nothing) x in
    dues_clients clock ((if over then Lost (loss_of room (length pre) x) ∷ []
    else again_at policy clock (length pre) x) ++ more) (pre ++ x ∷ xs)
    ≡ dues_clients clock more (pre ++ next ∷ xs))
clients_by policy clock room pre x xs true more = ap (dues_clients clock more) (moved_behind lost pre x xs)
clients_by policy clock room pre x xs false more =
    again_clients policy clock pre x xs (is_repeating clock x) more

plan_clients : (policy : Policy) (clock : ℕ) (room : Room) (pre xs : List Client)
    → dues_clients clock (dues_plan policy clock room (length pre) xs) (pre ++ xs)
    ≡ pre ++ map (due_next policy clock) xs
plan_clients policy clock room pre [] = refl
plan_clients policy clock room pre (x ∷ xs) =
    let y = due_next policy clock x in
    let r = room_after clock room x in
    let next : suc (length pre) ≡ length (pre ++ y ∷ []) = sym (length-append pre (y ∷ []) ∙ (omega arith)) in
    clients_by policy clock room pre x xs (is_lost_at clock x)
    (dues_plan policy clock r (suc (length pre)) xs)
    ∙ (ap (λ n. dues_clients clock (dues_plan policy clock r n xs) (pre ++ y ∷ xs)) next
    ∙ (ap (dues_clients clock (dues_plan policy clock r (length (pre ++ y ∷ [])) xs))
    (sym (append_assoc pre (y ∷ []) xs))
    ∙ (plan_clients policy clock r (pre ++ y ∷ []) xs
    ∙ append_assoc pre (y ∷ []) (map (due_next policy clock) xs))))

-- each client comes to what the step makes of it
next_by_loss : (s : State) (tick clock : ℕ) (x : Client) (over : Bool) → is_lost_at clock x ≡ over
    → clock ≡ later s.clock tick → AtRest x
    → (let a = around s (ByTick tick) in
    (let y : Client = if over then lost x
    else carried clock (if is_repeating clock x then exchange_comes s.policy x x.buffer.exchange
    else Nothing) x in y)
    ≡ (if over then lost x else drained (notes_by a (again_notes s.policy clock x) x)))
next_by_loss s tick clock x true is now rest = refl
next_by_loss s tick clock x false is now rest =
    let a = around s (ByTick tick) in
    ap (λ n. carried n (if is_repeating clock x then exchange_comes s.policy x x.buffer.exchange else Nothing)
    x) now
    ∙ again_moves a clock x (is_overdue clock x) is rest

same_all : (s : State) (tick : ℕ) (xs : List Client) → Each AtRest xs
    → map (due_next s.policy (later s.clock tick)) xs ≡ map (client_next s (ByTick tick)) xs
same_all s tick [] rest = refl
same_all s tick (x ∷ xs) rest =
    let now = later s.clock tick in
    let first : due_next s.policy now x ≡ client_next s (ByTick tick) x =
    next_by_loss s tick now x (is_lost_at now x) refl refl rest.0 ∙ sym (tick_next s tick x) in
    λ i. first i ∷ same_all s tick xs rest.1 i

-- ---- the PINGREQ

placed_pinged : (link : Link) (p : Publication) (o : Outcome)
    → (if is_allowed o then with_item link (item.Publish p) else link).pinged ≡ link.pinged
placed_pinged link p Allowed = refl
placed_pinged link p (Denied rule) = refl

all_pinged : (limits : Limits) (link : Link) (ps : List Publication)
    → (all_placed limits link ps).pinged ≡ link.pinged
all_pinged limits link [] = refl
all_pinged limits link (p ∷ ps) =
    all_pinged limits (placed limits link p) ps ∙ placed_pinged link p (room_in limits link p.qos)

noted_by : (due place : Bool) → (if due && (if place then false else true) then Note note.Outbox ∷ [] else [])
    ≡ (if due then (if place then [] else Note note.Outbox ∷ []) else [])
noted_by true true = refl
noted_by true false = refl
noted_by false place = refl

due_same : (limits : Limits) (up : Bool) (link : Link) (clock : ℕ) (ps : List Publication)
    → is_ping_due up link clock ≡ is_ping_due up (all_placed limits link ps) clock
due_same limits up link clock ps =
    ap (λ since. is_ping_due up (record link { pinged = since }) clock) (sym (all_pinged limits link ps))

ping_same : (limits : Limits) (up : Bool) (link : Link) (clock : ℕ) (xs : List Client)
    → ping_noted (is_ping_due up link clock) (dues_room clock (room_of limits link) xs)
    ≡ ping_dropped limits up (with_wills limits link clock xs) clock
ping_same limits up link clock xs =
    let l = with_wills limits link clock xs in
    let due = is_ping_due up l clock in
    (λ i. ping_noted (due_same limits up link clock (testaments clock xs) i)
    (plan_room limits clock link xs i))
    ∙ (ap (λ none. if due && none then Note note.Outbox ∷ [] else []) (place_left limits l)
    ∙ noted_by due (has_place limits l))

-- ---- the row

abbrev at_clock : State → ℕ → Link → List Client → State
at_clock s clock link xs = record s { clock = clock; link = link; clients = xs }

tick_outs : (s : State) (clock : ℕ) → Good s → ticked_outs s (later s.clock clock) ≡ outs_by s (ByTick clock)
tick_outs s clock good =
    let now = later s.clock clock in
    let rows = rows_from s s.link now clock [] s.clients s.clients good.rest good.apart refl in
    λ i. sym rows i ++ ping_same s.policy.limits s.up s.link now s.clients i

tick_clients : (s : State) (clock : ℕ) → Good s
    → (ticked_next s (later s.clock clock)).clients ≡ map (client_next s (ByTick clock)) (s.clients ++ [])
tick_clients s clock good =
    let now = later s.clock clock in
    plan_clients s.policy now (room_of s.policy.limits s.link) [] s.clients
    ∙ (same_all s clock s.clients good.rest
    ∙ ap (map (client_next s (ByTick clock))) (sym (append-nil s.clients)))

pub tick_row : (s : State) (clock : ℕ) → Good s
    → Makes s (ByTick clock) (ticked_outs s (later s.clock clock)) (ticked_next s (later s.clock clock))
tick_row s clock good =
    let now = later s.clock clock in
    makes s (ByTick clock) (ticked_outs s now) (ticked_next s now) good (tick_outs s clock good)
    (λ i. at_clock s now (pinged s.policy.limits s.up (plan_link s.policy now s.link 0 s.clients i) now)
    (tick_clients s clock good i))
