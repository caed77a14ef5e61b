-- What a tick of the clock lets out for each client that is lost, in order.
use Rattle.std.proofs.Common.{◌≡◌, ℕ, Bool, true, false, List, [], ◌∷◌, ◌++◌, refl}
use Rattle.std.proofs.Common.{ap, sym, ◌∙◌, subst}
use Rattle.std.specs.Prelude.{if◌then◌else◌, Option, Some, None}
use Rattle.std.specs.List.{flat_map}
use Rattle.std.proofs.lemmas.List.{append-nil, append_assoc}
use Rattle.sng_grants.specs.Limits.{Limits}
use Rattle.sng_wills.specs.declared.will.Will.{Will}
use Rattle.sng_queue.specs.Messages.{Message}
use Rattle.sng_outbox.specs.declared.item.Item.TheVariants as item
use Rattle.sng_book.specs.Denials.{is_allowed}
use Rattle.sng_book.specs.declared.decision.Decision.{Decision}
use Rattle.sng_book.specs.declared.decision.Decision.TheVariants as note
use Rattle.sng_book.specs.declared.outcome.Denial.TheVariants.{Peer}
use Rattle.sng_book.specs.declared.outcome.PeerDenial.TheVariants.{Gone}
use Rattle.sng_book.specs.declared.outcome.Outcome.{Outcome}
use Rattle.sng_book.specs.declared.outcome.Outcome.TheVariants.{Allowed, Denied}
use Rattle.sng_book.specs.declared.out.Out.{Out}
use Rattle.sng_book.specs.declared.out.Out.TheVariants.{Note}
use Rattle.sng_history.specs.Causes.{ByTick}
use Rattle.sng_history.specs.Clients.{Client, Around, lost, note_by, notes_by}
use Rattle.sng_history.specs.Links.{Link}
use Rattle.sng_history.specs.Losing.{before, unplaced, will_dropped, lost_notes, again_notes, tick_notes}
use Rattle.sng_history.specs.Outgoing.{all_gone}
use Rattle.sng_history.specs.Room.{room_in}
use Rattle.sng_history.specs.State.{State, around}
use Rattle.sng_history.specs.Ticking.{is_lost_at, will_of, testament, testaments}
use Rattle.sng_history.specs.Ticking.{with_item, placed, all_placed}
use Rattle.sng_history.specs.Whole.{spell, drained_outs}
use Rattle.sng_history.specs.Good.{Each, AtRest, Distinct}
use Rattle.sng_history.proofs.TickRests.{lost_next}
use Rattle.sng_history.proofs.WillsPlaced.{placed_append}
use Rattle.sng_history.proofs.WillsPlaced.{before_is}
use Rattle.sng_history.proofs.WillsPlaced.{testaments_with}
use Rattle.sng_link.specs.Rooms.{room_of}
use Rattle.sng_turns.specs.HandingOver.{gone_outs}
use Rattle.sng_core.specs.Losing.{publication_of, turned_down, will_outs, kept_by, kept_will, room_behind}
use Rattle.sng_core.specs.Losing.{lost_outs, placed_if}
use Rattle.sng_core.specs.Dues.{again_outs, due_outs, room_after, dues_outs}
use Rattle.sng_core.proofs.RoomLemmas.{room_same, room_placed}
use Rattle.sng_core.proofs.AgainRows.{again_row}

-- ---- what one loss does to the link

-- the will that finds its place waits
will_by : (limits : Limits) (link : Link) (id : List ℕ) (will : Will) (o : Outcome)
    → room_in limits link will.qos ≡ o
    → placed_if limits link (kept_by id will o) ≡ placed limits link (publication_of id will)
will_by limits link id will Allowed is = refl
will_by limits link id will (Denied rule) is =
    sym (ap (λ o. if is_allowed o then with_item link (item.Publish (publication_of id will)) else link) is)

pub will_placed : (limits : Limits) (link : Link) (id : List ℕ) (will : Option Will)
    → placed_if limits link (kept_will (room_of limits link) id will)
    ≡ all_placed limits link (will_of id will)
will_placed limits link id None = refl
will_placed limits link id (Some will) =
    ap (λ o. placed_if limits link (kept_by id will o)) (sym (room_same limits link will.qos))
    ∙ will_by limits link id will (room_in limits link will.qos) refl

-- and the room is what is left then
will_room : (limits : Limits) (link : Link) (id : List ℕ) (will : Option Will)
    → room_of limits (all_placed limits link (will_of id will)) ≡ room_behind (room_of limits link) will
will_room limits link id None = refl
will_room limits link id (Some will) = room_placed limits link (publication_of id will)

after_by : (limits : Limits) (link : Link) (x : Client) (over : Bool)
    → room_of limits (all_placed limits link (if over then will_of x.id x.wills.will else []))
    ≡ (if over then room_behind (room_of limits link) x.wills.will else room_of limits link)
after_by limits link x true = will_room limits link x.id x.wills.will
after_by limits link x false = refl

pub after_room : (limits : Limits) (clock : ℕ) (link : Link) (x : Client)
    → room_of limits (all_placed limits link (testament clock x))
    ≡ room_after clock (room_of limits link) x
after_room limits clock link x = after_by limits link x (is_lost_at clock x)

-- ---- what is let out for one client

-- a will that finds no place is noted, whoever its client is by then
dropped_by : (a : Around) (id : List ℕ) (will : Will) (o : Outcome) (y : Client) (clock : ℕ)
    → a.cause ≡ ByTick clock
    → spell a [] y (unplaced id (publication_of id will) o) ≡ turned_down id will.topic o
dropped_by a id will Allowed y clock is = refl
dropped_by a id will (Denied rule) y clock is = rw is refl

dropped_spelled : (a : Around) (limits : Limits) (link : Link) (id : List ℕ) (will : Option Will) (y : Client)
    (clock : ℕ) → a.cause ≡ ByTick clock
    → spell a [] y (will_dropped limits link id (will_of id will)) ≡ will_outs (room_of limits link) id will
dropped_spelled a limits link id None y clock is = refl
dropped_spelled a limits link id (Some will) y clock is =
    dropped_by a id will (room_in limits link will.qos) y clock is
    ∙ ap (turned_down id will.topic) (room_same limits link will.qos)

-- what is gone comes before it
gone_then : (a : Around) (id : List ℕ) (waiting : List Message) (more : List Decision) (outs : List Out)
    (y : Client)
    → ((z : Client) → spell a [] z more ≡ outs)
    → spell a [] y (all_gone id waiting ++ more) ≡ gone_outs id waiting ++ outs
gone_then a id [] more outs y same = same y
gone_then a id (m ∷ waiting) more outs y same =
    ap (λ rest. Note (note.Hand id m.name (Denied (Peer Gone))) ∷ rest)
    (gone_then a id waiting more outs (note_by a (note.Hand id m.name (Denied (Peer Gone))) y) same)

lost_spelled : (a : Around) (limits : Limits) (link : Link) (x : Client) (clock : ℕ) → a.cause ≡ ByTick clock
    → spell a [] x (lost_notes limits link x) ≡ lost_outs (room_of limits link) x
lost_spelled a limits link x clock is =
    ap (λ rest. Note (note.Lost x.id) ∷ rest)
    (gone_then a x.id x.buffer.waiting (will_dropped limits link x.id (will_of x.id x.wills.will))
    (will_outs (room_of limits link) x.id x.wills.will) (lost x)
    (λ z. dropped_spelled a limits link x.id x.wills.will z clock is))

-- what is let out for a client, and behind it that nothing is left
abbrev spelled_by : Around → Client → List Decision → List Out
spelled_by a x notes = spell a [] x notes ++ drained_outs (notes_by a notes x)

due_by : (s : State) (tick clock : ℕ) (link : Link) (x : Client) (over : Bool) → AtRest x
    → (let a = around s (ByTick tick) in
    let limits = s.policy.limits in
    spelled_by a x (if over then lost_notes limits link x else again_notes s.policy clock x)
    ≡ (if over then lost_outs (room_of limits link) x else again_outs s.policy clock x))
due_by s tick clock link x true rest =
    let a = around s (ByTick tick) in
    let limits = s.policy.limits in
    (λ i. lost_spelled a limits link x tick refl i ++ drained_outs (lost_next s tick limits link x i))
    ∙ append-nil (lost_outs (room_of limits link) x)
due_by s tick clock link x false rest = sym (again_row (around s (ByTick tick)) clock x rest)

-- ---- all clients, in order

-- the link once the wills of those before are placed, and that of one more
more_placed : (limits : Limits) (link : Link) (clock : ℕ) (pre : List Client) (y : Client)
    → all_placed limits link (testaments clock (pre ++ y ∷ []))
    ≡ all_placed limits (all_placed limits link (testaments clock pre)) (testament clock y)
more_placed limits link clock pre y =
    ap (all_placed limits link) (testaments_with clock pre y)
    ∙ placed_append limits link (testaments clock pre) (testament clock y)

abbrev spelled_for : State → ℕ → Link → ℕ → List Client → Client → List Out
spelled_for s tick link clock all x =
    spelled_by (around s (ByTick tick)) x (tick_notes s.policy link clock all x)

pub rows_from : (s : State) (link : Link) (clock tick : ℕ) (pre ys all : List Client) → Each AtRest ys
    → Distinct all → all ≡ pre ++ ys
    → flat_map (spelled_for s tick link clock all) ys
    ≡ dues_outs s.policy clock
    (room_of s.policy.limits (all_placed s.policy.limits link (testaments clock pre))) ys
rows_from s link clock tick pre [] all rest apart parts = refl
rows_from s link clock tick pre (y ∷ ys) all rest apart parts =
    let a = around s (ByTick tick) in
    let limits = s.policy.limits in
    let l = all_placed limits link (testaments clock pre) in
    let here : before y.id all ≡ pre =
    ap (before y.id) parts ∙ before_is pre y ys (subst Distinct parts apart) in
    let first : spelled_for s tick link clock all y ≡ due_outs s.policy clock (room_of limits l) y =
    ap (λ xs. spelled_by a y (if is_lost_at clock y
    then lost_notes limits (all_placed limits link (testaments clock xs)) y
    else again_notes s.policy clock y)) here
    ∙ due_by s tick clock l y (is_lost_at clock y) rest.0 in
    let room : room_of limits (all_placed limits link (testaments clock (pre ++ y ∷ [])))
    ≡ room_after clock (room_of limits l) y =
    ap (room_of limits) (more_placed limits link clock pre y) ∙ after_room limits clock l y in
    let more =
    rows_from s link clock tick (pre ++ y ∷ []) ys all rest.1 apart
    (parts ∙ sym (append_assoc pre (y ∷ []) ys)) in
    λ i. first i ++ (more ∙ ap (λ r. dues_outs s.policy clock r ys) room) i
