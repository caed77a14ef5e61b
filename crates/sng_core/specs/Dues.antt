-- What a tick of the clock lets out and leads to, client by client, with no notes (MQTT-SN 1.2, 5.4.4, 6.3,
-- 6.11 and 6.13).
use Rattle.std.specs.Prelude.{ℕ, suc, ◌+◌, ◌==◌, ◌&&◌, Bool, List, [], ◌∷◌, ◌++◌, if◌then◌else◌, Option, Some}
use Rattle.std.specs.Prelude.{None}
use Rattle.sng_grants.specs.Limits.{Limits}
use Rattle.sng_grants.specs.declared.policy.Policy.{Policy}
use Rattle.sng_outbox.specs.declared.item.Publication.{Publication}
use Rattle.sng_book.specs.declared.decision.Decision.TheVariants as note
use Rattle.sng_book.specs.declared.out.Out.{Out}
use Rattle.sng_book.specs.declared.out.Out.TheVariants.{Note}
use Rattle.sng_history.specs.Clients.{Client}
use Rattle.sng_history.specs.Links.{Link}
use Rattle.sng_history.specs.State.{State}
use Rattle.sng_history.specs.Ticking.{is_repeating, is_lost_at, is_ping_due, pinged}
use Rattle.sng_link.specs.Rooms.{room_of}
use Rattle.sng_link.specs.declared.room.Room.{Room}
use Rattle.sng_core.specs.Losing.{room_behind, lost_outs, loss_of, lost_clients, lost_link}
use Rattle.sng_turns.specs.Again.{exchange_outs, exchange_comes, retried_clients}
use Rattle.sng_core.specs.declared.tick.Due.{Due}
use Rattle.sng_core.specs.declared.tick.Due.TheVariants.{Lost, Unanswered}

-- ---- one client

-- what is open with it was not answered in time, or was
abbrev pub again_outs : Policy → ℕ → Client → List Out
again_outs policy clock x = if is_repeating clock x then exchange_outs policy x x.buffer.exchange else []

abbrev pub again_at : Policy → ℕ → ℕ → Client → List Due
again_at policy clock place x =
    if is_repeating clock x then Unanswered place (exchange_comes policy x x.buffer.exchange) ∷ [] else []

-- what is due, where something is
abbrev pub due_list : Option Due → List Due
due_list None = []
due_list (Some due) = due ∷ []

-- it is lost, or not
abbrev pub due_outs : Policy → ℕ → Room → Client → List Out
due_outs policy clock room x = if is_lost_at clock x then lost_outs room x else again_outs policy clock x

abbrev pub due_at : Policy → ℕ → Room → ℕ → Client → List Due
due_at policy clock room place x =
    if is_lost_at clock x then Lost (loss_of room place x) ∷ [] else again_at policy clock place x

abbrev pub room_after : ℕ → Room → Client → Room
room_after clock room x = if is_lost_at clock x then room_behind room x.wills.will else room

-- ---- all of them, the first standing at this place

abbrev pub dues_outs : Policy → ℕ → Room → List Client → List Out
dues_outs policy clock room [] = []
dues_outs policy clock room (x ∷ xs) =
    due_outs policy clock room x ++ dues_outs policy clock (room_after clock room x) xs

abbrev pub dues_plan : Policy → ℕ → Room → ℕ → List Client → List Due
dues_plan policy clock room place [] = []
dues_plan policy clock room place (x ∷ xs) =
    due_at policy clock room place x ++ dues_plan policy clock (room_after clock room x) (suc place) xs

abbrev pub dues_room : ℕ → Room → List Client → Room
dues_room clock room [] = room
dues_room clock room (x ∷ xs) = dues_room clock (room_after clock room x) xs

-- ---- what is planned is carried out

abbrev pub due_clients : ℕ → List Client → Due → List Client
due_clients clock xs (Lost loss) = lost_clients xs loss
due_clients clock xs (Unanswered place retried) = retried_clients clock place retried xs

abbrev pub due_link : Limits → Link → Due → Link
due_link limits link (Lost loss) = lost_link limits link loss
due_link limits link (Unanswered place retried) = link

abbrev pub dues_clients : ℕ → List Due → List Client → List Client
dues_clients clock [] xs = xs
dues_clients clock (due ∷ dues) xs = dues_clients clock dues (due_clients clock xs due)

abbrev pub dues_link : Limits → List Due → Link → Link
dues_link limits [] link = link
dues_link limits (due ∷ dues) link = dues_link limits dues (due_link limits link due)

-- ---- how many items they bring to wait

-- one for a will that finds its place
abbrev pub wills_kept : Option Publication → ℕ
wills_kept None = 0
wills_kept (Some p) = 1

abbrev pub items_of : Due → ℕ
items_of (Lost loss) = wills_kept loss.will
items_of (Unanswered place retried) = 0

abbrev pub all_items : List Due → ℕ
all_items [] = 0
all_items (due ∷ dues) = items_of due + all_items dues

-- and one for a PINGREQ that is due
abbrev pub pings_due : Bool → ℕ
pings_due due = if due then 1 else 0

-- ---- the tick

abbrev pub ping_noted : Bool → Room → List Out
ping_noted due room = if due && (room.places == 0) then Note note.Outbox ∷ [] else []

abbrev pub ping_outs : State → ℕ → Room → List Out
ping_outs s clock room = ping_noted (is_ping_due s.up s.link clock) room

abbrev pub ticked_outs : State → ℕ → List Out
ticked_outs s clock =
    let room = room_of s.policy.limits s.link in
    dues_outs s.policy clock room s.clients ++ ping_outs s clock (dues_room clock room s.clients)

abbrev pub ticked_next : State → ℕ → State
ticked_next s clock =
    let plan = dues_plan s.policy clock (room_of s.policy.limits s.link) 0 s.clients in
    record s {
      clock = clock;
      link = pinged s.policy.limits s.up (dues_link s.policy.limits plan s.link) clock;
      clients = dues_clients clock plan s.clients;
    }
