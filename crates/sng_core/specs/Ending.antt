-- What a tick lets out and leads to by which scopes end, with no notes: first what ends, and then what is due as
-- at any other tick, in the room that the ends leave. What is due looks at no filter.
use Rattle.std.specs.Prelude.{ℕ, Bool, List, ◌++◌}
use Rattle.sng_grants.specs.Ends.{in_force}
use Rattle.sng_grants.specs.declared.policy.Policy.{Policy}
use Rattle.sng_book.specs.declared.out.Out.{Out}
use Rattle.sng_history.specs.State.{State}
use Rattle.sng_history.specs.Ticking.{pinged}
use Rattle.sng_endings.specs.Replacing.{Moved, moved, all_next, all_outs, endings_from}
use Rattle.sng_endings.specs.declared.replacing.SubscriptionEnd.{SubscriptionEnd}
use Rattle.sng_link.specs.Rooms.{room_of}
use Rattle.sng_link.specs.declared.room.Room.{Room}
use Rattle.sng_core.specs.Dues.{dues_outs, dues_plan, dues_room, dues_clients, dues_link}
use Rattle.sng_core.specs.Dues.{ping_outs, ping_noted}

-- the clients and the link once what ends has ended
abbrev pub ended_of : State → Policy → Moved
ended_of s policy = all_next policy.limits (moved s.link s.clients) (endings_from policy 0 s.clients)

-- the room that the limits leave once these have ended
abbrev pub room_behind_ends : State → Policy → List SubscriptionEnd → Room
room_behind_ends s policy endings =
    room_of policy.limits (all_next policy.limits (moved s.link s.clients) endings).link

-- what is let out behind that, where a PINGREQ is due or is not
abbrev pub outs_behind : State → Policy → ℕ → List SubscriptionEnd → Bool → List Out
outs_behind s policy clock endings is_due =
    let room = room_behind_ends s policy endings in
    dues_outs policy clock room s.clients ++ ping_noted is_due (dues_room clock room s.clients)

abbrev pub ending_outs : State → ℕ → List Out
ending_outs s clock =
    let policy = in_force clock s.policy in
    let room = room_of policy.limits (ended_of s policy).link in
    all_outs policy.limits (moved s.link s.clients) (endings_from policy 0 s.clients)
    ++ (dues_outs policy clock room s.clients ++ ping_outs s clock (dues_room clock room s.clients))

abbrev pub ending_next : State → ℕ → State
ending_next s clock =
    let policy = in_force clock s.policy in
    let m = ended_of s policy in
    let plan = dues_plan policy clock (room_of policy.limits m.link) 0 s.clients in
    record s {
      policy = policy;
      clock = clock;
      link = pinged policy.limits s.up (dues_link policy.limits plan m.link) clock;
      clients = dues_clients clock plan m.clients;
    }
