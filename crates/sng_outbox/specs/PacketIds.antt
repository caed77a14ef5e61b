-- Packet ids (MQTT 3.1.1, 2.3.1): 1 to 65,535, counted on past those in use.
use Rattle.std.specs.Prelude.{ℕ, ◌≡◌, ◌+◌, Bool, false, ◌==◌, List, [], ◌∷◌, length, get_or, set}
use Rattle.std.specs.Prelude.{if◌then◌else◌}
use Rattle.std.specs.List.{list_any}

-- it is this id
abbrev pub is_id : ℕ → ℕ → Bool
is_id packet_id used = used == packet_id

-- it is one of these ids
abbrev pub is_used : List ℕ → ℕ → Bool
is_used ids packet_id = list_any (is_id packet_id) ids

-- the packet id that follows: 0 is none
abbrev pub successor : ℕ → ℕ
successor packet_id = if packet_id == 65535 then 1 else packet_id + 1

-- counted on from this id while it is one of those in use, once for each of the turns at the most
abbrev pub counted_on : List ℕ → List ℕ → ℕ → ℕ
counted_on ids [] packet_id = packet_id
counted_on ids (turn ∷ turns) packet_id =
    if is_used ids packet_id then counted_on ids turns (successor packet_id) else packet_id

-- the id after the last one, counted on past the ids in use: there are as many turns as ids in use
abbrev pub next_id : List ℕ → ℕ → ℕ
next_id ids last = counted_on ids ids (successor last)

-- a mark for each number from 0 on, set where it is in use as a packet id, and the id that was given last
pub record Numbering : Type 0 where
  pub marks : List Bool
  pub last : ℕ

-- the number has a mark that is set
abbrev pub is_marked : List Bool → ℕ → Bool
is_marked marks packet_id = get_or marks packet_id false

-- just these ids are in use
pub record AreInUse (ids : List ℕ) (marks : List Bool) : Type 0 where
  pub whole : length marks ≡ 65536
  pub same : (packet_id : ℕ) → is_marked marks packet_id ≡ is_used ids packet_id

-- the numbering with this id in use or not
abbrev pub with_mark : Numbering → ℕ → Bool → Numbering
with_mark n packet_id mark = record n { marks = set n.marks packet_id mark }
