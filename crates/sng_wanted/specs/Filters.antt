-- What moves the filters that are wanted.
use Rattle.std.specs.Prelude.{ℕ, ◌≡◌, ◌||◌, Bool, false, not, List, filter, map, Option, Some, None}
use Rattle.std.specs.Prelude.{if◌then◌else◌}
use Rattle.std.specs.List.{find, list_any}
use Rattle.std.specs.Option.{option_map}
use Rattle.sng_history.specs.Links.{Wanted, is_filter_of, is_open}

-- the filters that are wanted, and for how many there is room
pub record WantedRoom : Type 0 where
  pub wanted : List Wanted
  pub room : ℕ

-- the filter is wanted no more
abbrev pub without_wanted : List Wanted → List ℕ → List Wanted
without_wanted wanted text = filter (λ w. not (is_filter_of text w)) wanted

-- the open SUBSCRIBE with this packet id, where there is one, has this one instead, or none, and where this says
-- so one is owed
abbrev pub reopened : List Wanted → ℕ → Option ℕ → Bool → List Wanted
reopened wanted packet_id former owes =
    map (λ w. if is_open packet_id w then record w { open_id = former; owed = owes || w.owed } else w) wanted

-- no SUBSCRIBE of the filter is owed any more
abbrev pub forgiven : List Wanted → List ℕ → List Wanted
forgiven wanted text = map (λ w. if is_filter_of text w then record w { owed = false } else w) wanted

-- of a filter that may be wanted, the packet id of its open SUBSCRIBE, where it has one
abbrev pub id_in : Option Wanted → Option ℕ
id_in None = None
id_in (Some w) = w.open_id

-- and whether one is owed
abbrev pub owed_in : Option Wanted → Bool
owed_in None = false
owed_in (Some w) = w.owed

-- the packet id of the filter's open SUBSCRIBE
abbrev pub id_for : List Wanted → List ℕ → Option ℕ
id_for wanted text = id_in (find (is_filter_of text) wanted)

-- whether a SUBSCRIBE of the filter is owed
abbrev pub owed_for : List Wanted → List ℕ → Bool
owed_for wanted text = owed_in (find (is_filter_of text) wanted)

-- the first of those of which a SUBSCRIBE is owed
abbrev pub first_owed : List Wanted → Option (List ℕ)
first_owed wanted = option_map (λ w. w.filter) (find (λ w. w.owed) wanted)

-- no SUBSCRIBE is open with this packet id, where it is one
abbrev pub IsFree : List Wanted → Option ℕ → Type 0
IsFree wanted None = Unit {0}
IsFree wanted (Some packet_id) = list_any (is_open packet_id) wanted ≡ false
