-- Which datagrams are passed over in a flood.
use Rattle.std.specs.Prelude.{ℕ, ◌≡◌, ◌⊎◌, List, slice_index_or, Option, Some, None}
use Rattle.sng_book.specs.declared.address.Address.{Address}
use Rattle.sng_bounds.specs.Counts.{count_at, nothing_counted, slot_of}
use Rattle.sng_bounds.specs.declared.flood.Known.{Known}
use Rattle.sng_bounds.specs.declared.flood.Slot.{Slot}

abbrev pub nobody : Known
nobody = record { first = None; second = None; third = None; fourth = None }

abbrev pub IsKnown : Known → Address → Type 0
IsKnown k a = (k.first ≡ Some a) ⊎ (k.second ≡ Some a) ⊎ (k.third ≡ Some a) ⊎ (k.fourth ≡ Some a)

-- the address is known, and whoever was, but for the one that became known first where four others were
pub record Adds (old new : Known) (from : Address) : Type 0 where
  pub known : IsKnown new from
  pub others : (a : Address) → IsKnown old a → IsKnown new a ⊎ (old.fourth ≡ Some a)
  pub again : IsKnown old from → new ≡ old

-- nobody is known, and nothing was denied
abbrev pub nothing : Slot
nothing = record { known = nobody; denied = nothing_counted }

abbrev pub slot_in : List Slot → Address → Slot
slot_in slots a = slice_index_or slots (slot_of a) nothing

-- how many datagrams of strangers at the slot of the address were denied in that second
abbrev pub denied_at : List Slot → Address → ℕ → ℕ
denied_at slots a second = count_at (slot_in slots a).denied second

-- something was allowed that came from this address
abbrev pub Knows : List Slot → Address → Type 0
Knows slots a = IsKnown (slot_in slots a).known a
