-- What is counted of addresses in a second.
use Rattle.std.specs.Prelude.{ℕ, ◌+◌, ◌*◌, ◌%◌, ◌==◌, if◌then◌else◌, List, slice_index_or}
use Rattle.std.specs.Int.{w32, from_be_bytes}
use Rattle.sng_book.specs.declared.address.Address.{Address}
use Rattle.sng_bounds.specs.declared.counts.Count.{Count}
use Rattle.sng_bounds.specs.declared.counts.TheConstants.{SLOTS}

-- where an address has its slot
abbrev pub slot_of : Address → ℕ
slot_of a = (from_be_bytes w32 a.ip * 65536 + a.port) % SLOTS

abbrev pub nothing_counted : Count
nothing_counted = record { second = 0; count = 0 }

-- what was counted in that second
abbrev pub count_at : Count → ℕ → ℕ
count_at c second = if c.second == second then c.count else 0

-- what is kept at the slot of the address
abbrev pub kept_in : List Count → Address → Count
kept_in counts a = slice_index_or counts (slot_of a) nothing_counted

-- what was counted in that second at the slot of the address
abbrev pub count_in : List Count → Address → ℕ → ℕ
count_in counts a second = count_at (kept_in counts a) second

-- until when nothing is sent to the address, in ms, by the ends at the slots
abbrev pub rest_of : List ℕ → Address → ℕ
rest_of ends a = slice_index_or ends (slot_of a) 0
