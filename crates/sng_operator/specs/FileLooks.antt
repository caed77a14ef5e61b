-- When a file that is looked at again and again is to be read.
use Rattle.std.specs.Prelude.{ℕ, ◌-◌, Bool, false, not, ◌&&◌, nat_eq, nat_le, Option, Some, None, if◌then◌else◌}
use Rattle.std.specs.Ordering.{int_eq}
use Rattle.sng_operator.specs.declared.file_look.FileTime.{FileTime}
use Rattle.sng_operator.specs.declared.file_look.FileState.{FileState}
use Rattle.sng_operator.specs.declared.file_look.Sighting.{Sighting}
use Rattle.sng_operator.specs.declared.file_look.TheConstants.{SETTLED_MS}

abbrev pub is_same_time : FileTime → FileTime → Bool
is_same_time a b = int_eq a.seconds b.seconds && int_eq a.nanoseconds b.nanoseconds

-- the file is in the same state: it is the same file, as long, and was changed last at the same time
abbrev pub is_same : FileState → FileState → Bool
is_same a b = nat_eq a.device b.device && (nat_eq a.inode b.inode && (nat_eq a.size b.size
    && (is_same_time a.modified b.modified && is_same_time a.changed b.changed)))

-- it was read last in this state
abbrev pub is_taken : Option FileState → FileState → Bool
is_taken (Some taken) state = is_same taken state
is_taken None state = false

-- the state in which it is seen now, and since when
abbrev pub sighting_at : Option Sighting → FileState → ℕ → Sighting
sighting_at (Some seen) state now =
    if is_same seen.state state then seen else record { state = state; since = now }
sighting_at None state now = record { state = state; since = now }

-- it is to be read: it was not read in this state, and has been in it for long enough
abbrev pub is_due : Option FileState → FileState → (since now : ℕ) → Bool
is_due taken state since now = not (is_taken taken state) && nat_le SETTLED_MS (now - since)
