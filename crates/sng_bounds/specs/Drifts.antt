-- When an operator is told that the wall clock is off the clock of the gateway.
use Rattle.std.specs.Prelude.{◌-◌, ◌&&◌, nat_le, nat_lt, Bool, true, Option, Some, None}
use Rattle.std.specs.Duration.{as_nanos}
use Rattle.std.specs.declared.time.Duration.{Duration}
use Rattle.sng_bounds.specs.declared.drift.Drift.{Drift}

-- nothing was told yet, or a minute has passed since
abbrev pub may_tell : Option Duration → Duration → Bool
may_tell None now = true
may_tell (Some last) now = nat_le 60000000000 (as_nanos now - as_nanos last)

-- it is more than 10 s off, and may be told
abbrev pub is_told : Drift → Duration → Duration → Bool
is_told drift now off = nat_lt 10000000000 (as_nanos off) && may_tell drift.last now
