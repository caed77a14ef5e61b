-- What the clock of a gateway shows.
use Rattle.std.specs.Prelude.{ℕ, ◌+◌, ◌-◌, ◌/◌, ◌^◌, min, max}
use Rattle.std.specs.Duration.{as_nanos, max_nanos}
use Rattle.std.specs.declared.time.Duration.{Duration}
use Rattle.sng_bounds.specs.declared.unix_clock.UnixClock.{UnixClock}

-- the ns since 1970 began: what the wall clock showed at the start, and what passed since, up to the longest time
-- there is
abbrev pub nanos_at : UnixClock → Duration → ℕ
nanos_at clock now = min (as_nanos clock.wall + (as_nanos now - as_nanos clock.begun)) max_nanos

-- the whole ms, up to the greatest that a tick has
abbrev pub ms_at : UnixClock → Duration → ℕ
ms_at clock now = min (nanos_at clock now / 1000000) (2 ^ 64 - 1)

-- how many ns lie between this clock and a wall clock
abbrev pub nanos_off : UnixClock → Duration → Duration → ℕ
nanos_off clock now wall = max (nanos_at clock now) (as_nanos wall) - min (nanos_at clock now) (as_nanos wall)
