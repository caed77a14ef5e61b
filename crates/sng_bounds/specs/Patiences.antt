-- When the broker is late.
use Rattle.std.specs.Prelude.{ℕ, ◌+◌, ◌*◌, min, nat_le, Bool, false, Option, Some, None, if◌then◌else◌}
use Rattle.std.specs.Duration.{as_nanos, max_nanos}
use Rattle.std.specs.declared.time.Duration.{Duration}
use Rattle.sng_bounds.specs.declared.patience.Patience.{Patience}
use Rattle.sng_bounds.specs.declared.patience.Late.{Late}
use Rattle.sng_bounds.specs.declared.patience.Late.TheVariants.{Acceptance, PingAnswer, Anything}

-- so many seconds later, in nanoseconds, or the longest time there is
abbrev pub after : Duration → ℕ → ℕ
after time seconds = min (as_nanos time + seconds * 1_000_000_000) max_nanos

-- the answer to a PINGREQ, where there is one, is awaited before anything else is
abbrev pub answer_is_first : Duration → Option Duration → Bool
answer_is_first heard None = false
answer_is_first heard (Some asked) = nat_le (after asked 20) (after heard 90)

abbrev pub accepted_nanos : Duration → Option Duration → ℕ
accepted_nanos heard None = after heard 90
accepted_nanos heard (Some asked) = min (after asked 20) (after heard 90)

-- until when something has to come, in nanoseconds
abbrev pub due_nanos : Patience → ℕ
due_nanos p = (if p.is_accepted then accepted_nanos p.heard p.asked else after p.begun 5)

-- what has to come by then
abbrev pub due_what : Patience → Late
due_what p =
    if p.is_accepted then (if answer_is_first p.heard p.asked then PingAnswer else Anything) else Acceptance
