-- How long a client may be silent (MQTT-SN 1.2, 5.4.4 and 6.11: Duration, in seconds).
use Rattle.std.specs.Prelude.{ℕ, ◌-◌, ◌*◌, Bool, ◌&&◌, nat_lt, nat_le}
use Rattle.sng_states.specs.declared.limits.TheConstants.{SILENCE_MS_PER_SECOND}

-- the silence that a Duration allows (MQTT 3.1.1, 3.1.2.10), in milliseconds
abbrev pub allowed_silence : ℕ → ℕ
allowed_silence duration = duration * SILENCE_MS_PER_SECOND

-- the client stated a Duration other than 0, and was silent for as long as that allows; a clock before the
-- last frame is no silence
abbrev pub overdue : ℕ → ℕ → ℕ → Bool
overdue duration heard clock = nat_lt 0 duration && nat_le (allowed_silence duration) (clock - heard)
