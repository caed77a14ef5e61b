-- When anything may be due with clients, by blocks of places (MQTT-SN 1.2, 6.11 and 6.13).
use Rattle.std.specs.Prelude.{ℕ, ◌/◌, ◌<◌, ◌≡◌, Bool, false, ◌||◌, List, get_or}
use Rattle.sng_history.specs.Clients.{Client}
use Rattle.sng_history.specs.Ticking.{is_overdue, is_repeating}
use Rattle.sng_sessions.specs.Places.{holds_at, is_place}
use Rattle.sng_sessions.specs.declared.dues.TheConstants.{BLOCK}

-- at this clock the client was silent for too long, or did not answer in time what is open with it
abbrev pub is_due : ℕ → Client → Bool
is_due clock x = is_overdue clock x || is_repeating clock x

-- the time of the block in which the place is, 0 where it has none
abbrev pub time_at : List ℕ → ℕ → ℕ
time_at times place = get_or times (place / BLOCK) 0

-- before the time of its block nothing is due with a client
abbrev pub Waits : List ℕ → List Client → Type 0
Waits times xs =
    (place clock : ℕ) → clock < time_at times place → holds_at (is_due clock) xs place ≡ false

-- nor with any other than the one at this place
abbrev pub WaitsBeside : ℕ → List ℕ → List Client → Type 0
WaitsBeside at times xs =
    (place clock : ℕ) → is_place at place ≡ false → clock < time_at times place
    → holds_at (is_due clock) xs place ≡ false
