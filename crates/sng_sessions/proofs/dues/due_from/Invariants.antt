use Rattle.std.proofs.Common.{◌≡◌, ◌<◌, ◌≤◌, ℕ, false}
use Rattle.sng_sessions.specs.Dues.{is_due}
use Rattle.sng_sessions.specs.Places.{clients_of, holds_at}
use Rattle.sng_sessions.proofs.dues.due_from.Given as goal

abbrev pub invariant-loop-place : goal.invariant-loop-place
invariant-loop-place l =
    (place clock : ℕ) → l.first ≤ place → place < l.place → clock < l.time
    → holds_at (is_due clock) (clients_of l.clients.entries) place ≡ false
