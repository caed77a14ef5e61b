use Rattle.std.proofs.Common.{◌<◌, ◌≤◌, ◌-◌, ℕ}
use Rattle.sng_sessions.specs.Dues.{time_at}
use Rattle.sng_sessions.proofs.dues.next_due.Given as goal

abbrev pub invariant-loop-next : goal.invariant-loop-next
invariant-loop-next l = record {
  after : l.place ≤ l.next;
  quiet : (other : ℕ) → l.place ≤ other → other < l.next → l.clock < time_at l.times other;
}

abbrev pub decreases-loop-next : goal.decreases-loop-next
decreases-loop-next l = l.count - l.next
