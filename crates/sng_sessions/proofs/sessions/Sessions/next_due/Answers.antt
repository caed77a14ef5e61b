-- Before the times of the blocks nothing is due.
use Rattle.std.proofs.Common.{◌≡◌, ◌<◌, false, subst, rules}
use Rattle.sng_sessions.specs.Dues.{is_due, time_at}
use Rattle.sng_sessions.specs.Places.{holds_at}
use Rattle.sng_sessions.proofs.sessions.Sessions.next_due.Goals as goal

pub returns-clause-quiet : goal.returns-clause-quiet
returns-clause-quiet c =
    let same : c.deref.result.now ≡ c.self.inside.times.items = search rules in
    λ other from before. subst (λ xs. holds_at (is_due c.args.clock) xs other ≡ false) c.self.view_is
    (c.self.invariant.1.1 other c.args.clock
    (subst (λ times. c.args.clock < time_at times other) same (c.next_due.ensures.quiet other from before)))
