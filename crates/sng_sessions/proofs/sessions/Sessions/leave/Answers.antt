-- Who leaves holds what it held.
use Rattle.std.proofs.Common.{refl}
use Rattle.sng_history.specs.Entering.{left_at}
use Rattle.sng_sessions.proofs.KeptLemmas.{keeps-kept}
use Rattle.sng_sessions.proofs.DueLemmas.{waits-moved}
use Rattle.sng_sessions.proofs.sessions.Sessions.leave.Goals as goal

pub invariant_of-self : goal.invariant_of-self
invariant_of-self c = (
  c.leave_at.ensures.indexed,
  (
    keeps-kept c.self.inside.standing (left_at c.args.clock)
        (λ x. refl) _ _ c.args.place c.leave_at.ensures.clients c.self.invariant.1.0,
    c.note_due.ensures,
  ),
)

pub note_due-requires : goal.note_due-requires
note_due-requires c =
    waits-moved c.self.inside.times.items (left_at c.args.clock) _ _ c.args.place
    c.leave_at.ensures.clients c.self.invariant.1.1
