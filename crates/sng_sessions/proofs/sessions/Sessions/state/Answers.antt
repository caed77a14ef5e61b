-- The client is where it was, and holds what it held.
use Rattle.std.proofs.Common.{refl, sym, ap, ◌∙◌}
use Rattle.sng_history.specs.Clients.{is_here}
use Rattle.sng_sessions.specs.Places.{holds_at}
use Rattle.sng_sessions.specs.Willing.{stating_at}
use Rattle.sng_sessions.proofs.KeptLemmas.{keeps-kept}
use Rattle.sng_sessions.proofs.Moves.{holds_at-kept}
use Rattle.sng_sessions.proofs.WillLemmas.{stating-here}
use Rattle.sng_sessions.proofs.DueLemmas.{waits-moved}
use Rattle.sng_sessions.proofs.sessions.Sessions.state.Goals as goal

pub invariant_of-self : goal.invariant_of-self
invariant_of-self c = (
  λ from place. c.self.invariant.0 from place
      ∙ sym (ap (λ xs. holds_at (λ x. is_here x from) xs place) c.state_at.ensures
      ∙ holds_at-kept (λ x. is_here x from) (stating_at c.args.clock c.args.stating)
      (stating-here c.args.clock c.args.stating from) _ c.args.place place),
  (
    keeps-kept c.self.inside.standing (stating_at c.args.clock c.args.stating)
        (λ x. refl) _ _ c.args.place c.state_at.ensures c.self.invariant.1.0,
    c.note_due.ensures,
  ),
)

pub note_due-requires : goal.note_due-requires
note_due-requires c =
    waits-moved c.self.inside.times.items (stating_at c.args.clock c.args.stating) _ _ c.args.place
    c.state_at.ensures c.self.invariant.1.1
