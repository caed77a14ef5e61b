-- Whose subscription ends is where it was.
use Rattle.std.proofs.Common.{refl, sym, ap, ◌∙◌}
use Rattle.sng_history.specs.Clients.{is_here, without}
use Rattle.sng_sessions.specs.Places.{holds_at}
use Rattle.sng_sessions.proofs.Moves.{holds_at-kept}
use Rattle.sng_sessions.proofs.DueLemmas.{waits-moved}
use Rattle.sng_sessions.proofs.sessions.Sessions.end.Goals as goal

pub invariant_of-self : goal.invariant_of-self
invariant_of-self c = (
  λ from place. c.self.invariant.0 from place
      ∙ sym (ap (λ xs. holds_at (λ x. is_here x from) xs place) c.end_at.ensures.clients
      ∙ holds_at-kept (λ x. is_here x from) (without c.args.filter.now) (λ x. refl) _ c.args.place place),
  (c.end_at.ensures.kept, c.note_due.ensures),
)

pub note_due-requires : goal.note_due-requires
note_due-requires c =
    waits-moved c.self.inside.times.items (without c.args.filter.now) _ _ c.args.place
    c.end_at.ensures.clients c.self.invariant.1.1
