-- Who is told an id is where it was, and holds what it held.
use Rattle.std.proofs.Common.{refl, sym, ap, ◌∙◌, Some}
use Rattle.sng_book.specs.declared.outcome.Outcome.TheVariants.{Allowed}
use Rattle.sng_history.specs.Clients.{is_here}
use Rattle.sng_sessions.specs.Standing.{told_at}
use Rattle.sng_sessions.specs.Places.{holds_at}
use Rattle.sng_sessions.proofs.KeptLemmas.{keeps-kept}
use Rattle.sng_sessions.proofs.Moves.{holds_at-kept}
use Rattle.sng_sessions.proofs.DueLemmas.{waits-moved}
use Rattle.sng_sessions.proofs.sessions.Sessions.tell.Goals as goal

pub invariant_of-self : goal.invariant_of-self
invariant_of-self c = (
  λ from place. c.self.invariant.0 from place
      ∙ sym (ap (λ xs. holds_at (λ x. is_here x from) xs place) c.tell_at.ensures
      ∙ holds_at-kept (λ x. is_here x from) (told_at c.args.clock (Some c.args.name) Allowed)
      (λ x. refl) _ c.args.place place),
  (
    keeps-kept c.self.inside.standing (told_at c.args.clock (Some c.args.name) Allowed)
        (λ x. refl) _ _ c.args.place c.tell_at.ensures c.self.invariant.1.0,
    c.note_due.ensures,
  ),
)

pub note_due-requires : goal.note_due-requires
note_due-requires c =
    waits-moved c.self.inside.times.items (told_at c.args.clock (Some c.args.name) Allowed) _ _ c.args.place
    c.tell_at.ensures c.self.invariant.1.1
