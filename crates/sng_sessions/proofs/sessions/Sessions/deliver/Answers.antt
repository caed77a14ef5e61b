-- The client is where it was, and holds what it held.
use Rattle.std.proofs.Common.{sym, ap, ◌∙◌}
use Rattle.sng_history.specs.Clients.{is_here}
use Rattle.sng_sessions.specs.Handed.{delivered}
use Rattle.sng_sessions.specs.Places.{holds_at}
use Rattle.sng_sessions.proofs.KeptLemmas.{keeps-kept}
use Rattle.sng_sessions.proofs.HandedLemmas.{here-kept, filters-kept, delivered-keeps}
use Rattle.sng_sessions.proofs.Moves.{holds_at-kept}
use Rattle.sng_sessions.proofs.DueLemmas.{waits-moved}
use Rattle.sng_sessions.proofs.sessions.Sessions.deliver.Goals as goal

pub invariant_of-self : goal.invariant_of-self
invariant_of-self c =
    let keeps = delivered-keeps c.args.clock c.args.message c.args.opens in (
      λ from place. c.self.invariant.0 from place
          ∙ sym (ap (λ xs. holds_at (λ x. is_here x from) xs place) c.deliver_at.ensures
          ∙ holds_at-kept (λ x. is_here x from) (delivered c.args.clock c.args.message c.args.opens)
          (here-kept keeps from) _ c.args.place place),
      (
        keeps-kept c.self.inside.standing (delivered c.args.clock c.args.message c.args.opens)
            (filters-kept keeps) _ _ c.args.place c.deliver_at.ensures c.self.invariant.1.0,
        c.note_due.ensures,
      ),
    )

pub note_due-requires : goal.note_due-requires
note_due-requires c =
    waits-moved c.self.inside.times.items (delivered c.args.clock c.args.message c.args.opens) _ _ c.args.place
    c.deliver_at.ensures c.self.invariant.1.1
