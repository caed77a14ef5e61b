-- Who subscribes is where it was, and the two moves are one.
use Rattle.std.proofs.Common.{◌≡◌, false, refl, sym, ap, ◌∙◌, subst}
use Rattle.std.specs.Option.{ForSome}
use Rattle.sng_book.specs.declared.outcome.Outcome.TheVariants.{Allowed}
use Rattle.sng_fan.specs.Subscriptions.{is_full}
use Rattle.sng_history.specs.Clients.{is_here}
use Rattle.sng_ids.specs.Ids.{is_full_for}
use Rattle.sng_sessions.specs.Standing.{client_at, told_at, standing_at, subscribed_at}
use Rattle.sng_sessions.specs.Places.{clients_of, holds_at, moved_at}
use Rattle.sng_sessions.proofs.KeptLemmas.{keeps-kept}
use Rattle.sng_sessions.proofs.MovedLists.{ids-moved, moved_at-twice}
use Rattle.sng_sessions.proofs.Moves.{holds_at-kept}
use Rattle.sng_sessions.proofs.DueLemmas.{beside-moved, waits-moved}
use Rattle.sng_sessions.proofs.sessions.Sessions.subscribe.Goals as goal

pub stand_at-requires-clause-fits : goal.stand_at-requires-clause-fits
stand_at-requires-clause-fits c =
    subst (λ xs. is_full (client_at xs c.args.place).filters c.args.filter ≡ false)
    (sym c.self.view_is) c.requires.fits

pub tell_if-requires : goal.tell_if-requires
tell_if-requires c =
    let ids_are =
    ap (λ xs. (client_at xs c.args.place).ids) c.in_ok-stand_at.ensures.ok
    ∙ (ids-moved (standing_at c.args.filter c.args.qos) (λ x. refl)
    (clients_of c.self.inside.clients.entries) c.args.place
    ∙ ap (λ xs. (client_at xs c.args.place).ids) c.self.view_is) in
    subst (λ ids. ForSome c.args.name (λ n. is_full_for n ids ≡ false)) (sym ids_are) c.requires.names

pub invariant_of-self-2 : goal.invariant_of-self-2
invariant_of-self-2 c = (
  λ from place. c.self.invariant.0 from place
      ∙ sym (ap (λ xs. holds_at (λ x. is_here x from) xs place) c.tell_if.ensures
      ∙ holds_at-kept (λ x. is_here x from) (told_at c.args.clock c.args.name Allowed)
      (λ x. refl) _ c.args.place place
      ∙ ap (λ xs. holds_at (λ x. is_here x from) xs place) c.in_ok-stand_at.ensures.ok
      ∙ holds_at-kept (λ x. is_here x from) (standing_at c.args.filter c.args.qos)
      (λ x. refl) _ c.args.place place),
  (
    keeps-kept c.stand_at.new.standing (told_at c.args.clock c.args.name Allowed) (λ x. refl) _ _ c.args.place
        c.tell_if.ensures c.stand_at.ensures.kept,
    c.note_due.ensures,
  ),
)

pub note_due-requires : goal.note_due-requires
note_due-requires c =
    beside-moved c.self.inside.times.items (told_at c.args.clock c.args.name Allowed) _ _ c.args.place
    c.tell_if.ensures
    (waits-moved c.self.inside.times.items (standing_at c.args.filter c.args.qos) _ _ c.args.place
    c.in_ok-stand_at.ensures.ok c.self.invariant.1.1)

pub returns-clause-ok : goal.returns-clause-ok
returns-clause-ok c =
    c.tell_if.ensures
    ∙ ap (moved_at c.args.place (told_at c.args.clock c.args.name Allowed)) c.in_ok-stand_at.ensures.ok
    ∙ moved_at-twice (standing_at c.args.filter c.args.qos)
    (told_at c.args.clock c.args.name Allowed) c.args.place _
    ∙ ap (moved_at c.args.place (subscribed_at c.args.clock c.args.name c.args.filter c.args.qos))
    c.self.view_is
