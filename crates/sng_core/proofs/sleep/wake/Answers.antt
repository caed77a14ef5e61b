-- Three moves of the client are one, and the plan is that of the client at its place.
use Rattle.std.proofs.Common.{ap, ◌∙◌}
use Rattle.sng_history.specs.Clients.{drained}
use Rattle.sng_sessions.specs.Handed.{handed_by}
use Rattle.sng_sessions.specs.Moving.{moved_at}
use Rattle.sng_sessions.specs.Sleeping.{woken}
use Rattle.sng_sessions.specs.Standing.{client_at}
use Rattle.sng_sessions.proofs.MovedLists.{moved_at-twice}
use Rattle.sng_core.specs.Sleeping.{woken_next}
use Rattle.sng_core.proofs.ConfirmLemmas.{moved-here}
use Rattle.sng_core.proofs.sleep.wake.Goals as goal

pub returns-clause-next : goal.returns-clause-next
returns-clause-next c =
    let xs = c.args.sessions.now in
    let place = c.args.place in
    let x = client_at xs place in
    let h = c.in_ok-handed.handed in
    let clock = c.args.clock in
    c.change-2.ensures
    ∙ (ap (moved_at place drained) (c.hand.ensures
    ∙ (ap (moved_at place (handed_by clock h)) c.change.ensures
    ∙ moved_at-twice (woken clock) (handed_by clock h) place xs))
    ∙ (moved_at-twice (λ y. handed_by clock h (woken clock y)) drained place xs
    ∙ moved-here (λ y. drained (handed_by clock h (woken clock y)))
    (woken_next c.args.policy.now clock) xs place c.requires
    (ap (λ g. drained (handed_by clock g (woken clock x))) c.in_ok-handed.ensures.plan)))
