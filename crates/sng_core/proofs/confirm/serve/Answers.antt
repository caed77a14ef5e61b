-- Three moves of the client are one, and the plan is that of the client at its place.
use Rattle.std.proofs.Common.{ap, ◌∙◌}
use Rattle.sng_history.specs.Clients.{drained}
use Rattle.sng_sessions.specs.Handed.{answered, handed_by}
use Rattle.sng_sessions.specs.Moving.{moved_at}
use Rattle.sng_sessions.specs.Standing.{client_at}
use Rattle.sng_sessions.proofs.MovedLists.{moved_at-twice}
use Rattle.sng_turns.specs.Serving.{more_by, first_by}
use Rattle.sng_core.specs.Confirming.{served_next}
use Rattle.sng_core.proofs.ConfirmLemmas.{moved-here}
use Rattle.sng_core.proofs.confirm.serve.Goals as goal

pub returns-clause-next : goal.returns-clause-next
returns-clause-next c =
    let xs = c.args.sessions.now in
    let place = c.args.place in
    let x = client_at xs place in
    let h = c.in_ok-handed.handed in
    let clock = c.args.clock in
    let more = more_by c.args.settled in
    c.change.ensures
    ∙ (ap (moved_at place drained) (c.hand.ensures
    ∙ (ap (moved_at place (handed_by clock h)) c.settle.ensures
    ∙ moved_at-twice (answered clock more) (handed_by clock h) place xs))
    ∙ (moved_at-twice (λ y. handed_by clock h (answered clock more y)) drained place xs
    ∙ moved-here (λ y. drained (handed_by clock h (answered clock more y)))
    (served_next c.args.policy.now clock more (first_by c.args.settled)) xs place c.requires.place
    (ap (λ g. drained (handed_by clock g (answered clock more x))) c.in_ok-handed.ensures.plan)))
