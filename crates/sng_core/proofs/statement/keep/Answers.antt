-- Two moves of the client are one, and the plan is that of the client at its place.
use Rattle.std.proofs.Common.{ap, ◌∙◌}
use Rattle.sng_sessions.specs.Handed.{handed_by}
use Rattle.sng_sessions.specs.Moving.{moved_at}
use Rattle.sng_sessions.specs.Standing.{client_at}
use Rattle.sng_sessions.specs.Willing.{stating_at}
use Rattle.sng_sessions.proofs.MovedLists.{moved_at-twice}
use Rattle.sng_core.specs.Stating.{said, kept_next}
use Rattle.sng_core.proofs.ConfirmLemmas.{moved-here}
use Rattle.sng_core.proofs.statement.keep.Goals as goal

pub returns-clause-next : goal.returns-clause-next
returns-clause-next c =
    let xs = c.args.sessions.now in
    let place = c.args.place in
    let x = client_at xs place in
    let clock = c.args.clock in
    let h = c.in_ok-handed.handed in
    let done = c.stating.result in
    c.hand.ensures
    ∙ (ap (moved_at place (handed_by clock h)) c.state.ensures
    ∙ (moved_at-twice (stating_at clock done) (handed_by clock h) place xs
    ∙ moved-here (λ y. handed_by clock h (stating_at clock done y))
    (kept_next c.args.policy.now clock (said c.args.statement)) xs place c.requires.place
    (λ i. handed_by clock (c.in_ok-handed.ensures.plan i) (stating_at clock (c.stating.ensures i) x))))
