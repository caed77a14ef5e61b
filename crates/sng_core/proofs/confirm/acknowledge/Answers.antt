-- The answer has its turn, or not.
use Rattle.std.proofs.Common.{sym, ap, ◌∙◌}
use Rattle.std.specs.Prelude.{if◌then◌else◌}
use Rattle.sng_history.specs.Entering.{heard_at}
use Rattle.sng_sessions.specs.Standing.{client_at}
use Rattle.sng_core.specs.Confirming.{served_next, acknowledge_next}
use Rattle.sng_core.proofs.ConfirmLemmas.{moved-here}
use Rattle.sng_core.proofs.confirm.acknowledge.Goals as goal

pub returns-then-not-is_acknowledging-clause-next : goal.returns-then-not-is_acknowledging-clause-next
returns-then-not-is_acknowledging-clause-next c =
    let xs = c.args.sessions.now in
    let x = client_at xs c.args.place in
    c.in_ok-outs.ensures.next
    ∙ moved-here (heard_at c.args.clock)
    (acknowledge_next c.args.policy.now c.args.clock c.args.answer) xs c.args.place c.requires
    (sym (ap (λ b. if b then served_next c.args.policy.now c.args.clock 0 0 x else heard_at c.args.clock x)
    (sym c.is_acknowledging.ensures ∙ c.if-not-is_acknowledging.true)))

pub returns-clause-next : goal.returns-clause-next
returns-clause-next c =
    let xs = c.args.sessions.now in
    let x = client_at xs c.args.place in
    c.in_ok-outs-2.ensures.next
    ∙ moved-here (served_next c.args.policy.now c.args.clock 0 0)
    (acknowledge_next c.args.policy.now c.args.clock c.args.answer) xs c.args.place c.requires
    (sym (ap (λ b. if b then served_next c.args.policy.now c.args.clock 0 0 x else heard_at c.args.clock x)
    (sym c.is_acknowledging.ensures ∙ c.if-not-is_acknowledging.false)))
