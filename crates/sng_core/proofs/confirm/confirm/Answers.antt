-- The answer has its turn, or not.
use Rattle.std.proofs.Common.{sym, ap, ◌∙◌}
use Rattle.std.specs.Prelude.{if◌then◌else◌}
use Rattle.sng_history.specs.Entering.{heard_at}
use Rattle.sng_sessions.specs.Standing.{client_at}
use Rattle.sng_core.specs.Confirming.{confirming_next, confirm_next}
use Rattle.sng_core.proofs.ConfirmLemmas.{moved-here}
use Rattle.sng_core.proofs.confirm.confirm.Goals as goal

pub returns-then-not-is_confirming-clause-next : goal.returns-then-not-is_confirming-clause-next
returns-then-not-is_confirming-clause-next c =
    let xs = c.args.sessions.now in
    let x = client_at xs c.args.place in
    c.in_ok-outs.ensures.next
    ∙ moved-here (heard_at c.args.clock)
    (confirm_next c.args.policy.now c.args.clock c.args.answer) xs c.args.place c.requires
    (sym (ap (λ b. if b then confirming_next c.args.policy.now c.args.clock c.args.answer x
    else heard_at c.args.clock x) (sym c.is_confirming.ensures ∙ c.if-not-is_confirming.true)))

pub returns-clause-next : goal.returns-clause-next
returns-clause-next c =
    let xs = c.args.sessions.now in
    let x = client_at xs c.args.place in
    c.in_ok-outs-2.ensures.next
    ∙ moved-here (confirming_next c.args.policy.now c.args.clock c.args.answer)
    (confirm_next c.args.policy.now c.args.clock c.args.answer) xs c.args.place c.requires
    (sym (ap (λ b. if b then confirming_next c.args.policy.now c.args.clock c.args.answer x
    else heard_at c.args.clock x) (sym c.is_confirming.ensures ∙ c.if-not-is_confirming.false)))
