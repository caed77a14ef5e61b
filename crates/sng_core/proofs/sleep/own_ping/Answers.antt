-- The client sleeps, or not.
use Rattle.std.proofs.Common.{sym, ap, ◌∙◌}
use Rattle.std.specs.Prelude.{if◌then◌else◌}
use Rattle.sng_states.specs.States.{is_asleep}
use Rattle.sng_history.specs.Entering.{heard_at}
use Rattle.sng_sessions.specs.Standing.{client_at}
use Rattle.sng_core.specs.Sleeping.{woken_next, own_ping_next}
use Rattle.sng_core.proofs.ConfirmLemmas.{moved-here}
use Rattle.sng_core.proofs.sleep.own_ping.Goals as goal

pub returns-then-is_asleep-clause-next : goal.returns-then-is_asleep-clause-next
returns-then-is_asleep-clause-next c =
    let xs = c.args.sessions.now in
    let x = client_at xs c.args.place in
    let policy = c.args.policy.now in
    let clock = c.args.clock in
    c.in_ok-outs.ensures.next
    ∙ moved-here (woken_next policy clock) (own_ping_next policy clock) xs c.args.place c.requires
    (sym (ap (λ b. if b then woken_next policy clock x else heard_at clock x)
    (sym (c.is_asleep.ensures ∙ ap is_asleep c.phase.ensures) ∙ c.if-is_asleep.true)))

pub returns-clause-next : goal.returns-clause-next
returns-clause-next c =
    let xs = c.args.sessions.now in
    let x = client_at xs c.args.place in
    let policy = c.args.policy.now in
    let clock = c.args.clock in
    c.in_ok-outs-2.ensures.next
    ∙ moved-here (heard_at clock) (own_ping_next policy clock) xs c.args.place c.requires
    (sym (ap (λ b. if b then woken_next policy clock x else heard_at clock x)
    (sym (c.is_asleep.ensures ∙ ap is_asleep c.phase.ensures) ∙ c.if-is_asleep.false)))
