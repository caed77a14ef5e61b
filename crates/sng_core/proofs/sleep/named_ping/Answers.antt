-- It names its client, or another one.
use Rattle.std.proofs.Common.{sym, ap, ◌∙◌, Some}
use Rattle.std.specs.Prelude.{if◌then◌else◌}
use Rattle.std.specs.Str.{bytes_eq}
use Rattle.sng_history.specs.Entering.{heard_at}
use Rattle.sng_sessions.specs.Standing.{client_at}
use Rattle.sng_core.specs.Sleeping.{own_ping_next, ping_next}
use Rattle.sng_core.proofs.ConfirmLemmas.{moved-here}
use Rattle.sng_core.proofs.sleep.named_ping.Goals as goal

pub returns-then-eq-clause-next : goal.returns-then-eq-clause-next
returns-then-eq-clause-next c =
    let xs = c.args.sessions.now in
    let x = client_at xs c.args.place in
    let policy = c.args.policy.now in
    let clock = c.args.clock in
    c.in_ok-outs.ensures.next
    ∙ moved-here (own_ping_next policy clock)
    (ping_next policy clock (Some c.args.id.now)) xs c.args.place c.requires
    (sym (ap (λ b. if b then own_ping_next policy clock x else heard_at clock x)
    (sym (c.eq.ensures ∙ ap (bytes_eq c.args.id.now) c.id.ensures) ∙ c.if-eq.true)))

pub returns-clause-next : goal.returns-clause-next
returns-clause-next c =
    let xs = c.args.sessions.now in
    let x = client_at xs c.args.place in
    let policy = c.args.policy.now in
    let clock = c.args.clock in
    c.in_ok-outs-2.ensures.next
    ∙ moved-here (heard_at clock) (ping_next policy clock (Some c.args.id.now)) xs c.args.place c.requires
    (sym (ap (λ b. if b then own_ping_next policy clock x else heard_at clock x)
    (sym (c.eq.ensures ∙ ap (bytes_eq c.args.id.now) c.id.ensures) ∙ c.if-eq.false)))
