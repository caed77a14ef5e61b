-- It has its turn, or not.
use Rattle.std.proofs.Common.{sym, ap, ◌∙◌}
use Rattle.std.specs.Prelude.{if◌then◌else◌}
use Rattle.sng_history.specs.Entering.{heard_at}
use Rattle.sng_sessions.specs.Standing.{client_at}
use Rattle.sng_core.specs.Stating.{said, statement_judged, following_next, statement_next}
use Rattle.sng_core.proofs.ConfirmLemmas.{moved-here}
use Rattle.sng_core.proofs.statement.state.Goals as goal

pub returns-then-not-has_turn-clause-next : goal.returns-then-not-has_turn-clause-next
returns-then-not-has_turn-clause-next c =
    let xs = c.args.sessions.now in
    let policy = c.args.policy.now in
    let clock = c.args.clock in
    let st = said c.args.statement in
    let x = client_at xs c.args.place in
    c.in_ok-outs.ensures.next
    ∙ moved-here (heard_at clock) (statement_next policy clock st) xs c.args.place c.requires
    (sym (ap (λ b. if b then following_next policy clock st (statement_judged policy st x).outcome x
    else heard_at clock x) (sym c.has_turn.ensures ∙ c.if-not-has_turn.true)))

pub returns-clause-next : goal.returns-clause-next
returns-clause-next c =
    let xs = c.args.sessions.now in
    let policy = c.args.policy.now in
    let clock = c.args.clock in
    let st = said c.args.statement in
    let x = client_at xs c.args.place in
    c.in_ok-outs-2.ensures.next
    ∙ moved-here (λ y. following_next policy clock st (statement_judged policy st y).outcome y)
    (statement_next policy clock st) xs c.args.place c.requires
    (sym (ap (λ b. if b then following_next policy clock st (statement_judged policy st x).outcome x
    else heard_at clock x) (sym c.has_turn.ensures ∙ c.if-not-has_turn.false)))
