-- It is allowed, or denied.
use Rattle.std.proofs.Common.{◌≡◌, true, false, sym, ap, ◌∙◌}
use Rattle.sng_book.specs.Denials.{is_allowed}
use Rattle.sng_sessions.specs.Standing.{client_at}
use Rattle.sng_core.specs.Stating.{said, statement_judged, kept_next, refused_next, following_next}
use Rattle.sng_core.proofs.ConfirmLemmas.{moved-here}
use Rattle.sng_core.proofs.StatingLemmas.{kept-follows, refused-follows}
use Rattle.sng_core.proofs.statement.state_in_turn.Goals as goal

pub returns-in_ok-kept-clause-next : goal.returns-in_ok-kept-clause-next
returns-in_ok-kept-clause-next c =
    let xs = c.args.sessions.now in
    let policy = c.args.policy.now in
    let clock = c.args.clock in
    let st = said c.args.statement in
    let x = client_at xs c.args.place in
    let may : is_allowed (statement_judged policy st x).outcome ≡ true =
    ap (λ j. is_allowed j.outcome) (sym c.in_ok-judged.ensures)
    ∙ (sym c.in_ok-noted.ensures.allowed ∙ c.if-branch.true) in
    c.in_ok-kept.ensures.next
    ∙ moved-here (kept_next policy clock st)
    (λ y. following_next policy clock st (statement_judged policy st y).outcome y) xs c.args.place
    c.requires
    (kept-follows policy clock st (statement_judged policy st x).outcome x may)

pub returns-in_ok-refused-clause-next : goal.returns-in_ok-refused-clause-next
returns-in_ok-refused-clause-next c =
    let xs = c.args.sessions.now in
    let policy = c.args.policy.now in
    let clock = c.args.clock in
    let st = said c.args.statement in
    let x = client_at xs c.args.place in
    let may : is_allowed (statement_judged policy st x).outcome ≡ false =
    ap (λ j. is_allowed j.outcome) (sym c.in_ok-judged.ensures)
    ∙ (sym c.in_ok-noted.ensures.allowed ∙ c.if-branch.false) in
    c.in_ok-refused.ensures.next
    ∙ moved-here (refused_next clock st)
    (λ y. following_next policy clock st (statement_judged policy st y).outcome y) xs c.args.place
    c.requires
    (refused-follows policy clock st (statement_judged policy st x).outcome x may)
