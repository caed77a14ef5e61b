use Rattle.std.proofs.Common.{◌≡◌, ℕ, List, ◌++◌, Option, Some, option_map, sym, append_assoc}
use Rattle.std.proofs.lemmas.Result.{IfOk-equal}
use Rattle.sng_questions.specs.Ends.{ending_scopes}
use Rattle.sng_questions.specs.Reports.{date_text, ends_text, first_end_text}
use Rattle.sng_grants.specs.Ends.{next_end}
use Rattle.sng_questions.proofs.report.push_first_end.Goals as goal

-- what stands behind the line, and the date behind it, is all that is told of ends
joined : (line shown : List ℕ) (counted count first : ℕ) (end : Option ℕ) (date : Option (List ℕ))
    → counted ≡ count → end ≡ Some first → shown ≡ line ++ ends_text counted first
    → shown ++ date_text date ≡ line ++ first_end_text count end date
joined line shown counted count first end date same some made =
    rw (some, made, same) (append_assoc line (ends_text count first) (date_text date))

pub returns-in_ok-push_ends-in-Some : goal.returns-in_ok-push_ends-in-Some
returns-in_ok-push_ends-in-Some c =
    IfOk-equal _ _ _ _ c.push_date.ensures
    (joined c.args.line.now.items c.push_ends.new.line.items c.ending_scopes.result
    (ending_scopes c.args.policy.now) c.in-Some.first (next_end c.args.policy.now)
    (option_map (λ date. date.bytes) c.args.date) c.ending_scopes.ensures (sym c.in-Some.ensures)
    c.in_ok-push_ends-in-Some.ensures)
