use Rattle.std.proofs.Common.{◌+◌, ℕ, ◌≡◌, ◌<◌, ◌≤◌, true, false, not, List, sym, ap, ◌∙◌, arith}
use Rattle.sng_cover.specs.Candidates.{run, run_of, is_taken, fresh_level}
use Rattle.std.proofs.lemmas.Bool.{not_from_true, not_from_false}
use Rattle.sng_text.specs.declared.limits.TheConstants.{MAX_FILTER}
use Rattle.sng_cover.proofs.Least.{least_found, least_never}
use Rattle.sng_cover.proofs.runs.fresh_count.Goals as goal

found : (granted : List (List ℕ)) (count : ℕ) → 1 ≤ count → count < (MAX_FILTER + 1)
    → is_taken granted (run count) ≡ false
    → ((less : ℕ) → 1 ≤ less → less < count → is_taken granted (run less) ≡ true)
    → run count ≡ fresh_level granted
found granted count some below new taken =
    sym (ap run_of (least_found (λ (number : ℕ). not (is_taken granted (run number))) MAX_FILTER 1 count some
    (omega arith) (not_from_false (is_taken granted (run count)) new)
    (λ less from under. not_from_true (is_taken granted (run less)) (taken less from under))))

never : (granted : List (List ℕ))
    → ((less : ℕ) → 1 ≤ less → less < (MAX_FILTER + 1) → is_taken granted (run less) ≡ true)
    → run (MAX_FILTER + 1) ≡ fresh_level granted
never granted taken =
    sym (ap run_of (least_never (λ (number : ℕ). not (is_taken granted (run number))) MAX_FILTER 1
    (λ less from under. not_from_true (is_taken granted (run less)) (taken less from (omega arith)))))

pub returns-then-not-has-clause-value : goal.returns-then-not-has-clause-value
returns-then-not-has-clause-value c = λ granted are.
    let new : is_taken granted (run c.loop-count.count) ≡ false =
    sym (are c.loop-count.count c.loop-count.auto.count) ∙ (sym c.has.ensures ∙ c.if-not-has.true) in
    found granted c.loop-count.count c.loop-count.auto.count c.loop-count-test.true new
    (λ less from under. sym (are less from) ∙ c.loop-count.invariant less from under)

pub returns-clause-value : goal.returns-clause-value
returns-clause-value c = λ granted are.
    let past : (MAX_FILTER + 1) ≤ c.loop-count.count = c.loop-count-test.false in
    never granted (λ less from under. sym (are less from) ∙ c.loop-count.invariant less from (omega arith))
