use Rattle.std.proofs.Common.{List, reverse, subst}
use Rattle.std.proofs.lemmas.List.{take_all}
use Rattle.sng_book.specs.declared.row.Row.{Row}
use Rattle.sng_laws.specs.LawsPolicies.{KeepFilters}
use Rattle.sng_laws.specs.Views.{last_policy, clock_at}
use Rattle.sng_promise.proofs.policies.books_have_filters.Goals as goal

pub returns : goal.returns
returns c =
    subst (λ (rows : List Row). KeepFilters (last_policy (reverse rows)))
    (take_all c.loop-row.row-index c.args.rows.now c.loop-row-test.false) c.loop-row.invariant
    (clock_at (reverse c.args.rows.now))
