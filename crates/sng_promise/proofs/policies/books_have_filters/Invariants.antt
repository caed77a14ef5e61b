use Rattle.std.proofs.Common.{reverse, take}
use Rattle.sng_laws.specs.LawsPolicies.{KeepFilters}
use Rattle.sng_laws.specs.Views.{last_policy}
use Rattle.sng_promise.proofs.policies.books_have_filters.Given as goal

abbrev pub invariant-loop-row : goal.invariant-loop-row
invariant-loop-row l = KeepFilters (last_policy (reverse (take l.row-index l.rows)))
