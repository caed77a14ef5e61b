-- What holds of the policies that a book can hold.
use Rattle.std.specs.Prelude.{ℕ, List}
use Rattle.sng_grants.specs.Ends.{in_force}
use Rattle.sng_grants.specs.Sources.{scope_of}
use Rattle.sng_grants.specs.declared.policy.Policy.{Policy}
use Rattle.sng_policy.specs.Laws.{HasFilters}

-- for each client the filters with `sub` in its scope are topic filters, as the laws of subscriptions suppose
abbrev pub HaveFilters : Policy → Type 0
HaveFilters policy = (id : List ℕ) → HasFilters (scope_of policy.clients id)

-- so it is of what is in force of it at each clock
abbrev pub KeepFilters : Policy → Type 0
KeepFilters policy = (clock : ℕ) → HaveFilters (in_force clock policy)
