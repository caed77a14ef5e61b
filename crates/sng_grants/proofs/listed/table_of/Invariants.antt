use Rattle.std.proofs.Common.{◌≡◌, ◌++◌}
use Rattle.sng_grants.proofs.listed.table_of.Given as goal

-- the table has what came, and the rest is to come
abbrev pub invariant-loop-key : goal.invariant-loop-key
invariant-loop-key g l = l.table.entries ++ l.key-iterator ≡ l.fn.entries.entries
