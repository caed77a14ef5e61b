use Rattle.std.proofs.Common.{◌≡◌, ◌++◌}
use Rattle.sng_ids.proofs.table.IdTable.copy.Given as goal

abbrev pub invariant-loop-name : goal.invariant-loop-name
invariant-loop-name l = l.names.entries ++ l.rest ≡ l.self.ids
