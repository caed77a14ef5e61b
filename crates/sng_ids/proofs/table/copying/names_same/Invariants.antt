use Rattle.std.proofs.Common.{◌≡◌, ◌↔◌}
use Rattle.sng_ids.proofs.table.copying.names_same.Given as goal

abbrev pub invariant-loop-name : goal.invariant-loop-name
invariant-loop-name l = (l.fn.some ≡ l.fn.others) ↔ (l.some ≡ l.others)
