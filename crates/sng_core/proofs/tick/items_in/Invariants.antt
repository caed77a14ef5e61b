use Rattle.std.proofs.Common.{◌≡◌, ◌≤◌, ◌+◌, drop}
use Rattle.sng_core.specs.Dues.{all_items}
use Rattle.sng_core.proofs.tick.items_in.Given as goal

abbrev pub invariant-loop-due : goal.invariant-loop-due
invariant-loop-due l = record {
  count : l.count + all_items (drop l.due-index l.dues) ≡ all_items l.dues;
  few : l.count ≤ l.due-index;
}
