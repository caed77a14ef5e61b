use Rattle.std.proofs.Common.{◌≡◌, take}
use Rattle.sng_states.proofs.open_ids.OpenIds.copy.Given as goal

abbrev pub invariant-loop-id : goal.invariant-loop-id
invariant-loop-id l = l.copies.items ≡ take l.id-index l.id-items
