use Rattle.std.proofs.Common.{◌≤◌, drop}
use Rattle.sng_turns.specs.Delivering.{AreWithin}
use Rattle.sng_turns.proofs.deliver.count_free.Given as goal

abbrev pub invariant-loop-holder : goal.invariant-loop-holder
invariant-loop-holder l = record {
  within : AreWithin l.sessions (drop l.holder-index l.holders);
  few : l.free ≤ l.holder-index;
}
