use Rattle.std.proofs.Common.{◌≡◌, drop}
use Rattle.sng_link.specs.Resending.{freed_all}
use Rattle.sng_link.proofs.again.free_all.Given as goal

abbrev pub invariant-loop-step : goal.invariant-loop-step
invariant-loop-step l = record {
  left : freed_all l.ids.marks (drop l.step-index l.log) ≡ freed_all l.fn.ids.marks l.log;
  last : l.ids.last ≡ l.fn.ids.last;
}
