use Rattle.std.proofs.Common.{◌≡◌, ◌++◌, drop}
use Rattle.sng_metrics.specs.Pages.{escaped}
use Rattle.sng_metrics.proofs.sample.push_escaped.Given as goal

abbrev pub invariant-loop-byte : goal.invariant-loop-byte
invariant-loop-byte l =
    l.text.items ++ escaped (drop l.byte-index l.value) ≡ l.fn.text.items ++ escaped l.value
