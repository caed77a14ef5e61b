use Rattle.std.proofs.Common.{◌≡◌, ◌++◌, drop}
use Rattle.sng_metrics.specs.Pages.{more_labels, pairs}
use Rattle.sng_metrics.proofs.sample.push_more_labels.Given as goal

abbrev pub invariant-loop-label : goal.invariant-loop-label
invariant-loop-label l =
    l.text.items ++ more_labels (pairs (drop l.label-index l.labels))
    ≡ l.fn.text.items ++ more_labels (pairs l.labels)
