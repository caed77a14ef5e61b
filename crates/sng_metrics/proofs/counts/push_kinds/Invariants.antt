use Rattle.std.proofs.Common.{◌≡◌, ◌++◌, drop}
use Rattle.sng_metrics.specs.Counts.{decision_samples}
use Rattle.sng_metrics.specs.Metrics.{name_of}
use Rattle.sng_metrics.specs.Pages.{samples_text}
use Rattle.sng_metrics.specs.declared.metric.Metric.TheVariants as metric
use Rattle.sng_metrics.proofs.counts.push_kinds.Given as goal

abbrev pub invariant-loop-kind : goal.invariant-loop-kind
invariant-loop-kind l =
    l.text.items
    ++ samples_text (name_of metric.Decisions) (decision_samples l.tally (drop l.kind-index l.kinds))
    ≡ l.fn.text.items ++ samples_text (name_of metric.Decisions) (decision_samples l.tally l.kinds)
