use Rattle.std.proofs.Common.{◌≡◌, ◌++◌, drop}
use Rattle.sng_metrics.specs.Counts.{kind_samples}
use Rattle.sng_metrics.specs.Metrics.{name_of}
use Rattle.sng_metrics.specs.Pages.{samples_text}
use Rattle.sng_metrics.specs.declared.metric.Metric.TheVariants as metric
use Rattle.sng_metrics.proofs.counts.push_outcomes.Given as goal

abbrev pub invariant-loop-outcome : goal.invariant-loop-outcome
invariant-loop-outcome l =
    l.text.items
    ++ samples_text (name_of metric.Decisions)
    (kind_samples l.tally l.kind (drop l.outcome-index l.outcomes))
    ≡ l.fn.text.items
    ++ samples_text (name_of metric.Decisions) (kind_samples l.tally l.kind l.outcomes)
