use Rattle.std.proofs.Common.{◌≡◌, drop}
use Rattle.sng_metrics.specs.Metrics.{name_of}
use Rattle.sng_metrics.specs.Readings.{sum_onto, texts}
use Rattle.sng_metrics.specs.declared.reading.Sum.TheVariants.{Nothing}
use Rattle.sng_metrics.proofs.reading.figure_in.Given as goal

abbrev pub invariant-loop-line : goal.invariant-loop-line
invariant-loop-line l =
    sum_onto l.sum (name_of l.metric) l.labels (texts (drop l.line-index l.lines))
    ≡ sum_onto Nothing (name_of l.metric) l.labels (texts l.lines)
