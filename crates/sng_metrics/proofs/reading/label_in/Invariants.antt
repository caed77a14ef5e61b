use Rattle.std.proofs.Common.{◌≡◌, drop}
use Rattle.sng_metrics.specs.Readings.{label_in, texts}
use Rattle.sng_metrics.proofs.reading.label_in.Given as goal

abbrev pub invariant-loop-line : goal.invariant-loop-line
invariant-loop-line l =
    label_in (texts (drop l.line-index l.lines)) l.name l.labels ≡ label_in (texts l.lines) l.name l.labels
