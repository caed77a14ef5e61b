-- What a figure that is read, or is not, says of the lines.
use Rattle.std.proofs.Common.{ℕ, ◌≡◌, List, Result, Ok, Err, sym, inr}
use Rattle.std.specs.Prelude.{IfOk, IfErr}
use Rattle.sng_metrics.specs.Readings.{figure_in}
use Rattle.sng_metrics.specs.Summaries.{IsFaultIn}
use Rattle.sng_metrics.specs.declared.metric.Metric.{Metric}
use Rattle.sng_metrics.specs.declared.summary.SummaryFault.{SummaryFault}

pub figure_read : (r s : Result ℕ SummaryFault) → r ≡ s → IfOk r (λ number. s ≡ Ok number)
figure_read (Ok number) s same = sym same
figure_read (Err fault) s same = tt

pub figure_fault : (lines : List (List ℕ)) (metric : Metric) (labels : List ℕ) (r : Result ℕ SummaryFault)
    → r ≡ figure_in lines metric labels → IfErr r (IsFaultIn lines)
figure_fault lines metric labels (Ok number) same = tt
figure_fault lines metric labels (Err fault) same = inr (inr (metric, labels, sym same))
