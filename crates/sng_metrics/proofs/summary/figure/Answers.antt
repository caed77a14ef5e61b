use Rattle.sng_metrics.specs.Readings.{figure_in, texts}
use Rattle.sng_metrics.proofs.FaultLemmas.{figure_read, figure_fault}
use Rattle.sng_metrics.proofs.summary.figure.Goals as goal

pub returns-clause-read : goal.returns-clause-read
returns-clause-read c =
    figure_read c.figure_in.result
    (figure_in (texts c.args.lines.now) c.args.metric c.args.labels.now) c.figure_in.ensures

pub returns-clause-fault : goal.returns-clause-fault
returns-clause-fault c =
    figure_fault (texts c.args.lines.now) c.args.metric c.args.labels.now c.figure_in.result
    c.figure_in.ensures
