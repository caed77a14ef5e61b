use Rattle.std.proofs.Common.{sym, ◌∙◌}
use Rattle.sng_metrics.specs.Counts.{came_sample, decision_sample, may_come}
use Rattle.sng_metrics.specs.Metrics.{name_of}
use Rattle.sng_metrics.specs.Pages.{sample_text, samples_text}
use Rattle.sng_metrics.specs.declared.metric.Metric.TheVariants as metric
use Rattle.sng_metrics.proofs.PageLemmas.{one_sample}
use Rattle.sng_metrics.proofs.PushLemmas.{pushed_as}
use Rattle.sng_metrics.proofs.counts.push_decision.Goals as goal

pub returns-then-may_come : goal.returns-then-may_come
returns-then-may_come c =
    let name = name_of metric.Decisions in
    let sample = came_sample c.args.tally.now c.args.kind c.args.outcome in
    pushed_as c.push_came.result c.args.text.now.items (sample_text name sample)
    (samples_text name (decision_sample c.args.tally.now c.args.kind c.args.outcome))
    c.push_came.new.text.items c.push_came.ensures
    (one_sample (may_come c.args.kind c.args.outcome) name sample
    (sym c.may_come.ensures ∙ c.if-may_come.true))
