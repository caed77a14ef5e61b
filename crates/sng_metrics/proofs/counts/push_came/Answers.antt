use Rattle.sng_metrics.specs.Counts.{came_sample}
use Rattle.sng_metrics.specs.Metrics.{name_of}
use Rattle.sng_metrics.specs.Pages.{sample_text}
use Rattle.sng_metrics.specs.declared.metric.Metric.TheVariants as metric
use Rattle.sng_metrics.proofs.PageLemmas.{came_line, sample_of}
use Rattle.sng_metrics.proofs.PushLemmas.{pushed_as}
use Rattle.sng_metrics.proofs.counts.push_came.Goals as goal

pub returns : goal.returns
returns c =
    let name = name_of metric.Decisions in
    let o = c.outcome_word.result.now in
    let k = c.word.result.now in
    let r = c.rule_word.result.now in
    pushed_as c.push_sample.result c.args.text.now.items
    (sample_text name (sample_of o k r c.decisions.result))
    (sample_text name (came_sample c.args.tally.now c.args.kind c.args.outcome))
    c.push_sample.new.text.items c.push_sample.ensures
    (came_line c.args.tally.now c.args.kind c.args.outcome name o k r c.decisions.result
    c.outcome_word.ensures c.word.ensures c.rule_word.ensures c.decisions.ensures)
