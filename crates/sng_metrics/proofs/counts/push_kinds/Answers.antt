use Rattle.std.proofs.Common.{rules, arith}
use Rattle.std.proofs.lemmas.Grind.{common_steps}
use Rattle.sng_metrics.proofs.PageLemmas.{kinds_more, kinds_step}
use Rattle.sng_metrics.proofs.counts.push_kinds.Goals as goal

pub loop-kind-preserved : goal.loop-kind-preserved
loop-kind-preserved c = first_of (search (rules, kinds_step), grind (arith, common_steps, kinds_more))
