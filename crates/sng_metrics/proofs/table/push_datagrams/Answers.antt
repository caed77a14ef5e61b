use Rattle.std.proofs.Common.{codes}
use Rattle.sng_metrics.specs.Tables.{datagrams_text, number_text}
use Rattle.sng_metrics.proofs.PushLemmas.{pushed_two}
use Rattle.sng_metrics.proofs.table.push_datagrams.Goals as goal

pub returns : goal.returns
unfolding datagrams_text
returns c =
    pushed_two c.push_figure-2.result c.args.text.now.items
    (number_text (codes "\ndatagrams         received ") c.args.traffic.now.received)
    c.push_figure.new.text.items (number_text (codes ", sent ") c.args.traffic.now.sent)
    c.push_figure-2.new.text.items c.in_ok-push_figure.ensures c.push_figure-2.ensures
