use Rattle.std.proofs.Common.{codes}
use Rattle.sng_metrics.specs.Tables.{counts_text, number_text}
use Rattle.sng_metrics.proofs.PushLemmas.{pushed_five}
use Rattle.sng_metrics.proofs.table.push_counts.Goals as goal

pub returns : goal.returns
unfolding counts_text
returns c =
    pushed_five c.push_figure-5.result c.args.text.now.items
    (number_text (codes "\nmessages waiting  ") c.args.traffic.now.messages_waiting)
    c.push_figure.new.text.items
    (number_text (codes "\nin flight         ") c.args.traffic.now.in_flight)
    c.push_figure-2.new.text.items
    (number_text (codes "\nrows              ") c.args.traffic.now.rows)
    c.push_figure-3.new.text.items
    (number_text (codes "\nrows waiting      ") c.args.traffic.now.rows_waiting)
    c.push_figure-4.new.text.items
    (number_text (codes "\ndenied            ") c.args.traffic.now.denied)
    c.push_figure-5.new.text.items c.in_ok-push_figure.ensures c.in_ok-push_figure-2.ensures
    c.in_ok-push_figure-3.ensures c.in_ok-push_figure-4.ensures c.push_figure-5.ensures
