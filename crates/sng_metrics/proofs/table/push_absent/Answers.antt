use Rattle.std.proofs.Common.{codes}
use Rattle.sng_metrics.specs.Tables.{absent_text, number_text}
use Rattle.sng_metrics.proofs.PushLemmas.{pushed_three}
use Rattle.sng_metrics.proofs.table.push_absent.Goals as goal

pub returns : goal.returns
unfolding absent_text
returns c =
    pushed_three c.push_figure-3.result c.args.text.now.items
    (number_text (codes ", in dialogue ") c.args.clients.now.in_dialogue)
    c.push_figure.new.text.items
    (number_text (codes ", disconnected ") c.args.clients.now.disconnected)
    c.push_figure-2.new.text.items (number_text (codes ", lost ") c.args.clients.now.lost)
    c.push_figure-3.new.text.items c.in_ok-push_figure.ensures c.in_ok-push_figure-2.ensures
    c.push_figure-3.ensures
