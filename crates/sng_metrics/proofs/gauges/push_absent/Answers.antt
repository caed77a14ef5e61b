use Rattle.std.proofs.Common.{codes}
use Rattle.sng_metrics.specs.Gauges.{client_sample}
use Rattle.sng_metrics.specs.Metrics.{name_of}
use Rattle.sng_metrics.specs.Pages.{sample_text}
use Rattle.sng_metrics.specs.declared.metric.Metric.TheVariants as metric
use Rattle.sng_metrics.proofs.PushLemmas.{pushed_list}
use Rattle.sng_metrics.proofs.gauges.push_absent.Goals as goal

pub returns : goal.returns
returns c =
    let clients = c.args.clients.now in
    pushed_list c.push_client-3.result c.args.text.now.items
    (sample_text (name_of metric.Clients) (client_sample (codes "in_dialogue") clients.in_dialogue))
    c.push_client.new.text.items
    (sample_text (name_of metric.Clients) (client_sample (codes "disconnected") clients.disconnected))
    c.push_client-2.new.text.items
    (sample_text (name_of metric.Clients) (client_sample (codes "lost") clients.lost))
    c.push_client-3.new.text.items c.in_ok-push_client.ensures c.in_ok-push_client-2.ensures
    c.push_client-3.ensures
