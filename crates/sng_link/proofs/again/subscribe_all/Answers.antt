use Rattle.std.proofs.Common.{◌∙◌}
use Rattle.sng_link.proofs.again.subscribe_all.Goals as goal

pub returns-clause-subscribed : goal.returns-clause-subscribed
returns-clause-subscribed c from first link stands =
    let done = c.in_ok-subscribe_each.ensures.subscribed from first link stands in
    (done.0, c.in_ok-pair.ensures ∙ done.1, done.2)
