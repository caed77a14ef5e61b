use Rattle.std.proofs.Common.{not, rules}
use Rattle.std.proofs.lemmas.Fn.{filter_same}
use Rattle.sng_broker.specs.Brokers.{is_same}
use Rattle.sng_broker.proofs.subscribing.end.Goals as goal

pub returns : goal.returns
returns c =
    filter_same _ (λ s. not (is_same c.args.conn c.args.text.now s)) _
    (λ x b f' k. search rules) _ _ c.retain.ensures.filtered
