use Rattle.std.proofs.Common.{not, rules, ap, ◌∙◌, ◌++◌, ◌∷◌, []}
use Rattle.std.proofs.lemmas.Fn.{filter_same}
use Rattle.sng_broker.specs.Brokers.{is_same}
use Rattle.sng_broker.proofs.subscribing.let_stand.Goals as goal

pub returns-clause-items : goal.returns-clause-items
returns-clause-items c =
    let left =
    filter_same _ (λ s. not (is_same c.args.one.conn c.args.one.filter s)) _
    (λ x b f' k. search rules) _ _ c.retain.ensures.filtered in
    c.push_reserved.ensures.items ∙ ap (λ l. l ++ c.args.one ∷ []) left
