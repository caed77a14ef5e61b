use Rattle.std.proofs.Common.{◌≡◌, ◌∙◌, sym, subst}
use Rattle.sng_standing.specs.Tree.{qos_at}
use Rattle.sng_standing.proofs.Held.{qos_at_none, qos_at_node}
use Rattle.sng_standing.proofs.standing.Standing.qos.Goals as goal

pub returns-in_err-node : goal.returns-in_err-node
returns-in_err-node c =
    subst (λ root. c.from_residual.result ≡ qos_at root c.args.client c.args.filter.now) c.self.view_is
    (c.from_residual.ensures
    ∙ sym (qos_at_none c.self.inside.root c.text.result.now c.args.filter.now c.in_err-node.ensures
    c.text.ensures.value c.args.client))

pub returns : goal.returns
returns c =
    subst (λ root. c.copied.result ≡ qos_at root c.args.client c.args.filter.now) c.self.view_is
    (c.copied.ensures ∙ c.get.ensures.value
    ∙ sym (qos_at_node c.self.inside.root c.in_ok-node.node.now c.text.result.now c.args.filter.now
    c.in_ok-node.ensures c.text.ensures.value c.args.client))
