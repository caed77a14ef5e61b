use Rattle.std.proofs.Common.{◌≡◌, None, subst}
use Rattle.sng_standing.specs.Tree.{qos_at, qos_here}
use Rattle.sng_standing.specs.Standing.{IsHeldBeside}
use Rattle.sng_standing.proofs.Held.{beside_same, qos_at_none, qos_at_node}
use Rattle.sng_standing.proofs.standing.Standing.is_held_by_others.Goals as goal

pub returns-in-None : goal.returns-in-None
returns-in-None c = λ n differs.
    subst (λ root. qos_at root n c.args.filter.now ≡ None) c.self.view_is
    (qos_at_none c.self.inside.root c.text.result.now c.args.filter.now c.in-None.ensures
    c.text.ensures.value n)

pub returns-in-Some : goal.returns-in-Some
returns-in-Some c =
    subst
    (λ root. IsHeldBeside (λ n. qos_at root n c.args.filter.now) c.args.client c.is_held_by_others.result)
    c.self.view_is
    (beside_same (λ n. qos_at c.self.inside.root n c.args.filter.now) (qos_here c.in-Some.node.now)
    c.args.client c.is_held_by_others.result (qos_at_node c.self.inside.root c.in-Some.node.now
    c.text.result.now c.args.filter.now c.in-Some.ensures c.text.ensures.value) c.is_held_by_others.ensures)
