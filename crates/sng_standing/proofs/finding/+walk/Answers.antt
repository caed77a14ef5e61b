use Rattle.std.proofs.Common.{◌≡◌, ◌∷◌, [], ap, sym, ◌∙◌}
use Rattle.std.proofs.lemmas.Result.{on_ok_weaker}
use Rattle.sng_text.specs.Levels.{levels_left}
use Rattle.sng_standing.specs.Found.{best_of}
use Rattle.sng_standing.specs.Greatest.{joined, greatest_left, rest_here}
use Rattle.sng_standing.specs.declared.node.Node.{Node}
use Rattle.sng_standing.specs.Tree.{node_below, in_node}
use Rattle.sng_standing.proofs.Walked.{found_child, found_none, found_level}
use Rattle.sng_standing.proofs.finding.+walk.Goals as goal
use Rattle.sng_standing.proofs.finding.+walk.Goals.{in-Some-get+in_ok-walk, in_default-get}
use Rattle.sng_standing.proofs.finding.+walk.Goals.{in-Some-get-2+in_ok-walk-2, in_default-get-2}

pub returns : goal.returns
returns t c = on_ok_weaker c.take_rest.result (λ third n.
    let node = c.args.node.now in
    let level = c.split_level.result.0.now in
    let rest = levels_left c.split_level.result.1 in
    let below = λ (child : Node). greatest_left child n rest in
    let was = best_of c.args.found.now.items n in
    let first = best_of c.match-get.found.items n in
    let second = best_of c.match-get-2.found.items n in
    let own = in_node (node_below node level) below in
    let any = in_node (node_below node (43 ∷ [])) below in
    let first_is : first ≡ joined was own = elim c.match-get.branch [
      | in-Some-get+in_ok-walk w ↦
          ap (λ v. best_of v.items n) w.found-is
          ∙ found_child (node_below node level) w.in-Some-get.child.now below was _
          w.in-Some-get.ensures.value (w.in_ok-walk.ensures n)
      | in_default-get w ↦
          ap (λ v. best_of v.items n) w.found-is
          ∙ found_none (node_below node level) below was w.in_default-get.ensures.value
    ] in
    let plus = ap (node_below node) c.as_slice.ensures in
    let second_is : second ≡ joined first any = elim c.match-get-2.branch [
      | in-Some-get-2+in_ok-walk-2 w ↦
          ap (λ v. best_of v.items n) w.found-is
          ∙ found_child (node_below node (43 ∷ [])) w.in-Some-get-2.child.now below first _
          (w.in-Some-get-2.ensures.value ∙ plus) (w.in_ok-walk-2.ensures n)
      | in_default-get-2 w ↦
          ap (λ v. best_of v.items n) w.found-is
          ∙ found_none (node_below node (43 ∷ [])) below first (w.in_default-get-2.ensures.value ∙ plus)
    ] in
    let levels = ap levels_left c.in-Some.is ∙ c.split_level.ensures in
    found_level was first second _ own any (rest_here node n) first_is second_is (third n)
    ∙ ap (λ ls. joined was (greatest_left node n ls)) (sym levels)) c.take_rest.ensures
