use Rattle.std.proofs.Common.{◌∷◌, ap, ◌∙◌}
use Rattle.sng_text.specs.Levels.{levels_left}
use Rattle.sng_standing.proofs.Moved.{idle_below, one_levels, one_of_idle}
use Rattle.sng_standing.proofs.Parts.{moves_branch, with_below}
use Rattle.sng_standing.proofs.adding.+branch.Goals as goal

pub returns : goal.returns
returns t c =
    let node = c.new-node.result in
    let level = c.split_level.result.0.now in
    let rest = levels_left c.split_level.result.1 in
    let below = c.insert-2.new.self in
    one_levels (with_below node below) c.args.client (level ∷ rest) (levels_left c.args.path) c.args.qos
    (ap levels_left c.in-Some.is ∙ c.split_level.ensures)
    (one_of_idle node (with_below node below) c.args.client (level ∷ rest) c.args.qos c.new-node.ensures
    (moves_branch node c.in_ok-child.child below c.args.client level c.in_ok-level.level.items rest c.args.qos
    (idle_below node c.new-node.ensures level) c.in_ok-level.ensures.items c.in_ok-insert-2.ensures.updates
    c.in_ok-child.ensures))
