use Rattle.std.proofs.Common.{◌∷◌, None, is_some, sym, ap, ◌∙◌}
use Rattle.sng_text.specs.Levels.{levels_left}
use Rattle.sng_standing.proofs.Moved.{moved_levels}
use Rattle.sng_standing.proofs.Parts.{moves_child, moves_without, with_below}
use Rattle.sng_standing.proofs.ending.+end_at.Goals as goal

pub returns-then-is_idle-clause-moved : goal.returns-then-is_idle-clause-moved
returns-then-is_idle-clause-moved t c =
    let node = c.args.node.now in
    let level = c.split_level.result.0.now in
    let rest = levels_left c.split_level.result.1 in
    let next = c.end_at-stood.new.node in
    let there = c.in-Some-get_mut.ensures.value in
    let below = c.get_mut.follows.lender next in
    let left = c.remove-then-is_idle.new.self in
    moved_levels node (with_below (with_below node below) left) c.args.client (level ∷ rest)
    (levels_left c.args.path) None (ap levels_left c.in-Some.is ∙ c.split_level.ensures)
    (moves_without node c.in-Some-get_mut.child.now next below left c.args.client level rest None (sym there)
    ((c.get_mut.follows.holds next).3 (sym (ap is_some there))) c.end_at-stood.ensures.moved
    (sym c.if-is_idle.ensures) c.remove-then-is_idle.ensures.updates)

pub returns-else-is_idle-clause-moved : goal.returns-else-is_idle-clause-moved
returns-else-is_idle-clause-moved t c =
    let node = c.args.node.now in
    let level = c.split_level.result.0.now in
    let rest = levels_left c.split_level.result.1 in
    let next = c.end_at-stood.new.node in
    let there = c.in-Some-get_mut.ensures.value in
    let below = c.get_mut.follows.lender next in
    moved_levels node (with_below node below) c.args.client (level ∷ rest) (levels_left c.args.path) None
    (ap levels_left c.in-Some.is ∙ c.split_level.ensures)
    (moves_child node c.in-Some-get_mut.child.now next below c.args.client level rest None (sym there)
    ((c.get_mut.follows.holds next).3 (sym (ap is_some there))) c.end_at-stood.ensures.moved)
