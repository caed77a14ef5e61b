use Rattle.std.proofs.Common.{◌∷◌, Some, is_some, sym, ap, ◌∙◌}
use Rattle.std.proofs.lemmas.Result.{on_ok_weaker, on_err_weaker}
use Rattle.sng_text.specs.Levels.{levels_left}
use Rattle.sng_standing.proofs.Failures.{on_err}
use Rattle.sng_standing.proofs.Moved.{moved_levels}
use Rattle.sng_standing.proofs.Parts.{moves_back, moves_child, stays_back, stays_child, stays_here}
use Rattle.sng_standing.proofs.Parts.{with_below}
use Rattle.sng_standing.proofs.adding.+add_at.Goals as goal

pub returns-in_err-insert-clause-err : goal.returns-in_err-insert-clause-err
returns-in_err-insert-clause-err t c =
    on_err c.from_residual.result (stays_here c.args.node.now c.insert.new.self c.in_err-insert.ensures.err)

pub returns-in-Some-get_mut-clause-ok : goal.returns-in-Some-get_mut-clause-ok
returns-in-Some-get_mut-clause-ok t c =
    let node = c.args.node.now in
    let level = c.split_level.result.0.now in
    let rest = levels_left c.split_level.result.1 in
    let now = Some c.args.qos in
    let next = c.add_at.new.node in
    let there = c.in-Some-get_mut.ensures.value in
    let below = c.get_mut.follows.lender next in
    on_ok_weaker c.add_at.result
    (λ moves. moved_levels node (with_below node below) c.args.client (level ∷ rest)
    (levels_left c.args.path) now (ap levels_left c.in-Some.is ∙ c.split_level.ensures)
    (moves_child node c.in-Some-get_mut.child.now next below c.args.client level rest now (sym there)
    ((c.get_mut.follows.holds next).3 (sym (ap is_some there))) moves)) c.add_at.ensures.ok

pub returns-in-Some-get_mut-clause-err : goal.returns-in-Some-get_mut-clause-err
returns-in-Some-get_mut-clause-err t c =
    let level = c.split_level.result.0.now in
    let next = c.add_at.new.node in
    let there = c.in-Some-get_mut.ensures.value in
    let below = c.get_mut.follows.lender next in
    on_err_weaker c.add_at.result
    (λ same. stays_child c.args.node.now c.in-Some-get_mut.child.now next below level
    (sym there) ((c.get_mut.follows.holds next).3 (sym (ap is_some there))) same) c.add_at.ensures.err

pub returns-in_err-insert-2-clause-err : goal.returns-in_err-insert-2-clause-err
returns-in_err-insert-2-clause-err t c =
    on_err c.from_residual-in_err-insert-2.result
    (stays_back c.args.node.now c.get_mut.follows.lender-at-none c.insert-2.new.self
    c.get_mut.follows.holds-at-none c.in_err-insert-2.ensures.err)

pub returns-clause-ok : goal.returns-clause-ok
returns-clause-ok t c =
    let node = c.args.node.now in
    let level = c.split_level.result.0.now in
    let rest = levels_left c.split_level.result.1 in
    let back = c.get_mut.follows.lender-at-none in
    let below = c.insert-2.new.self in
    moved_levels node (with_below (with_below node back) below) c.args.client (level ∷ rest)
    (levels_left c.args.path) (Some c.args.qos) (ap levels_left c.in-Some.is ∙ c.split_level.ensures)
    (moves_back node c.in_ok-child.child back below c.args.client level c.in_ok-level.level.items rest
    c.args.qos c.get_mut.follows.holds-at-none (sym c.in_default-get_mut.ensures.value)
    c.in_ok-level.ensures.items c.in_ok-insert-2.ensures.updates c.in_ok-child.ensures)
