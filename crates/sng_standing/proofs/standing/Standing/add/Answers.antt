use Rattle.std.proofs.Common.{OnOk, Some, sym, ap, subst, ◌∙◌}
use Rattle.std.proofs.lemmas.Result.{on_ok_weaker}
use Rattle.sng_text.specs.Levels.{levels_of}
use Rattle.sng_text.specs.Texts.{is_filter}
use Rattle.sng_standing.specs.Standing.{MovesAt}
use Rattle.sng_standing.proofs.Filters.{filters_after}
use Rattle.sng_standing.proofs.Moved.{moved_at, moved_levels}
use Rattle.sng_standing.proofs.standing.Standing.add.Goals as goal

pub invariant_of-self : goal.invariant_of-self
invariant_of-self c =
    filters_after c.add_at.result c.self.inside.root c.add_at.new.node c.args.client c.text.result.now
    (Some c.args.qos) c.self.invariant (ap is_filter c.text.ensures.value ∙ c.text.ensures.filter)
    c.add_at.ensures.ok c.add_at.ensures.err

pub returns-clause-ok : goal.returns-clause-ok
returns-clause-ok c =
    let root = c.self.inside.root in
    let new = c.add_at.new.node in
    let filter = c.args.filter.now in
    let now = Some c.args.qos in
    subst (λ old. OnOk c.add_at.result (MovesAt old new c.args.client filter now)) c.self.view_is
    (on_ok_weaker c.add_at.result
    (λ moves. moved_at root new c.args.client filter now
    (moved_levels root new c.args.client (levels_of c.text.result.now) (levels_of filter) now
    (ap levels_of (sym c.text.ensures.value)) moves)) c.add_at.ensures.ok)
