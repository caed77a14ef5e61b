use Rattle.std.proofs.Common.{None, sym, ap, subst}
use Rattle.sng_text.specs.Levels.{levels_of}
use Rattle.sng_standing.specs.Standing.{MovesAt}
use Rattle.sng_standing.proofs.Moved.{moved_at, moved_levels}
use Rattle.sng_standing.proofs.standing.Standing.end.Goals as goal

pub returns-clause-rest : goal.returns-clause-rest
returns-clause-rest c =
    subst (λ root. MovesAt root c.end_at.new.node c.args.client c.args.filter.now None) c.self.view_is
    (moved_at c.self.inside.root c.end_at.new.node c.args.client c.args.filter.now None
    (moved_levels c.self.inside.root c.end_at.new.node c.args.client (levels_of c.text.result.now)
    (levels_of c.args.filter.now) None (ap levels_of (sym c.text.ensures.value)) c.end_at.ensures.moved))
