-- The clients that the tree finds are those who hold a filter that matches.
use Rattle.std.proofs.Common.{ap, ◌∙◌}
use Rattle.std.proofs.lemmas.Result.{on_ok_weaker}
use Rattle.sng_sessions.specs.Holding.{holders_from}
use Rattle.sng_sessions.proofs.HoldersListed.{are-holders}
use Rattle.sng_sessions.proofs.sessions.Sessions.holders.Goals as goal

pub returns : goal.returns
returns c =
    on_ok_weaker c.holders.result
    (λ are. are-holders c.self.inside.standing _ c.args.name.now c.holders.new.list.items
    c.self.invariant.1.0 are
    ∙ ap (holders_from 0 c.args.name.now) c.self.view_is) c.holders.ensures
