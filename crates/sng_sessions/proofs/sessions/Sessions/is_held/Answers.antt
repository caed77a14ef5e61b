-- Somebody holds the filter exactly where the tree says so.
use Rattle.std.proofs.Common.{◌≡◌, subst}
use Rattle.sng_history.specs.Standing.{is_held}
use Rattle.sng_sessions.proofs.HoldersLemmas.{held-by}
use Rattle.sng_sessions.proofs.sessions.Sessions.is_held.Goals as goal

pub returns : goal.returns
returns c =
    subst (λ xs. c.is_held.result ≡ is_held xs c.args.filter.now) c.self.view_is
    (held-by c.self.inside.standing _ c.args.filter.now c.is_held.result c.self.invariant.1.0 c.is_held.ensures)
