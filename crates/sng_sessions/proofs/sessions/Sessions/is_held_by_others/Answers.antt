-- Another client holds the filter exactly where the tree says so.
use Rattle.std.proofs.Common.{◌≡◌, ◌+◌, ◌||◌, take, drop, subst}
use Rattle.sng_history.specs.Standing.{is_held}
use Rattle.sng_sessions.proofs.HoldersLemmas.{held-beside}
use Rattle.sng_sessions.proofs.sessions.Sessions.is_held_by_others.Goals as goal

pub returns : goal.returns
returns c =
    subst (λ xs. c.is_held_by_others.result ≡ (is_held (take c.args.place xs) c.args.filter.now
    || is_held (drop (c.args.place + 1) xs) c.args.filter.now)) c.self.view_is
    (held-beside c.self.inside.standing _ c.args.filter.now c.args.place c.is_held_by_others.result
    c.self.invariant.1.0 c.is_held_by_others.ensures)
