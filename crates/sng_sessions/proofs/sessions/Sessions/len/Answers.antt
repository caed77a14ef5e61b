-- Keys are apart, and the index leads to one client each.
use Rattle.sng_sessions.proofs.Looks.{distinct, places}
use Rattle.sng_sessions.proofs.sessions.Sessions.len.Goals as goal

pub returns-clause-apart : goal.returns-clause-apart
returns-clause-apart c = rw (← c.self.view_is) (distinct c.self.inside.clients.entries c.len.ensures.unique)

pub returns-clause-places : goal.returns-clause-places
returns-clause-places c = rw (← c.self.view_is) (places _ _ c.self.invariant.0)
