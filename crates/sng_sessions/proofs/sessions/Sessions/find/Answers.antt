-- A client stands where its key does.
use Rattle.sng_sessions.proofs.Looks.{ids_of-clients}
use Rattle.sng_sessions.proofs.sessions.Sessions.find.Goals as goal

pub returns-clause-place : goal.returns-clause-place
returns-clause-place c =
    rw (← c.self.view_is, ids_of-clients c.self.inside.clients.entries) c.get_index_of.ensures.index
