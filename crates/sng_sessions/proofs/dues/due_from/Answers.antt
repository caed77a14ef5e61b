-- One client more is looked at.
use Rattle.sng_sessions.specs.Places.{clients_of}
use Rattle.sng_sessions.proofs.DueLemmas.{quiet_with}
use Rattle.sng_sessions.proofs.dues.due_from.Goals as goal

pub loop-place-preserved : goal.loop-place-preserved
loop-place-preserved c =
    quiet_with (clients_of c.args.clients.now.entries) c.args.first c.loop-place.place c.loop-place.time
    c.time_with-time.result c.loop-place.invariant c.time_with-time.ensures.before c.time_with-time.ensures.here
