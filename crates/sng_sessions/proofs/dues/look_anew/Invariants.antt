use Rattle.sng_sessions.specs.Dues.{Waits}
use Rattle.sng_sessions.specs.Places.{clients_of}
use Rattle.sng_sessions.proofs.dues.look_anew.Given as goal

abbrev pub invariant-loop-block : goal.invariant-loop-block
invariant-loop-block l = Waits l.times.items (clients_of l.clients.entries)
