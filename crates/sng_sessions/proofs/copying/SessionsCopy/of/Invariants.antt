use Rattle.std.proofs.Common.{◌≡◌, ◌++◌}
use Rattle.sng_sessions.specs.Places.{clients_of}
use Rattle.sng_sessions.proofs.copying.SessionsCopy.of.Given as goal

abbrev pub invariant-loop-id : goal.invariant-loop-id
invariant-loop-id l = l.copies.items ++ clients_of l.rest ≡ clients_of l.clients.entries
