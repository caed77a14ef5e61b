use Rattle.std.proofs.Common.{sym}
use Rattle.sng_crew.proofs.threads.run_workers.Goals as goal

pub returns-clause-udp : goal.returns-clause-udp
returns-clause-udp g c = rw (sym c.stops-may_stop.ensures) c.scoped.ensures.1.1.0
