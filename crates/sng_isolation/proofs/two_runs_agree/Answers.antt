use Rattle.sng_isolation.proofs.Free.{free_room}
use Rattle.sng_isolation.proofs.TwoRunsLaw.{two_runs}
use Rattle.sng_isolation.proofs.two_runs_agree.Goals as goal

pub returns : goal.returns
returns c = record { agree = two_runs; free = free_room }
