use Rattle.sng_promise.proofs.Ticks.LawClock.{tick_law, lost_law}
use Rattle.sng_promise.proofs.wills.silent_clients_are_lost.Goals as goal

pub returns : goal.returns
returns c = record { exactly = lost_law; ticks = tick_law }
