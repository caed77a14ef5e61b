use Rattle.sng_promise.proofs.Sleepers.LawSleepers.{left_alone_law}
use Rattle.sng_promise.proofs.Sleepers.LawPonged.{ponged_law, busy_law}
use Rattle.sng_promise.proofs.sleep.sleepers_are_left_alone.Goals as goal

pub returns : goal.returns
returns c = record { left_alone = left_alone_law; ponged = ponged_law; busy = busy_law }
