use Rattle.sng_promise.proofs.Link.LawFlight.{each_returns, ids_apart}
use Rattle.sng_promise.proofs.publishes_return_judged.Goals as goal

pub returns : goal.returns
returns c = record { judged = each_returns; ids = ids_apart }
