use Rattle.sng_promise.proofs.Examples.WorkedOnce.{counted, anew}
use Rattle.sng_promise.proofs.worked.lawful_once.Goals as goal

pub returns : goal.returns
returns c = record { counted = counted; anew = anew }
