use Rattle.sng_promise.proofs.Examples.WorkedLimits.{less, more, pinged, again}
use Rattle.sng_promise.proofs.worked.lawful_limits.Goals as goal

pub returns : goal.returns
returns c = record { less = less; more = more; answered = pinged; again = again }
