use Rattle.sng_promise.proofs.Examples.WorkedLimits.{not_let_in, not_refused, not_put_out}
use Rattle.sng_promise.proofs.worked.unlawful_limits.Goals as goal

pub returns : goal.returns
returns c = record { let_in = not_let_in; refused = not_refused; put_out = not_put_out }
