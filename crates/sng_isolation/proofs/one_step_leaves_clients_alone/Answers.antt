use Rattle.sng_isolation.proofs.OneStepLaw.{one_step}
use Rattle.sng_isolation.proofs.one_step_leaves_clients_alone.Goals as goal

pub returns : goal.returns
returns c = one_step
