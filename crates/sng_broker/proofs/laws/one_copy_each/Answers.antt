use Rattle.sng_broker.proofs.Copies.{one_copy_each}
use Rattle.sng_broker.proofs.laws.one_copy_each.Goals as goal

pub returns : goal.returns
returns c = one_copy_each
