use Rattle.sng_queue.proofs.OrderLemmas.{in_order}
use Rattle.sng_queue.proofs.laws.messages_stay_in_order.Goals as goal

pub returns : goal.returns
returns c = in_order
