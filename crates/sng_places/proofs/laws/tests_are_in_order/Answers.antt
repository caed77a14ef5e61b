use Rattle.sng_places.proofs.OrderLemmas.{tests_are_in_order}
use Rattle.sng_places.proofs.laws.tests_are_in_order.Goals as goal

pub returns : goal.returns
returns c = tests_are_in_order
