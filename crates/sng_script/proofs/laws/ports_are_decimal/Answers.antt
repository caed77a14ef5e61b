use Rattle.sng_script.proofs.NumberLemmas.{ports_are_decimal}
use Rattle.sng_script.proofs.laws.ports_are_decimal.Goals as goal

pub returns : goal.returns
returns c = ports_are_decimal
