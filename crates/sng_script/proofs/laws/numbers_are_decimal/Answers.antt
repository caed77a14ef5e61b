use Rattle.sng_script.proofs.NumberLemmas.{numbers_are_decimal}
use Rattle.sng_script.proofs.laws.numbers_are_decimal.Goals as goal

pub returns : goal.returns
returns c = numbers_are_decimal
