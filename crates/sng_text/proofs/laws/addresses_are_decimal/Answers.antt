use Rattle.sng_text.proofs.AddressLemmas.{addresses_are_decimal}
use Rattle.sng_text.proofs.laws.addresses_are_decimal.Goals as goal

pub returns : goal.returns
returns c = addresses_are_decimal
