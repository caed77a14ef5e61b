use Rattle.sng_config.proofs.NameLemmas.{read-back}
use Rattle.sng_config.proofs.laws.names_are_read_back.Goals as goal

pub returns : goal.returns
returns c = read-back
