use Rattle.sng_config.proofs.DocumentLemmas.{outcome-document}
use Rattle.sng_config.proofs.laws.settings_are_a_document.Goals as goal

pub returns : goal.returns
returns c = outcome-document
