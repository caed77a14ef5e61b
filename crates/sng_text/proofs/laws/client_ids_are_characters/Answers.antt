use Rattle.sng_text.proofs.ClientIdLemmas.{spells-client_id, client_id-spells}
use Rattle.sng_text.proofs.laws.client_ids_are_characters.Goals as goal

pub returns : goal.returns
returns c = λ text. (spells-client_id text, client_id-spells text)
