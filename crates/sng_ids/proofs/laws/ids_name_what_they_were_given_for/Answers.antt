use Rattle.sng_ids.proofs.NameLemmas.{name_of-id_for}
use Rattle.sng_ids.proofs.laws.ids_name_what_they_were_given_for.Goals as goal

pub returns : goal.returns
returns c = name_of-id_for
