use Rattle.sng_ids.proofs.NameLemmas.{name_of-with_name}
use Rattle.sng_ids.proofs.laws.ids_keep_their_names.Goals as goal

pub returns : goal.returns
returns c = name_of-with_name
