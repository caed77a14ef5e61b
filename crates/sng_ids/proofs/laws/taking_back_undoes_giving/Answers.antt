use Rattle.sng_ids.proofs.IdLemmas.{taken_back-new}
use Rattle.sng_ids.proofs.laws.taking_back_undoes_giving.Goals as goal

pub returns : goal.returns
returns c ids name absent = rw absent (taken_back-new ids name)
