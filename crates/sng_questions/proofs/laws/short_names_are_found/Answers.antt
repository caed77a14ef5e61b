use Rattle.sng_questions.proofs.ShortNameLemmas.{short_names_are_found}
use Rattle.sng_questions.proofs.laws.short_names_are_found.Goals as goal

pub returns : goal.returns
returns c = short_names_are_found
