use Rattle.sng_text.proofs.NameLemmas.{name-plain}
use Rattle.sng_text.proofs.SelfLemmas.{matches_same, matches_itself}
use Rattle.sng_text.proofs.laws.names_match_themselves.Goals as goal

pub returns : goal.returns
returns c =
    λ name other is. (
      matches_same name other (name-plain name is),
      matches_itself name other (name-plain name is),
    )
