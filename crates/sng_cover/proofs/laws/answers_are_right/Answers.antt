use Rattle.sng_cover.proofs.Filters.{filters_from_all}
use Rattle.sng_cover.proofs.Answered.{right}
use Rattle.sng_cover.proofs.laws.answers_are_right.Goals as goal

pub returns : goal.returns
returns c = λ asked granted are. right asked granted are.0 (filters_from_all granted are.1)
