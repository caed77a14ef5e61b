use Rattle.sng_fan.proofs.PlaceLemmas.{granted_again, granted_last}
use Rattle.sng_fan.proofs.laws.filters_stand_anew.Goals as goal

pub returns-clause-again : goal.returns-clause-again
returns-clause-again c = granted_again

pub returns-clause-last : goal.returns-clause-last
returns-clause-last c = granted_last
