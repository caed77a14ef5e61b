use Rattle.sng_isolation.proofs.Shown.{own_home, strays_home, alike}
use Rattle.sng_isolation.proofs.worked.words_say_this.Goals as goal

pub returns-clause-own : goal.returns-clause-own
returns-clause-own c = own_home

pub returns-clause-stray : goal.returns-clause-stray
returns-clause-stray c = strays_home

pub returns-clause-alike : goal.returns-clause-alike
returns-clause-alike c = alike
