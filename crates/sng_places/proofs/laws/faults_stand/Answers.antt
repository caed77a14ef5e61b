use Rattle.sng_places.proofs.FailLemmas.{faults_stand}
use Rattle.sng_places.proofs.laws.faults_stand.Goals as goal

pub returns : goal.returns
returns c = faults_stand
