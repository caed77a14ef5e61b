use Rattle.sng_places.proofs.FaultLemmas.{places_are_of_faults}
use Rattle.sng_places.proofs.laws.places_are_of_faults.Goals as goal

pub returns : goal.returns
returns c = places_are_of_faults
