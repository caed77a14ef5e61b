use Rattle.sng_gateway.proofs.EventLemmas.{events_are_played}
use Rattle.sng_gateway.proofs.laws.events_are_played.Goals as goal

pub returns : goal.returns
returns c = events_are_played
