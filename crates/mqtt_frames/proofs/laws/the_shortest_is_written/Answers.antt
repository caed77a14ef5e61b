use Rattle.mqtt_frames.proofs.ShortestLemmas.{shortest}
use Rattle.mqtt_frames.proofs.laws.the_shortest_is_written.Goals as goal

pub returns : goal.returns
returns c = shortest
