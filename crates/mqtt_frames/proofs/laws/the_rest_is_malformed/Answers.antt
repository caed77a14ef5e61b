use Rattle.mqtt_frames.proofs.StandingLemmas.{nothing_of, malformed_of}
use Rattle.mqtt_frames.proofs.laws.the_rest_is_malformed.Goals as goal

pub returns : goal.returns
returns c = λ b are. (nothing_of b, malformed_of b are)
