use Rattle.mqtt_frames.proofs.StandingLemmas.{too_long_of, longer_of}
use Rattle.mqtt_frames.proofs.laws.the_too_long_is_refused.Goals as goal

pub returns : goal.returns
returns c = λ b are. (too_long_of b are, longer_of b)
