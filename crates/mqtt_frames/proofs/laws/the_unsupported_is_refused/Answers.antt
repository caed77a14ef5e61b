use Rattle.mqtt_frames.proofs.StandingLemmas.{unsupported_of, refused_of}
use Rattle.mqtt_frames.proofs.laws.the_unsupported_is_refused.Goals as goal

pub returns : goal.returns
returns c = λ b are. (unsupported_of b are, refused_of b)
