use Rattle.mqtt_frames.proofs.StandingLemmas.{unfinished_of, waits_of}
use Rattle.mqtt_frames.proofs.laws.the_unfinished_waits.Goals as goal

pub returns : goal.returns
returns c = λ b are. (unfinished_of b are, waits_of b)
