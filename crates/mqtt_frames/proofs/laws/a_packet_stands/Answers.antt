use Rattle.mqtt_frames.proofs.StandingLemmas.{stands_of, whole_of}
use Rattle.mqtt_frames.proofs.laws.a_packet_stands.Goals as goal

pub returns : goal.returns
returns c = λ b p size are. (stands_of b p size are, whole_of b p size)
