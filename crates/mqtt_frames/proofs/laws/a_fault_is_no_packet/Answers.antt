use Rattle.mqtt_frames.proofs.StreamIsGrammar.{no_packet}
use Rattle.mqtt_frames.proofs.laws.a_fault_is_no_packet.Goals as goal

pub returns : goal.returns
returns c = λ bytes more b rest fault p is s short same. no_packet bytes more b rest fault p is s short same
