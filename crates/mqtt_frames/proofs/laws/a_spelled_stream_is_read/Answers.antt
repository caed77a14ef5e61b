use Rattle.mqtt_frames.proofs.StreamIsGrammar.{stream-read}
use Rattle.mqtt_frames.proofs.laws.a_spelled_stream_is_read.Goals as goal

pub returns : goal.returns
returns c = λ packets bytes rest s. stream-read packets bytes rest s
