use Rattle.mqtt_frames.proofs.StreamIsGrammar.{stream-stands}
use Rattle.mqtt_frames.proofs.laws.a_stream_is_what_stands.Goals as goal

pub returns : goal.returns
returns c = λ bytes are. stream-stands bytes are
