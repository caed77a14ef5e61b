use Rattle.mqtt_frames.proofs.StreamIsGrammar.{tells_all}
use Rattle.mqtt_frames.proofs.laws.a_stream_is_cut_anyhow.Goals as goal

pub returns : goal.returns
returns c = λ pieces. tells_all pieces
