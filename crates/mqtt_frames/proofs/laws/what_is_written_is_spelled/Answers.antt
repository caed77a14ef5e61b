use Rattle.mqtt_frames.proofs.Spelling.{Spells-written}
use Rattle.mqtt_frames.proofs.laws.what_is_written_is_spelled.Goals as goal

pub returns : goal.returns
returns c = λ p fits is short. Spells-written p fits is short
