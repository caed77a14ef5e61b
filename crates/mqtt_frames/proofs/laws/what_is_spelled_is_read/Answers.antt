use Rattle.mqtt_frames.proofs.SpelledIsRead.{front-read}
use Rattle.mqtt_frames.proofs.laws.what_is_spelled_is_read.Goals as goal

pub returns : goal.returns
returns c = λ p b more s short. front-read p b more s short
