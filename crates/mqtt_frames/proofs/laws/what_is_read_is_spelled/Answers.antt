use Rattle.mqtt_frames.proofs.ReadIsSpelled.{front-spelled}
use Rattle.mqtt_frames.proofs.laws.what_is_read_is_spelled.Goals as goal

pub returns : goal.returns
returns c = λ p bytes size are is. front-spelled p bytes size are is
