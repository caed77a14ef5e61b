use Rattle.mqtt_frames.proofs.StreamIsGrammar.{written-read}
use Rattle.mqtt_frames.proofs.laws.what_is_written_is_read_again.Goals as goal

pub returns : goal.returns
returns c = λ p more fits is short. written-read p more fits is short
