use Rattle.mqtt_frames.proofs.SpelledIsRead.{spells_one}
use Rattle.mqtt_frames.proofs.laws.bytes_spell_one_packet.Goals as goal

pub returns : goal.returns
returns c = λ b one other s t. spells_one b one other s t
