use Rattle.sng_frames.proofs.Faults.{spells-one}
use Rattle.sng_frames.proofs.laws.bytes_spell_one_frame.Goals as goal

pub returns : goal.returns
returns c = λ b one other s t. spells-one b one other s t
