use Rattle.sng_frames.proofs.Faults.{spells-none}
use Rattle.sng_frames.proofs.laws.unsupported_spells_no_frame.Goals as goal

pub returns : goal.returns
returns c = λ b frame u s. spells-none b frame u s
