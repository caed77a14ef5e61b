use Rattle.sng_frames.proofs.Spelling.{Spells-spelled}
use Rattle.sng_frames.proofs.laws.what_is_spelled_is_written.Goals as goal

pub returns : goal.returns
returns c = λ frame b s. Spells-spelled frame b s
