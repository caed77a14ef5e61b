use Rattle.sng_frames.proofs.Spelling.{Spells-written}
use Rattle.sng_frames.proofs.laws.what_is_written_is_spelled.Goals as goal

pub returns : goal.returns
returns c = λ frame fits topic short. Spells-written frame fits topic short
