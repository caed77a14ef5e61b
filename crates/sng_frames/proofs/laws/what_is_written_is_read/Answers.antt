use Rattle.sng_frames.proofs.Faults.{frame_of-spelled}
use Rattle.sng_frames.specs.Writing.{written}
use Rattle.sng_frames.proofs.laws.what_is_written_is_read.Goals as goal

pub returns : goal.returns
returns c = λ frame s short. frame_of-spelled (written frame) frame short s
