use Rattle.sng_frames.proofs.Faults.{frame_of-refuses, frame_of-unsupported}
use Rattle.sng_frames.proofs.laws.unsupported_is_reported.Goals as goal

pub returns : goal.returns
returns c = λ b are. (λ stated. frame_of-refuses b are stated, λ s. frame_of-unsupported b s.0 s.1)
