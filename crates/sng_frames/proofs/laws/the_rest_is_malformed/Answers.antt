use Rattle.sng_frames.proofs.Faults.{frame_of-malformed, frame_of-rest}
use Rattle.sng_frames.proofs.laws.the_rest_is_malformed.Goals as goal

pub returns : goal.returns
returns c = λ b are. (λ stated. frame_of-malformed b stated, λ none. frame_of-rest b are none)
