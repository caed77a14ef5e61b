use Rattle.sng_frames.proofs.Faults.{frame_of-reads, frame_of-spelled}
use Rattle.sng_frames.proofs.laws.reading_is_the_grammar.Goals as goal

pub returns : goal.returns
returns c = λ b frame are. (λ read. frame_of-reads b frame are read, λ s. frame_of-spelled b frame s.0 s.1)
