use Rattle.sng_frames.proofs.Spelling.{written-shortest}
use Rattle.sng_frames.proofs.laws.the_shortest_is_written.Goals as goal

pub returns : goal.returns
returns c = λ frame b s. written-shortest frame b s
