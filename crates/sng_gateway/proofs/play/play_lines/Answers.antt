use Rattle.sng_gateway.proofs.PlayLemmas.{Halts-first}
use Rattle.sng_gateway.proofs.play.play_lines.Goals as goal

pub returns-in-Err : goal.returns-in-Err
returns-in-Err g c = Halts-first _ _ c.args.line.now
