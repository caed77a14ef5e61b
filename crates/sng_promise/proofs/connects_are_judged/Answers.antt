use Rattle.sng_promise.proofs.Answers.LawDatagrams.{connect_law}
use Rattle.sng_promise.proofs.connects_are_judged.Goals as goal

pub returns : goal.returns
returns c = connect_law
