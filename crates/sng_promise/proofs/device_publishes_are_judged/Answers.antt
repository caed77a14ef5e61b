use Rattle.sng_promise.proofs.Answers.LawDatagrams.{source_law}
use Rattle.sng_promise.proofs.device_publishes_are_judged.Goals as goal

pub returns : goal.returns
returns c = source_law
