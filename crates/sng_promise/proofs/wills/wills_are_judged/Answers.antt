use Rattle.sng_promise.proofs.Answers.LawDatagrams.{will_law}
use Rattle.sng_promise.proofs.wills.wills_are_judged.Goals as goal

pub returns : goal.returns
returns c = will_law
