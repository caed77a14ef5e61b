use Rattle.sng_promise.proofs.Answers.LawDatagrams.{register_law, publish_law}
use Rattle.sng_promise.proofs.asks_are_judged.Goals as goal

pub returns : goal.returns
returns c = record { registers = register_law; publishes = publish_law }
