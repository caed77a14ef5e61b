use Rattle.sng_promise.proofs.Handing.LawJudged.{judged_law}
use Rattle.sng_promise.proofs.Handing.LawInTurn.{turns_law}
use Rattle.sng_promise.proofs.Handing.LawHanding.{regack_law, puback_law}
use Rattle.sng_promise.proofs.messages_are_handed_over.Goals as goal

pub returns : goal.returns
returns c = record { judged = judged_law; turns = turns_law; regacks = regack_law; pubacks = puback_law }
