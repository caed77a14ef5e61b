use Rattle.sng_promise.proofs.Answers.LawDatagrams.{subscribe_law, unsubscribe_law, replace_law}
use Rattle.sng_promise.proofs.Answers.LawCovered.{covered_exactly}
use Rattle.sng_promise.proofs.subscriptions_are_judged.Goals as goal

pub returns : goal.returns
returns c =
    record {
      subscribes = subscribe_law;
      covered = covered_exactly;
      unsubscribes = unsubscribe_law;
      replaces = replace_law;
    }
