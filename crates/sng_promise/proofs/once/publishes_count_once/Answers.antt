use Rattle.sng_promise.proofs.Answers.LawCounted.{counted_law, released_law}
use Rattle.sng_promise.proofs.OpenIds.LawCompletes.{completes_law}
use Rattle.sng_promise.proofs.OpenIds.OpenShown.{few_once}
use Rattle.sng_promise.proofs.once.publishes_count_once.Goals as goal

pub returns : goal.returns
returns c =
    record {
      once = λ h l id. (few_once h l id).once;
      few = λ h l id. (few_once h l id).few;
      counted = λ h row from p id l brought twice here. counted_law h row from p id l brought twice here;
      released = λ h row from number id l brought here active.
          released_law h row from number id l brought here active;
      completed = completes_law;
    }
