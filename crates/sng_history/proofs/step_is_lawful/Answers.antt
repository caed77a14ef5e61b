use Rattle.sng_history.specs.Causes.{cause_of}
use Rattle.sng_history.proofs.Keeping.{step_kept, exactly}
use Rattle.sng_history.proofs.GoodNext.{good_next, good_opening}
use Rattle.sng_history.proofs.step_is_lawful.Goals as goal

pub returns : goal.returns
returns c = record {
  kept = step_kept;
  opening = good_opening;
  good = λ s e is. good_next s (cause_of e) is;
  exactly = exactly;
}
