use Rattle.sng_promise.proofs.Examples.WorkedLemmas.{not_unnoted, not_kept_back, not_unjudged, not_while_down}
use Rattle.sng_promise.proofs.Examples.WorkedLemmas.{not_at_up, not_denied}
use Rattle.sng_promise.proofs.worked.unlawful_rows.Goals as goal

pub returns : goal.returns
returns c = record {
  unnoted = not_unnoted;
  kept_back = not_kept_back;
  unjudged = not_unjudged;
  while_down = not_while_down;
  at_up = not_at_up;
  denied = not_denied;
}
