use Rattle.sng_promise.proofs.Examples.WorkedLemmas.{stored_short, stored_long, unknown, down, answered}
use Rattle.sng_promise.proofs.Examples.WorkedLemmas.{replaced}
use Rattle.sng_promise.proofs.Examples.WorkedLemmas.{kept_down}
use Rattle.sng_promise.proofs.worked.lawful_rows.Goals as goal

pub returns : goal.returns
returns c =
    record {
      short = stored_short;
      long = stored_long;
      unknown = unknown;
      down = down;
      answered = answered;
      replaced = replaced;
      kept = kept_down;
    }
