use Rattle.sng_status.proofs.AskingLemmas.{well_where_done}
use Rattle.sng_status.proofs.asking.status.Goals as goal

pub returns-in-Ok-show : goal.returns-in-Ok-show
returns-in-Ok-show g c done = record {
  summary = c.in-Ok.summary;
  answer = c.in-Ok.ensures;
  well = well_where_done _ _ c.in-Ok-show.ensures done;
}
