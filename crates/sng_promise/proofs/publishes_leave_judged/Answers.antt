use Rattle.sng_promise.proofs.Link.LawRows.{links}
use Rattle.sng_promise.proofs.Link.LawFlight.{each_packet}
use Rattle.sng_promise.proofs.publishes_leave_judged.Goals as goal

pub returns : goal.returns
returns c = record {
  in_order = λ h l. (links h l).order;
  judged = λ h l. (links h l).depart;
  announced = λ h l. (links h l).announced;
  timely = λ h l. (links h l).timely;
  packets = each_packet;
  upstream = λ h l. (links h l).upstream;
}
