use Rattle.sng_promise.proofs.Handing.LawSettled.{settled_in_order, handed_once, front_announced}
use Rattle.sng_promise.proofs.Handing.LawIdles.{idle_law, away_law}
use Rattle.sng_promise.proofs.messages_are_settled_in_order.Goals as goal

pub returns : goal.returns
returns c =
    record {
      in_order = settled_in_order;
      once = handed_once;
      front = front_announced;
      idles = idle_law;
      away = away_law;
    }
