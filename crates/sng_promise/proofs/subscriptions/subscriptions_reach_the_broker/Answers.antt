use Rattle.sng_promise.proofs.WantedFilters.UpstreamTold.{each_owed, begins_same, takes_same, stays_same}
use Rattle.sng_promise.proofs.WantedFilters.UpstreamFew.{none_owed, few_same}
use Rattle.sng_promise.proofs.subscriptions.subscriptions_reach_the_broker.Goals as goal

pub returns : goal.returns
returns c =
    record {
      waits = each_owed;
      begins = begins_same;
      takes = takes_same;
      stays = stays_same;
      none_owed = none_owed;
      few = few_same;
    }
