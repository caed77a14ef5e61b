use Rattle.sng_promise.proofs.Standing.StandingState.{standing_shown}
use Rattle.sng_promise.proofs.WantedFilters.UpstreamLaws.{wanted_just, wanted_once}
use Rattle.sng_promise.proofs.subscriptions.wanted_filters_stand.Goals as goal

pub returns : goal.returns
returns c =
    record { just = wanted_just; once = wanted_once; strangers = λ h l. (standing_shown h l).strangers }
