use Rattle.sng_promise.proofs.Standing.StandingLaws.{ended_by, ended_beside}
use Rattle.sng_promise.proofs.Standing.StandingBegins.{begins_by_subscribe}
use Rattle.sng_promise.proofs.subscriptions.ended_stays_ended.Goals as goal

pub returns : goal.returns
returns c = record { noted = ended_by; beside = ended_beside; own = begins_by_subscribe }
