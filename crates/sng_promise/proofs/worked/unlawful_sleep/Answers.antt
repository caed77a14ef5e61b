use Rattle.sng_promise.proofs.Examples.WorkedSleep.{not_early, not_asleep, not_fourth}
use Rattle.sng_promise.proofs.worked.unlawful_sleep.Goals as goal

pub returns : goal.returns
returns c = record { early = not_early; asleep = not_asleep; fourth = not_fourth }
