use Rattle.sng_promise.proofs.Examples.WorkedSleep.{again_asleep, answered, gave_up}
use Rattle.sng_promise.proofs.worked.lawful_sleep.Goals as goal

pub returns : goal.returns
returns c = record { asleep = again_asleep; answered = answered; given_up = gave_up }
