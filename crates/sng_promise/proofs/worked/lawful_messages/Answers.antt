use Rattle.sng_promise.proofs.Examples.WorkedMessages.{handed, denied, once}
use Rattle.sng_promise.proofs.worked.lawful_messages.Goals as goal

pub returns : goal.returns
returns c = record { announced = handed; ungranted = denied; once = once }
