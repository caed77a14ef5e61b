use Rattle.sng_promise.proofs.Examples.WorkedClients.{refused, moved, taken_over, gone, pinged}
use Rattle.sng_promise.proofs.worked.lawful_clients.Goals as goal

pub returns : goal.returns
returns c = record { refused = refused; moved = moved; taken_over = taken_over; left = gone; pinged = pinged }
