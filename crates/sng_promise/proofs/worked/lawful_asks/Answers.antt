use Rattle.sng_promise.proofs.Examples.WorkedAsks.{refused, acknowledged}
use Rattle.sng_promise.proofs.worked.lawful_asks.Goals as goal

pub returns : goal.returns
returns c = record { refused = refused; acknowledged = acknowledged }
