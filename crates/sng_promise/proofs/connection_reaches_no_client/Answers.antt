use Rattle.sng_promise.proofs.Link.LawExits.{down_law, exits_law}
use Rattle.sng_promise.proofs.connection_reaches_no_client.Goals as goal

pub returns : goal.returns
returns c = record { downs = down_law; exits = exits_law }
