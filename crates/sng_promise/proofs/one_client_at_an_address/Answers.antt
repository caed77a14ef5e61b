use Rattle.sng_promise.proofs.Answers.LawDatagrams.{one_at}
use Rattle.sng_promise.proofs.one_client_at_an_address.Goals as goal

pub returns : goal.returns
returns c = one_at
