use Rattle.sng_broker.proofs.Replays.{retained_are_replayed}
use Rattle.sng_broker.proofs.laws.retained_are_replayed.Goals as goal

pub returns : goal.returns
returns c = retained_are_replayed
