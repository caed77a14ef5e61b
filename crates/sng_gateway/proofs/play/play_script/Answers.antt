use Rattle.sng_gateway.proofs.PlayLemmas.{outcome}
use Rattle.sng_gateway.proofs.play.play_script.Goals as goal

pub returns : goal.returns
returns g c = outcome _ _ _ _ _ _ _ c.play_input-played.ensures c.finish.ensures
