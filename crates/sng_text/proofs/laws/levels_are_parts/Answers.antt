use Rattle.sng_text.proofs.LevelLemmas.{levels_are_parts}
use Rattle.sng_text.proofs.laws.levels_are_parts.Goals as goal

pub returns : goal.returns
returns c = levels_are_parts
