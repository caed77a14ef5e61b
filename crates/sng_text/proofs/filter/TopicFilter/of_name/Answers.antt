use Rattle.std.proofs.Common.{arith}
use Rattle.std.proofs.lemmas.Grind.{common_steps}
use Rattle.sng_text.proofs.NameLemmas.{name-filter}
use Rattle.sng_text.proofs.filter.TopicFilter.of_name.Goals as goal

pub invariant_of-result : goal.invariant_of-result
invariant_of-result c = grind (arith, common_steps, name-filter)
