use Rattle.sng_text.proofs.CommonLemmas.{AreAlike}
use Rattle.sng_text.proofs.common.past_common.Given as goal

abbrev pub invariant-loop-at : goal.invariant-loop-at
invariant-loop-at l = AreAlike l.text l.other l.start l.at
