use Rattle.std.proofs.Common.{take}
use Rattle.sng_cover.specs.Gathered.{Gathered}
use Rattle.sng_cover.proofs.inclusion.cover.Given as goal

abbrev pub invariant-loop-filter : goal.invariant-loop-filter
invariant-loop-filter l = Gathered l.question l.asked (take l.filter-index l.granted)
