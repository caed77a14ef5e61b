use Rattle.std.proofs.Common.{take}
use Rattle.sng_cover.specs.Gathered.{IsProfile}
use Rattle.sng_cover.proofs.inclusion.profile_of.Given as goal

abbrev pub invariant-loop-filter : goal.invariant-loop-filter
invariant-loop-filter l = IsProfile l.profile (take l.filter-index l.granted)
