use Rattle.std.proofs.Common.{◌≡◌, drop}
use Rattle.sng_cover.specs.Inclusion.{is_granted}
use Rattle.sng_cover.proofs.inclusion.is_granted.Given as goal

abbrev pub invariant-loop-filter : goal.invariant-loop-filter
invariant-loop-filter l = is_granted (drop l.filter-index l.granted) l.name ≡ is_granted l.granted l.name
