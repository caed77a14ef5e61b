use Rattle.std.proofs.Common.{◌≡◌, drop}
use Rattle.std.specs.Cmp.Lexicographic.{slice_cmp}
use Rattle.std.specs.Ordering.{nat_cmp}
use Rattle.sng_text.proofs.order.ordered.Given as goal

abbrev pub invariant-loop-at : goal.invariant-loop-at
invariant-loop-at l = slice_cmp nat_cmp (drop l.at l.one) (drop l.at l.two) ≡ slice_cmp nat_cmp l.one l.two
