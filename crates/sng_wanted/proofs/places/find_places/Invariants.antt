use Rattle.sng_wanted.proofs.PlaceLemmas.{Noted}
use Rattle.sng_wanted.proofs.places.find_places.Given as goal

abbrev pub invariant-loop-place : goal.invariant-loop-place
invariant-loop-place l = Noted l.filters.entries l.places l.place
