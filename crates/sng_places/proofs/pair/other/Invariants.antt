use Rattle.std.proofs.Common.{◌≡◌, drop}
use Rattle.serde_json.specs.View.{items_view}
use Rattle.sng_places.specs.ScopePlaces.{other_from}
use Rattle.sng_places.proofs.pair.other.Given as goal

abbrev pub invariant-loop-place : goal.invariant-loop-place
invariant-loop-place l =
    other_from l.place (items_view (drop l.place l.items)) ≡ other_from 0 (items_view l.items)
