use Rattle.std.proofs.Common.{◌≡◌, drop}
use Rattle.serde_json.specs.View.{items_view}
use Rattle.sng_places.specs.ScopePlaces.{pairs_check}
use Rattle.sng_places.proofs.scope.check_pairs.Given as goal

abbrev pub invariant-loop-index : goal.invariant-loop-index
invariant-loop-index l =
    pairs_check l.form l.index (items_view (drop l.index l.items)) ≡ pairs_check l.form 0 (items_view l.items)
