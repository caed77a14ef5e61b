use Rattle.std.proofs.Common.{◌≡◌, drop}
use Rattle.serde_json.specs.View.{items_view}
use Rattle.sng_places.specs.ScopePlaces.{no_text_from}
use Rattle.sng_places.proofs.pair.no_text.Given as goal

abbrev pub invariant-loop-place : goal.invariant-loop-place
invariant-loop-place l =
    no_text_from l.place (items_view (drop l.place l.items)) ≡ no_text_from 0 (items_view l.items)
