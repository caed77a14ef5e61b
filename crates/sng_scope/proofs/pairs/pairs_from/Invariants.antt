use Rattle.std.proofs.Common.{◌≡◌, drop, length}
use Rattle.serde_json.specs.View.{items_view}
use Rattle.sng_scope.specs.Scopes.{pairs_of}
use Rattle.sng_scope.proofs.PairLemmas.{behind}
use Rattle.sng_scope.proofs.pairs.pairs_from.Given as goal

abbrev pub invariant-loop-item : goal.invariant-loop-item
invariant-loop-item l =
    (behind l.scope (pairs_of (items_view (drop l.item-index l.items))) ≡ pairs_of (items_view l.items))
    × (length l.scope ≡ l.item-index)
