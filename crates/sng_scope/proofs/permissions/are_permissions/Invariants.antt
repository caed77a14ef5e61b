use Rattle.std.proofs.Common.{◌≡◌, drop}
use Rattle.serde_json.specs.View.{items_view}
use Rattle.sng_scope.specs.Scopes.{are_permissions}
use Rattle.sng_scope.proofs.permissions.are_permissions.Given as goal

abbrev pub invariant-loop-item : goal.invariant-loop-item
invariant-loop-item l =
    are_permissions (items_view (drop l.item-index l.items)) ≡ are_permissions (items_view l.items)
