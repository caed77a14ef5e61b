use Rattle.std.proofs.Common.{◌≡◌, None, option_and_then, ap, ◌∙◌, arith}
use Rattle.serde_json.specs.View.{items_view}
use Rattle.sng_scope.specs.Scopes.{two_of}
use Rattle.sng_scope.proofs.PairLemmas.{two_of-few, two_of-many}
use Rattle.sng_scope.proofs.pairs.pair_parts.Goals as goal
use Rattle.sng_scope.proofs.pairs.pair_parts.Goals.{in_default-via-then-as_slice-lt2}
use Rattle.sng_scope.proofs.pairs.pair_parts.Goals.{in_default-via-else-as_slice-lt2+else-this-lt3}

pub returns-in_default : goal.returns-in_default
returns-in_default c =
    let items = c.in_ok-items.items.now.items in
    let none : None ≡ two_of (items_view items) = elim c.in_default.branch [
      | in_default-via-then-as_slice-lt2 w ↦ two_of-few items (grind arith)
      | in_default-via-else-as_slice-lt2+else-this-lt3 w ↦ two_of-many items (grind arith)
    ] in
    none ∙ ap (option_and_then two_of) c.in_ok-items.ensures
