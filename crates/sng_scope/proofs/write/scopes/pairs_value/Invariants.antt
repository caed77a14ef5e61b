use Rattle.std.proofs.Common.{◌≡◌, take, map}
use Rattle.serde_json.specs.View.{view}
use Rattle.sng_scope.specs.Written.{pair_data}
use Rattle.sng_scope.proofs.write.scopes.pairs_value.Given as goal

abbrev pub invariant-loop-pair : goal.invariant-loop-pair
invariant-loop-pair l = map view l.items.items ≡ map pair_data (take l.pair-index l.pairs)
