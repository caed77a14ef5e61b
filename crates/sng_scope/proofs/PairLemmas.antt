-- The pairs so far and those that the items left give, and the two items of a pair.
use Rattle.std.proofs.Common.{◌≡◌, ◌<◌, List, [], ◌∷◌, ◌++◌, length, Result, Ok, Err, None, refl, arith}
use Rattle.serde_json.specs.declared.value.Value.{Value}
use Rattle.serde_json.specs.View.{items_view}
use Rattle.sng_scope.specs.Scopes.{two_of}
use Rattle.sng_grants.specs.declared.scope.Pair.{Pair}
use Rattle.sng_scope.specs.declared.fault.PolicyFault.{PolicyFault}

-- more pairs behind those that were found
abbrev pub behind : List Pair → Result (List Pair) PolicyFault → Result (List Pair) PolicyFault
behind found (Ok pairs) = Ok (found ++ pairs)
behind found (Err e) = Err e

-- fewer items than two are no pair
pub two_of-few : (items : List Value) → length items < 2 → None ≡ two_of (items_view items)
two_of-few [] few = refl
two_of-few (a ∷ []) few = refl
two_of-few (a ∷ b ∷ items) few = absurd (omega arith)

-- nor are more
pub two_of-many : (items : List Value) → 2 < length items → None ≡ two_of (items_view items)
two_of-many [] many = absurd (omega arith)
two_of-many (a ∷ []) many = absurd (omega arith)
two_of-many (a ∷ b ∷ []) many = absurd (omega arith)
two_of-many (a ∷ b ∷ c ∷ items) many = refl
