-- Which items are two.
use Rattle.std.proofs.Common.{◌≡◌, ◌<◌, List, [], ◌∷◌, length, None, refl, arith}
use Rattle.serde_json.specs.declared.value.Value.{Value}
use Rattle.serde_json.specs.View.{items_view}
use Rattle.sng_places.specs.ScopePlaces.{two_of}

-- fewer items than two are not two
pub two_of-few : (items : List Value) → length items < 2 → None ≡ two_of (items_view items)
two_of-few [] few = refl
two_of-few (a ∷ []) few = refl
two_of-few (a ∷ b ∷ items) few = absurd (omega arith)

-- nor are more
pub two_of-many : (items : List Value) → 2 < length items → None ≡ two_of (items_view items)
two_of-many [] many = absurd (omega arith)
two_of-many (a ∷ []) many = absurd (omega arith)
two_of-many (a ∷ b ∷ []) many = absurd (omega arith)
two_of-many (a ∷ b ∷ c ∷ items) many = refl
