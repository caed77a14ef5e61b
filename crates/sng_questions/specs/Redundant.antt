-- Whether a pair of a scope says nothing that another one does not say.
use Rattle.std.specs.Prelude.{ℕ, suc, Bool, true, false, ◌==◌, ◌&&◌, ◌||◌, not, nat_lt, List, [], ◌∷◌}
use Rattle.sng_cover.specs.Covering.{cover_of}
use Rattle.sng_cover.specs.declared.answer.Cover.{Cover}
use Rattle.sng_cover.specs.declared.answer.Cover.TheVariants.{Included, Uncovered}
use Rattle.sng_grants.specs.declared.scope.Pair.{Pair}

-- the pair permits on its filter what the other one does on its own
abbrev pub permits_all : Pair → Pair → Bool
permits_all pair other = (pair.publishes || not other.publishes) && (pair.subscribes || not other.subscribes)

abbrev pub is_covered : Cover → Bool
is_covered Included = true
is_covered (Uncovered name) = false

-- each name that the filter matches is matched by the granted one
unfoldable pub is_included : List ℕ → List ℕ → Bool
is_included filter granted = is_covered (cover_of filter (granted ∷ []))

-- the pair grants all that the other one does
unfoldable pub includes : Pair → Pair → Bool
includes pair other = permits_all pair other && is_included other.filter pair.filter

-- the other pair, which stands there, leaves nothing to say for this one: it is another pair, and grants all
-- that this one does; of two that grant the same, the later one has nothing to say
unfoldable pub leaves_nothing : Pair → ℕ → Pair → ℕ → Bool
leaves_nothing other place pair index =
    not (place == index) && (includes other pair && (nat_lt place index || not (includes pair other)))

-- one of the pairs, the first of which stands at this place, leaves nothing to say for the pair
abbrev pub says_nothing_new : List Pair → ℕ → ℕ → Pair → Bool
says_nothing_new [] place index pair = false
says_nothing_new (other ∷ pairs) place index pair =
    leaves_nothing other place pair index || says_nothing_new pairs (suc place) index pair
