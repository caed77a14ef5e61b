-- What holds of each scope.
use Rattle.std.specs.Prelude.{ℕ, ◌≡◌, ◌≤◌, true, List, [], ◌∷◌, length, All, if◌then◌else◌}
use Rattle.sng_text.specs.Texts.{is_filter}
use Rattle.sng_grants.specs.declared.limits.TheConstants.{MAX_PAIRS}
use Rattle.sng_grants.specs.declared.scope.Pair.{Pair}

-- at most so many pairs as a scope may have, each of a topic filter
abbrev pub IsScope : List Pair → Type 0
IsScope pairs = (length pairs ≤ MAX_PAIRS) × All (λ pair. is_filter pair.filter ≡ true) pairs

-- the filters of the pairs with `sub`, in order
abbrev pub subscribed : List Pair → List (List ℕ)
subscribed [] = []
subscribed (pair ∷ pairs) = if pair.subscribes then pair.filter ∷ subscribed pairs else subscribed pairs
