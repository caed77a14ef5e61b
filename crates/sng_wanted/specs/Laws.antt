-- The order of the wanted filters.
use Rattle.std.specs.Prelude.{ℕ, ◌≡◌, false, List, [], ◌∷◌, map}
use Rattle.std.specs.Str.{bytes_eq}
use Rattle.sng_history.specs.Links.{Wanted}
use Rattle.sng_history.specs.State.{with_wanted}
use Rattle.sng_wanted.specs.Filters.{without_wanted}

-- the filters alone
abbrev pub texts : List Wanted → List (List ℕ)
texts wanted = map (λ w. w.filter) wanted

-- F is asked for, then G, and then F again: F still stands first. Once it ended and is asked for anew it
-- stands last
abbrev pub FirstStandingDecides : Type 0
FirstStandingDecides = (f g : List ℕ) → bytes_eq f g ≡ false → bytes_eq g f ≡ false
    → (texts (with_wanted (with_wanted (with_wanted [] f) g) f) ≡ f ∷ g ∷ [])
    × (texts (with_wanted (without_wanted (with_wanted (with_wanted [] f) g) f) f) ≡ g ∷ f ∷ [])
