-- Whether the names that one filter matches are all matched by others (MQTT 3.1.1, 4.7).
use Rattle.std.specs.Prelude.{ℕ, ◌≡◌, Bool, true, false, ◌&&◌, ◌||◌, not, List, [], ◌∷◌}
use Rattle.sng_text.specs.Texts.{is_name}
use Rattle.sng_text.specs.Matching.{matches}

-- some granted filter matches the name
abbrev pub is_granted : List (List ℕ) → List ℕ → Bool
is_granted [] name = false
is_granted (filter ∷ granted) name = matches filter name || is_granted granted name

-- the asked filter matches the name, and no granted filter does
abbrev pub shows_gap : List ℕ → List (List ℕ) → List ℕ → Bool
shows_gap asked granted name = matches asked name && not (is_granted granted name)

-- every topic name that the asked filter matches is matched by a granted filter
abbrev pub Included : List ℕ → List (List ℕ) → Type 0
Included asked granted = (name : List ℕ) → is_name name ≡ true → matches asked name ≡ true
    → is_granted granted name ≡ true
