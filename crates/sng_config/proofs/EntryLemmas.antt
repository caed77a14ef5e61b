-- Finding entries.
use Rattle.std.proofs.Common.{◌≡◌, Bool, List, [], ◌∷◌, find, map, refl, inl, inr}
use Rattle.std.specs.Option.{option_map}
use Rattle.std.proofs.lemmas.Bool.{cases_Bool}

-- what is found among views is the view of what is found
pub map-find : {A B : Type 0} (view : A → B) (test : B → Bool) (xs : List A)
    → option_map view (find (λ x. test (view x)) xs) ≡ find test (map view xs)
map-find view test [] = refl
map-find view test (x ∷ xs) =
    elim (cases_Bool (test (view x))) [
      | inl here ↦ rw here
      | inr further ↦ rw further (map-find view test xs)
    ]
