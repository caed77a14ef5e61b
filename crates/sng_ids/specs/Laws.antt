-- What is right of topic ids.
use Rattle.std.specs.Prelude.{◌≡◌, ℕ, List, Some, None}
use Rattle.sng_ids.specs.Ids.{Ids, place_of, id_for, with_name, name_of, taken_back}

-- the id that a name is given names it
abbrev pub IdsNameWhatTheyWereGivenFor : Type 0
IdsNameWhatTheyWereGivenFor =
    (ids : Ids) (name : List ℕ) → name_of (id_for name ids) (with_name name ids) ≡ Some name

-- an id keeps its name, whatever name is given an id later
abbrev pub IdsKeepTheirNames : Type 0
IdsKeepTheirNames =
    (ids : Ids) (id : ℕ) (name later : List ℕ)
    → name_of id ids ≡ Some name → name_of id (with_name later ids) ≡ Some name

-- to take back undoes that a name without an id was given one
abbrev pub TakingBackUndoesGiving : Type 0
TakingBackUndoesGiving =
    (ids : Ids) (name : List ℕ) → place_of name ids ≡ None → taken_back (with_name name ids) ≡ ids
