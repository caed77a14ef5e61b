-- What is listed by key.
use Rattle.std.specs.Prelude.{◌≡◌, List, [], Some, None}
use Rattle.std.specs.List.{AllZip}
use Rattle.std.specs.declared.option.Option.{Option}

-- the entries of a table, where there is one
abbrev pub entries_in : {X E : Type 0} → Option X → (X → List E) → List E
entries_in None entries = []
entries_in (Some table) entries = entries table

-- the same keys in the same order, each with a clone of its value
abbrev pub AreCopies : {K V : Type 0} → (V → V → Type 0) → List (K × V) → List (K × V) → Type 0
AreCopies is_clone = AllZip (λ p q. (q.0 ≡ p.0) × is_clone p.1 q.1)
