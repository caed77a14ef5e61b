-- The topic names of predefined topic ids (MQTT-SN 1.2, 6.7), in the order of the ids.
use Rattle.std.specs.Prelude.{ℕ, ◌≤◌, List, [], ◌∷◌, if◌then◌else◌, Some, None}
use Rattle.std.specs.declared.option.Option.{Option}
use Rattle.std.specs.Ordering.{nat_cmp}
use Rattle.std.specs.BTreeMap.{is_at, insert_entry}
use Rattle.std.specs.Map.{lookup}
use Rattle.std.specs.Str.{bytes_eq}

-- neither of the two that are reserved (MQTT-SN 1.2, 5.3.11)
abbrev pub IsTopicId : ℕ → Type 0
IsTopicId id = (1 ≤ id) × (id ≤ 65534)

-- the topic name of an id
abbrev pub name_of : List (ℕ × List ℕ) → ℕ → Option (List ℕ)
name_of topics id = lookup (is_at (nat_cmp id)) topics

-- the topics with this id in them, in its place
abbrev pub with_name : List (ℕ × List ℕ) → ℕ → List ℕ → List (ℕ × List ℕ)
with_name topics id name = insert_entry nat_cmp topics id name

-- the first id of a name, which is the least
abbrev pub id_of : List (ℕ × List ℕ) → List ℕ → Option ℕ
id_of [] name = None
id_of ((id, topic) ∷ topics) name = if bytes_eq topic name then Some id else id_of topics name

-- what an index finds, where there is one
abbrev pub indexed : {X : Type 0} → Option X → (X → Option ℕ) → Option ℕ
indexed None find = None
indexed (Some index) find = find index
