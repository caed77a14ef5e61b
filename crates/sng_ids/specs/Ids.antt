-- The topic ids of one client: a list of names, of which the first has id 1 and the k-th id k (MQTT-SN 1.2,
-- 6.5).
use Rattle.std.specs.Prelude.{ℕ, zero, suc, ◌+◌, ◌-◌, Bool, true, false, not, ◌&&◌, nat_le, List, [], ◌∷◌}
use Rattle.std.specs.Prelude.{◌++◌, length, map, take, slice_get, position, Some, None, unwrap_or, is_some}
use Rattle.std.specs.Prelude.{is_none, if◌then◌else◌}
use Rattle.std.specs.declared.option.Option.{Option}
use Rattle.std.specs.Option.{option_map, option_and_then}
use Rattle.std.specs.Str.{bytes_eq}
use Rattle.sng_ids.specs.declared.limits.TheConstants.{MAX_TOPIC_IDS}

-- each entry a name, and whether the client knows that the name has this id
abbrev pub Ids : Type 0
Ids = List (List ℕ × Bool)

-- the ids, and for how many more names there is room at least
pub record Table : Type 0 where
  pub ids : Ids
  pub spare : ℕ

-- the names, in the order of their ids
abbrev pub names_of : Ids → List (List ℕ)
names_of ids = map (λ entry. entry.0) ids

-- how many names come before this one, where it has an id
abbrev pub place_of : List ℕ → Ids → Option ℕ
place_of name ids = position (bytes_eq name) (names_of ids)

-- the id that the name has, or would be given
abbrev pub id_for : List ℕ → Ids → ℕ
id_for name ids = unwrap_or (place_of name ids) (length ids) + 1

-- the name has no id, and none is left
abbrev pub is_full_for : List ℕ → Ids → Bool
is_full_for name ids = is_none (place_of name ids) && nat_le MAX_TOPIC_IDS (length ids)

-- once the name has an id: a name without one goes last, unconfirmed
abbrev pub with_name : List ℕ → Ids → Ids
with_name name ids = if is_some (place_of name ids) then ids else ids ++ (name, false) ∷ []

-- once the entry at this place is confirmed
abbrev pub confirmed_at : ℕ → Ids → Ids
confirmed_at place [] = []
confirmed_at zero (entry ∷ ids) = (entry.0, true) ∷ ids
confirmed_at (suc place) (entry ∷ ids) = entry ∷ confirmed_at place ids

-- once the id is confirmed; an id that was not given changes nothing
abbrev pub confirmed : ℕ → Ids → Ids
confirmed zero ids = ids
confirmed (suc place) ids = confirmed_at place ids

-- there is an entry, and it is confirmed
abbrev pub is_confirmed : Option (List ℕ × Bool) → Bool
is_confirmed None = false
is_confirmed (Some entry) = entry.1

-- there is an entry, and it is not confirmed
abbrev pub is_unconfirmed : Option (List ℕ × Bool) → Bool
is_unconfirmed None = false
is_unconfirmed (Some entry) = not entry.1

-- the id of the name, where it has one that is confirmed
abbrev pub id_of : List ℕ → Ids → Option ℕ
id_of name ids =
    option_and_then
    (λ place. if is_confirmed (slice_get ids place) then Some (place + 1) else None)
    (place_of name ids)

-- the name that has the id, confirmed or not
abbrev pub name_of : ℕ → Ids → Option (List ℕ)
name_of zero ids = None
name_of (suc place) ids = option_map (λ entry. entry.0) (slice_get ids place)

-- without the newest id, where that is not confirmed
abbrev pub taken_back : Ids → Ids
taken_back ids =
    let before = length ids - 1 in if is_unconfirmed (slice_get ids before) then take before ids else ids
