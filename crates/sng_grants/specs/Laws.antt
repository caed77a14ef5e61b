-- Laws of look-ups. That the keys are in order holds of each `Listed`: `Listed::len` says so.
use Rattle.std.specs.Prelude.{◌≡◌, ◌≤◌, ℕ, ◌↔◌, false, List, Some, Contains, option_and_then}
use Rattle.std.specs.Cmp.Lexicographic.{slice_cmp}
use Rattle.std.specs.List.Sorted.{IsStrictlySortedBy}
use Rattle.std.specs.Map.{keys_of}
use Rattle.std.specs.Ordering.{nat_cmp}
use Rattle.sng_grants.specs.Sources.{grant_of, scope_of, scope_left, left_at, is_reached}
use Rattle.sng_grants.specs.Ends.{in_force, next_end}
use Rattle.sng_grants.specs.Topics.{name_of, id_of}
use Rattle.sng_grants.specs.declared.grant.Grant.{Grant}
use Rattle.sng_grants.specs.Policies.{Policy}

-- the keys of clients and of sources are in order, and none stands twice
abbrev pub AreInOrder : List (List ℕ × Grant) → Type 0
AreInOrder listed = IsStrictlySortedBy (slice_cmp nat_cmp) (keys_of listed)

-- a key and a grant are listed exactly where the look-up of the key gives the grant
abbrev pub GrantsAreFound : Type 0
GrantsAreFound = (listed : List (List ℕ × Grant)) (key : List ℕ) (grant : Grant) → AreInOrder listed
    → (grant_of listed key ≡ Some grant) ↔ Contains listed (key, grant)

-- at a clock a key has the scope of its grant, unless that has ended
abbrev pub GrantsEnd : Type 0
GrantsEnd = (clock : ℕ) (listed : List (List ℕ × Grant)) (key : List ℕ) → AreInOrder listed
    → scope_of (left_at clock listed) key ≡ option_and_then (scope_left clock) (grant_of listed key)

-- what has ended stays ended: what is in force of what was in force at an earlier clock is what is in force
-- of the whole policy
abbrev pub EndsStay : Type 0
EndsStay = (before now : ℕ) (policy : Policy) → before ≤ now
    → in_force now (in_force before policy) ≡ in_force now policy

-- where the clock has not reached the first end, nothing has ended
abbrev pub NothingEndsBefore : Type 0
NothingEndsBefore = (clock : ℕ) (policy : Policy) → is_reached clock (next_end policy) ≡ false
    → in_force clock policy ≡ policy

-- the topic ids are in order, and none stands twice
abbrev pub AreIdsInOrder : List (ℕ × List ℕ) → Type 0
AreIdsInOrder topics = IsStrictlySortedBy nat_cmp (keys_of topics)

-- an id and a name are listed exactly where the look-up of the id gives the name
abbrev pub NamesAreFound : Type 0
NamesAreFound = (topics : List (ℕ × List ℕ)) (id : ℕ) (name : List ℕ) → AreIdsInOrder topics
    → (name_of topics id ≡ Some name) ↔ Contains topics (id, name)

-- the id that is found of a name is the least that it is listed under
abbrev pub IsLeastId : List (ℕ × List ℕ) → List ℕ → ℕ → Type 0
IsLeastId topics name id = Contains topics (id, name)
    × ((other : ℕ) → Contains topics (other, name) → id ≤ other)

abbrev pub IdsAreLeast : Type 0
IdsAreLeast = (topics : List (ℕ × List ℕ)) (name : List ℕ) (id : ℕ) → AreIdsInOrder topics
    → (id_of topics name ≡ Some id) ↔ IsLeastId topics name id
