-- Which value stands at a place of a policy.
use Rattle.std.specs.Prelude.{◌≡◌, ◌⊎◌, ℕ, List, ◌∷◌, ◌++◌, Option, Some, None, option_and_then, Ok, Err}
use Rattle.std.specs.Prelude.{codes, All}
use Rattle.serde_json.specs.Data.{Data, string, Members, no_members, member}
use Rattle.serde_json.specs.Find.{at, get}
use Rattle.sng_scope.specs.Texts.{value_of}
use Rattle.sng_places.specs.Order.{Test, flaw_of, held_by, members_in, tests_of, text_of}
use Rattle.sng_places.specs.LimitPlaces.{limit_text}
use Rattle.sng_places.specs.Places.{text_check}
use Rattle.sng_places.specs.declared.location.Form.{Form}
use Rattle.sng_places.specs.declared.location.Form.TheVariants.{Plain, Encoded}
use Rattle.sng_places.specs.declared.location.Part.{Part}
use Rattle.sng_places.specs.declared.location.Part.TheVariants.{Clients, Sources, Topics}
use Rattle.sng_places.specs.declared.location.Location.{Location}
use Rattle.sng_places.specs.declared.location.Location.TheVariants as places
use Rattle.sng_places.specs.declared.location.Spot.{Spot}
use Rattle.sng_places.specs.declared.location.Spot.TheVariants.{Whole, Pair, Filter, Permissions, Permission}
use Rattle.sng_places.specs.declared.stop.Found.{Found}
use Rattle.sng_places.specs.declared.stop.Stop.TheVariants.{At}

-- the value at a spot: of a pair `[filter, permissions]` the filter has the place 0, the permissions 1
abbrev pub value_at : Spot → Data → Option Data
value_at Whole d = Some d
value_at (Pair i) d = at i d
value_at (Filter i) d = option_and_then (at 0) (at i d)
value_at (Permissions i) d = option_and_then (at 1) (at i d)
value_at (Permission i k) d = option_and_then (at k) (option_and_then (at 1) (at i d))

-- what is written is the value, or is a text of base64url of it
abbrev pub IsWritten : Form → Data → Data → Type 0
IsWritten Plain written d = d ≡ written
IsWritten Encoded written d = held_by (text_of written) ≡ Ok d

-- a member of this name has this value
abbrev pub HasMember : Members → List ℕ → Data → Type 0
HasMember no_members name d = ⊥
HasMember (member other e ms) name d = ((other ≡ name) × (e ≡ d)) ⊎ HasMember ms name d

abbrev pub name_of : Part → List ℕ
name_of Clients = codes "clients"
name_of Sources = codes "sources"
name_of Topics = codes "topics"

-- a member of the part has this name and this value
abbrev pub IsListed : Data → Part → List ℕ → Data → Type 0
IsListed d part name e = (p : Data) × ((get (name_of part) d ≡ Some p) × HasMember (members_in p) name e)

-- the value stands at the place of the policy; at a name it is the name, as a text
abbrev pub Stands : Data → Location → Data → Type 0
Stands d places.Whole v = v ≡ d
Stands d places.Version v = get (codes "version") d ≡ Some v
Stands d (places.Member name) v = (v ≡ string name) × ((e : Data) × HasMember (members_in d) name e)
Stands d places.Limits v = get (codes "limits") d ≡ Some v
Stands d (places.LimitMember name) v =
    (v ≡ string name) × ((l : Data) × ((get (codes "limits") d ≡ Some l)
    × ((e : Data) × HasMember (members_in l) name e)))
Stands d (places.Limit name) v =
    (l : Data) × ((get (codes "limits") d ≡ Some l) × (get (limit_text name) l ≡ Some v))
Stands d (places.Part part) v = get (name_of part) d ≡ Some v
Stands d (places.Name part name) v = (v ≡ string name) × ((e : Data) × IsListed d part name e)
Stands d (places.Value part name form spot) v =
    (e : Data) × (IsListed d part name e × ((w : Data) × (IsWritten form e w × (value_at spot w ≡ Some v))))
Stands d (places.Other part name other) v =
    (e : Data) × (IsListed d part name e
    × ((v ≡ string other) × ((w : Data) × HasMember (members_in e) other w)))
Stands d (places.End part name) v =
    (e : Data) × (IsListed d part name e × (get (codes "exp") e ≡ Some v))
Stands d (places.Scope part name form spot) v =
    (e : Data) × (IsListed d part name e × ((s : Data) × ((get (codes "scope") e ≡ Some s)
    × ((w : Data) × (IsWritten form s w × (value_at spot w ≡ Some v))))))

-- each value that is tested stands at the place of its test
abbrev pub ValuesStand : Type 0
ValuesStand = (d : Data) → All (λ t. Stands d t.place t.value) (tests_of d)

-- the tests before this place pass, and the value there fails with this flaw
pub record FailsAt (d : Data) (found : Found) : Type 0 where
  pub before : List Test
  pub failing : Test
  pub others : List Test
  pub tests : tests_of d ≡ before ++ failing ∷ others
  pub passed : All (λ t. flaw_of t.rule t.value ≡ None) before
  pub place : failing.place ≡ found.place
  pub flaw : flaw_of failing.rule failing.value ≡ Some found.flaw
  pub stands : Stands d failing.place failing.value

-- what is found of a text that is JSON: the value at the place has the flaw, and everything before it has
-- none
abbrev pub FaultsStand : Type 0
FaultsStand =
    (text : List ℕ) (d : Data) (found : Found) → value_of text ≡ Ok d → text_check text ≡ Err (At found)
    → FailsAt d found
