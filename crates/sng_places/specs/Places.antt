-- The place of the first fault of a policy text: what is tested, in the order in which it is tested. It
-- follows the definition of the policy that a text gives (`sng_scope`).
use Rattle.std.specs.Prelude.{ℕ, Bool, true, false, nat_lt, List, if◌then◌else◌, Option, Some, None}
use Rattle.std.specs.Prelude.{ok_or, option_and_then, Result, Ok, Err, codes}
use Rattle.serde_json.specs.Data.{Data, Members, no_members, member}
use Rattle.serde_json.specs.Events.{members_len}
use Rattle.serde_json.specs.Find.{get, as_number, as_object, as_str, as_u64}
use Rattle.sng_text.specs.ClientIds.{client_id_fault}
use Rattle.sng_text.specs.Ipv4.{ipv4_of}
use Rattle.sng_text.specs.Texts.{name_fault}
use Rattle.sng_scope.specs.Numerals.{topic_id_of}
use Rattle.sng_scope.specs.Grants.{is_grant_member}
use Rattle.sng_scope.specs.Policies.{is_known, is_version, may_end, may_limit}
use Rattle.sng_scope.specs.Steps.{◌>>=◌}
use Rattle.sng_scope.specs.Texts.{value_of}
use Rattle.sng_places.specs.ScopePlaces.{or_stop, scope_check}
use Rattle.sng_places.specs.LimitPlaces.{limits_check, limits_in}
use Rattle.sng_places.specs.declared.location.Form.{Form}
use Rattle.sng_places.specs.declared.location.Form.TheVariants.{Plain}
use Rattle.sng_places.specs.declared.location.Part.{Part}
use Rattle.sng_places.specs.declared.location.Part.TheVariants.{Clients, Sources, Topics}
use Rattle.sng_places.specs.declared.location.Location.{Location}
use Rattle.sng_places.specs.declared.location.Location.TheVariants as places
use Rattle.sng_places.specs.declared.location.Spot.{Spot}
use Rattle.sng_places.specs.declared.location.Spot.TheVariants as spots
use Rattle.sng_places.specs.declared.flaw.Flaw.{Flaw}
use Rattle.sng_places.specs.declared.flaw.Flaw.TheVariants as flaws
use Rattle.sng_places.specs.declared.stop.ScopeStop.{ScopeStop}
use Rattle.sng_places.specs.declared.stop.ScopeStop.TheVariants as scope_stops
use Rattle.sng_places.specs.declared.stop.Stop.{Stop}
use Rattle.sng_places.specs.declared.stop.Stop.TheVariants.{At, Memory}

-- the fault at this place
abbrev pub stop_at : Location → Flaw → Stop
stop_at place flaw = At (record { place = place; flaw = flaw })

-- the fault of a text, or none
abbrev pub unless : {F : Type 0} → Option F → (F → Stop) → Result Unit Stop
unless None stop = Ok tt
unless (Some fault) stop = Err (stop fault)

-- ---- members of the parts

-- what ended the search in a scope, whose spots are at places
abbrev pub stop_in : (Form → Spot → Location) → ScopeStop → Stop
stop_in place (scope_stops.At found) = stop_at (place found.form found.spot) found.flaw
stop_in place scope_stops.Memory = Memory

abbrev pub placed : (Form → Spot → Location) → Result Unit ScopeStop → Result Unit Stop
placed place (Ok checked) = Ok checked
placed place (Err stop) = Err (stop_in place stop)

-- in the value of the member of this name
abbrev pub within : Part → List ℕ → Result Unit ScopeStop → Result Unit Stop
within part name checked = placed (places.Value part name) checked

-- in the scope that stands in its object
abbrev pub inside : Part → List ℕ → Result Unit ScopeStop → Result Unit Stop
inside part name checked = placed (places.Scope part name) checked

-- the first member of the object that is not known
abbrev pub other_of : Members → Option (List ℕ)
other_of no_members = None
other_of (member name d ms) = if is_grant_member name then other_of ms else Some name

-- the end is a whole number of 64 bits, where there is one
abbrev pub end_check : Part → List ℕ → Option Data → Result Unit Stop
end_check part name None = Ok tt
end_check part name (Some d) =
    ok_or (option_and_then as_u64 (as_number d)) (stop_at (places.End part name) flaws.NotEnd) >>= (λ end. Ok tt)

-- an object of a scope and its end
abbrev pub object_grant_check : Part → List ℕ → Data → Members → Result Unit Stop
object_grant_check part name d ms = do
  known ← unless (other_of ms) (λ other. stop_at (places.Other part name other) flaws.UnknownMember)
  end ← end_check part name (get (codes "exp") d)
  scope ← ok_or (get (codes "scope") d) (stop_at (places.Value part name Plain spots.Whole) flaws.NoScope)
  inside part name (scope_check scope)

abbrev pub ending_check : Part → List ℕ → Option Members → Data → Result Unit Stop
ending_check part name None d = within part name (scope_check d)
ending_check part name (Some ms) d = object_grant_check part name d ms

-- the value of a member, where scopes may end and where they may not
abbrev pub grant_check : Bool → Part → List ℕ → Data → Result Unit Stop
grant_check true part name d = ending_check part name (as_object d) d
grant_check false part name d = within part name (scope_check d)

abbrev pub client_check : List ℕ → Result Unit Stop
client_check name =
    unless (client_id_fault name) (λ fault. stop_at (places.Name Clients name) (flaws.ClientId fault))

abbrev pub clients_check : Bool → Members → Result Unit Stop
clients_check ends no_members = Ok tt
clients_check ends (member name d ms) = do
  client ← client_check name
  grant ← grant_check ends Clients name d
  clients_check ends ms

abbrev pub sources_check : Bool → Members → Result Unit Stop
sources_check ends no_members = Ok tt
sources_check ends (member name d ms) = do
  source ← ok_or (ipv4_of name) (stop_at (places.Name Sources name) flaws.Source)
  grant ← grant_check ends Sources name d
  sources_check ends ms

-- the text of a topic name
abbrev pub topic_check : List ℕ → Data → Result Unit Stop
topic_check name d =
    ok_or (as_str d) (stop_at (places.Value Topics name Plain spots.Whole) flaws.NotText)
    >>= (λ text. unless (name_fault text)
    (λ fault. stop_at (places.Value Topics name Plain spots.Whole) (flaws.TopicName text fault)))

abbrev pub topics_check : Members → Result Unit Stop
topics_check no_members = Ok tt
topics_check (member name d ms) = do
  id ← ok_or (topic_id_of name) (stop_at (places.Name Topics name) flaws.TopicId)
  topic ← topic_check name d
  topics_check ms

-- ---- the parts

-- the members of a part that has no more of them than `most`
abbrev pub part_within : Part → ℕ → Data → Result Members Stop
part_within part most d =
    ok_or (as_object d) (stop_at (places.Part part) flaws.NotObject)
    >>= (λ ms. if nat_lt most (members_len ms)
    then Err (stop_at (places.Part part) (flaws.TooMany (members_len ms) most)) else Ok ms)

-- what is absent is empty
abbrev pub clients_in : ℕ → Bool → Option Data → Result Unit Stop
clients_in most ends None = Ok tt
clients_in most ends (Some d) = part_within Clients most d >>= clients_check ends

abbrev pub sources_in : ℕ → Bool → Option Data → Result Unit Stop
sources_in most ends None = Ok tt
sources_in most ends (Some d) = part_within Sources most d >>= sources_check ends

abbrev pub topics_in : ℕ → Option Data → Result Unit Stop
topics_in most None = Ok tt
topics_in most (Some d) = part_within Topics most d >>= topics_check

-- ---- the policy

-- the first member that is not known, of a policy that may set limits or may not
abbrev pub unknown_of : Bool → Members → Option (List ℕ)
unknown_of limited no_members = None
unknown_of limited (member name d ms) = if is_known limited name then unknown_of limited ms else Some name

-- the flaw of the version
abbrev pub version_check : Data → Result Unit Stop
version_check d =
    ok_or (get (codes "version") d) (stop_at places.Whole flaws.NoVersion)
    >>= (λ version. if is_version d then Ok tt else Err (stop_at places.Version flaws.OtherVersion))

abbrev pub known_check : Bool → Members → Result Unit Stop
known_check limited ms = unless (unknown_of limited ms) (λ name. stop_at (places.Member name) flaws.UnknownMember)

abbrev pub object_check : Data → Result Unit Stop
object_check d = do
  ms ← ok_or (as_object d) (stop_at places.Whole flaws.NotObject)
  version ← version_check d
  known_check (may_limit d) ms

abbrev pub data_check : Data → Result Unit Stop
data_check d = do
  object ← object_check d
  limits ← limits_check (get (codes "limits") d)
  clients ← clients_in (limits_in d).clients (may_end d) (get (codes "clients") d)
  sources ← sources_in (limits_in d).sources (may_end d) (get (codes "sources") d)
  topics_in (limits_in d).topics (get (codes "topics") d)

-- where the first fault of a text stands
abbrev pub text_check : List ℕ → Result Unit Stop
text_check text = or_stop (value_of text) (stop_at places.Whole flaws.NotJson) >>= data_check
