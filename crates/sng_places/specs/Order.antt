-- What is tested of a policy, in the documented order: each test is of the value that stands at a place, by a
-- rule. The first that fails is the fault that is found.
use Rattle.std.specs.Prelude.{ℕ, suc, Bool, true, false, ◌==◌, ◌||◌, nat_lt, List, [], ◌∷◌, ◌++◌}
use Rattle.std.specs.Prelude.{if◌then◌else◌, Option, Some, None, option_map, option_and_then, unwrap_or}
use Rattle.std.specs.Prelude.{Result, Ok, Err, codes}
use Rattle.serde_json.specs.Data.{Data, null, boolean, number, string, array, object, Items, no_items, item}
use Rattle.serde_json.specs.Data.{Members, no_members, member}
use Rattle.serde_json.specs.Events.{items_len, members_len}
use Rattle.serde_json.specs.Find.{get, as_array, as_number, as_object, as_str, as_u64}
use Rattle.sng_text.specs.ClientIds.{client_id_fault}
use Rattle.sng_text.specs.Ipv4.{ipv4_of}
use Rattle.sng_text.specs.Texts.{filter_fault, name_fault}
use Rattle.sng_grants.specs.Limits.{Limits}
use Rattle.sng_grants.specs.declared.limits.TheConstants.{MAX_PAIRS}
use Rattle.sng_scope.specs.Numerals.{topic_id_of}
use Rattle.sng_scope.specs.Grants.{is_grant_member}
use Rattle.sng_scope.specs.PolicyLimits.{is_limit}
use Rattle.sng_scope.specs.Policies.{is_known, may_end, may_limit}
use Rattle.sng_scope.specs.Scopes.{says}
use Rattle.sng_scope.specs.Steps.{◌>>=◌}
use Rattle.sng_scope.specs.Texts.{bytes_of, value_of}
use Rattle.sng_scope.specs.declared.fault.PolicyFault.{PolicyFault}
use Rattle.sng_places.specs.LimitPlaces.{is_in_range, least_of, limits_in, most_of}
use Rattle.sng_places.specs.Places.{stop_at}
use Rattle.sng_places.specs.ScopePlaces.{two_of}
use Rattle.sng_places.specs.declared.flaw.Flaw.{Flaw}
use Rattle.sng_places.specs.declared.flaw.Flaw.TheVariants as flaws
use Rattle.sng_places.specs.declared.location.Form.{Form}
use Rattle.sng_places.specs.declared.location.Form.TheVariants.{Plain, Encoded}
use Rattle.sng_places.specs.declared.location.LimitName.{LimitName}
use Rattle.sng_places.specs.declared.location.LimitName.TheVariants as limit
use Rattle.sng_places.specs.declared.location.Part.{Part}
use Rattle.sng_places.specs.declared.location.Part.TheVariants.{Clients, Sources, Topics}
use Rattle.sng_places.specs.declared.location.Location.{Location}
use Rattle.sng_places.specs.declared.location.Location.TheVariants as places
use Rattle.sng_places.specs.declared.location.Spot.{Spot}
use Rattle.sng_places.specs.declared.location.Spot.TheVariants.{Whole, Pair, Filter, Permissions, Permission}
use Rattle.sng_places.specs.declared.stop.Stop.{Stop}

-- ---- rules

-- what a value is to be; a name is tested as a text
pub data Rule : Type 0 where
  IsObject : Rule
  HasVersion : Rule
  IsVersion : Rule
  IsKnown : Bool → Rule
  IsLimitMember : Rule
  IsLimit : LimitName → Rule
  IsAtMost : ℕ → Rule
  IsClient : Rule
  IsSource : Rule
  IsTopicId : Rule
  IsGrantMember : Rule
  HasScope : Rule
  IsEnd : Rule
  IsScope : Rule
  IsEncoded : Rule
  HoldsJson : Rule
  IsPair : Rule
  IsArray : Rule
  IsText : Rule
  IsFilter : Rule
  IsPermission : Rule
  IsTopic : Rule

-- the flaw of what is not there
abbrev pub unless_some : {A : Type 0} → Option A → Flaw → Option Flaw
unless_some None flaw = Some flaw
unless_some (Some a) flaw = None

abbrev pub unless_true : Bool → Flaw → Option Flaw
unless_true true flaw = None
unless_true false flaw = Some flaw

abbrev pub unless_read : {A : Type 0} → Result A PolicyFault → Flaw → Option Flaw
unless_read (Ok a) flaw = None
unless_read (Err fault) flaw = Some flaw

-- the text that a value is, and none where it is no text
abbrev pub text_of : Data → List ℕ
text_of d = unwrap_or (as_str d) []

-- how many items or members there are
abbrev pub count_of : Data → ℕ
count_of (array ds) = items_len ds
count_of (object ms) = members_len ms
count_of null = 0
count_of (boolean b) = 0
count_of (number n) = 0
count_of (string text) = 0

abbrev pub too_many : ℕ → ℕ → Option Flaw
too_many most count = if nat_lt most count then Some (flaws.TooMany count most) else None

-- the whole number 1, 2 or 4
abbrev pub is_number_of_version : Data → Bool
is_number_of_version d =
    unwrap_or (option_map (λ n. (n == 1) || (n == 2) || (n == 4)) (option_and_then as_u64 (as_number d))) false

abbrev pub scope_flaw : Data → Option Flaw
scope_flaw (array ds) = None
scope_flaw (string text) = None
scope_flaw null = Some flaws.NotScope
scope_flaw (boolean b) = Some flaws.NotScope
scope_flaw (number n) = Some flaws.NotScope
scope_flaw (object ms) = Some flaws.NotScope

-- the value whose JSON a text of base64url stands for
abbrev pub held_by : List ℕ → Result Data PolicyFault
held_by text = bytes_of text >>= value_of

-- what is wrong with the value by the rule
abbrev pub flaw_of : Rule → Data → Option Flaw
flaw_of IsObject d = unless_some (as_object d) flaws.NotObject
flaw_of HasVersion d = unless_some (get (codes "version") d) flaws.NoVersion
flaw_of IsVersion d = unless_true (is_number_of_version d) flaws.OtherVersion
flaw_of (IsKnown limited) d = unless_true (is_known limited (text_of d)) flaws.UnknownMember
flaw_of IsLimitMember d = unless_true (is_limit (text_of d)) flaws.UnknownMember
flaw_of (IsLimit name) d =
    unless_true (is_in_range (least_of name) (most_of name) d) (flaws.NotLimit (least_of name) (most_of name))
flaw_of (IsAtMost most) d = too_many most (count_of d)
flaw_of IsClient d = option_map flaws.ClientId (client_id_fault (text_of d))
flaw_of IsSource d = unless_some (ipv4_of (text_of d)) flaws.Source
flaw_of IsTopicId d = unless_some (topic_id_of (text_of d)) flaws.TopicId
flaw_of IsGrantMember d = unless_true (is_grant_member (text_of d)) flaws.UnknownMember
flaw_of HasScope d = unless_some (get (codes "scope") d) flaws.NoScope
flaw_of IsEnd d = unless_some (option_and_then as_u64 (as_number d)) flaws.NotEnd
flaw_of IsScope d = scope_flaw d
flaw_of IsEncoded d = unless_read (bytes_of (text_of d)) (flaws.Base64 (text_of d))
flaw_of HoldsJson d = unless_read (held_by (text_of d)) (flaws.NotEncodedJson (text_of d))
flaw_of IsPair d = unless_some (option_and_then two_of (as_array d)) flaws.NotPair
flaw_of IsArray d = unless_some (as_array d) flaws.NotArray
flaw_of IsText d = unless_some (as_str d) flaws.NotText
flaw_of IsFilter d = option_map (flaws.Filter (text_of d)) (filter_fault (text_of d))
flaw_of IsPermission d =
    unless_true (says (codes "pub") d || says (codes "sub") d) (flaws.Permission (text_of d))
flaw_of IsTopic d = option_map (flaws.TopicName (text_of d)) (name_fault (text_of d))

-- ---- tests

-- a value at a place, and what it is to be
pub record Test : Type 0 where
  pub place : Location
  pub rule : Rule
  pub value : Data

abbrev pub test : Location → Rule → Data → Test
test place rule value = record { place = place; rule = rule; value = value }

abbrev pub ends_at : Location → Option Flaw → Result Unit Stop → Result Unit Stop
ends_at place None others = others
ends_at place (Some flaw) others = Err (stop_at place flaw)

-- the first test that fails
abbrev pub first : List Test → Result Unit Stop
first [] = Ok tt
first (t ∷ ts) = ends_at t.place (flaw_of t.rule t.value) (first ts)

abbrev pub items_in : Data → Items
items_in d = unwrap_or (as_array d) no_items

abbrev pub members_in : Data → Members
members_in d = unwrap_or (as_object d) no_members

-- ---- the tests of a scope, whose spots are at places

-- each item by the rule, of which the first has this place
abbrev pub each_test : (ℕ → Location) → Rule → ℕ → Items → List Test
each_test at rule k no_items = []
each_test at rule k (item d ds) = test (at k) rule d ∷ each_test at rule (suc k) ds

abbrev pub two_tests : (Spot → Location) → ℕ → Option (Data × Data) → List Test
two_tests at i None = []
two_tests at i (Some two) =
    test (at (Filter i)) IsText two.0
    ∷ test (at (Permissions i)) IsArray two.1
    ∷ (each_test (λ k. at (Permission i k)) IsText 0 (items_in two.1)
    ++ (test (at (Filter i)) IsFilter two.0
    ∷ each_test (λ k. at (Permission i k)) IsPermission 0 (items_in two.1)))

abbrev pub pair_tests : (Spot → Location) → ℕ → Data → List Test
pair_tests at i d = test (at (Pair i)) IsPair d ∷ two_tests at i (option_and_then two_of (as_array d))

abbrev pub pairs_tests : (Spot → Location) → ℕ → Items → List Test
pairs_tests at i no_items = []
pairs_tests at i (item d ds) = pair_tests at i d ++ pairs_tests at (suc i) ds

abbrev pub array_tests : (Spot → Location) → Data → List Test
array_tests at d = test (at Whole) (IsAtMost MAX_PAIRS) d ∷ pairs_tests at 0 (items_in d)

abbrev pub held_tests : (Spot → Location) → Result Data PolicyFault → List Test
held_tests at (Ok d) = test (at Whole) IsArray d ∷ array_tests at d
held_tests at (Err fault) = []

abbrev pub written_tests : (Form → Spot → Location) → Data → List Test
written_tests at (array ds) = array_tests (at Plain) (array ds)
written_tests at (string text) =
    test (at Plain Whole) IsEncoded (string text)
    ∷ test (at Plain Whole) HoldsJson (string text)
    ∷ held_tests (at Encoded) (held_by text)
written_tests at null = []
written_tests at (boolean b) = []
written_tests at (number n) = []
written_tests at (object ms) = []

abbrev pub scope_tests : (Form → Spot → Location) → Data → List Test
scope_tests at d = test (at Plain Whole) IsScope d ∷ written_tests at d

-- ---- the tests of a policy

abbrev pub topic_tests : Part → List ℕ → Data → List Test
topic_tests part name d =
    test (places.Value part name Plain Whole) IsText d ∷ test (places.Value part name Plain Whole) IsTopic d ∷ []

-- an object of a scope and its end: its members' names, the end, that there is a scope, and then the scope
abbrev pub other_tests : Part → List ℕ → Members → List Test
other_tests part name no_members = []
other_tests part name (member other d ms) =
    test (places.Other part name other) IsGrantMember (string other) ∷ other_tests part name ms

abbrev pub end_tests : Part → List ℕ → Option Data → List Test
end_tests part name None = []
end_tests part name (Some d) = test (places.End part name) IsEnd d ∷ []

abbrev pub inner_tests : Part → List ℕ → Option Data → List Test
inner_tests part name None = []
inner_tests part name (Some d) = scope_tests (places.Scope part name) d

abbrev pub ending_tests : Part → List ℕ → Option Members → Data → List Test
ending_tests part name None d = scope_tests (places.Value part name) d
ending_tests part name (Some ms) d =
    other_tests part name ms
    ++ (end_tests part name (get (codes "exp") d)
    ++ (test (places.Value part name Plain Whole) HasScope d
    ∷ inner_tests part name (get (codes "scope") d)))

-- where scopes may end such an object may stand for a scope
abbrev pub grant_tests : Bool → Part → List ℕ → Data → List Test
grant_tests true part name d = ending_tests part name (as_object d) d
grant_tests false part name d = scope_tests (places.Value part name) d

-- member by member, the name before the value
abbrev pub members_tests : Part → Rule → (Part → List ℕ → Data → List Test) → Members → List Test
members_tests part rule tests no_members = []
members_tests part rule tests (member name d ms) =
    test (places.Name part name) rule (string name)
    ∷ (tests part name d ++ members_tests part rule tests ms)

abbrev pub part_tests : Part → ℕ → Rule → (Part → List ℕ → Data → List Test) → Option Data → List Test
part_tests part most rule tests None = []
part_tests part most rule tests (Some d) =
    test (places.Part part) IsObject d
    ∷ test (places.Part part) (IsAtMost most) d
    ∷ members_tests part rule tests (members_in d)

abbrev pub version_tests : Option Data → List Test
version_tests None = []
version_tests (Some d) = test places.Version IsVersion d ∷ []

abbrev pub known_tests : Bool → Members → List Test
known_tests limited no_members = []
known_tests limited (member name d ms) =
    test (places.Member name) (IsKnown limited) (string name) ∷ known_tests limited ms

-- the limits: their members' names, and then each number
abbrev pub limit_names_tests : Members → List Test
limit_names_tests no_members = []
limit_names_tests (member name d ms) =
    test (places.LimitMember name) IsLimitMember (string name) ∷ limit_names_tests ms

abbrev pub limit_tests : LimitName → Option Data → List Test
limit_tests name None = []
limit_tests name (Some d) = test (places.Limit name) (IsLimit name) d ∷ []

abbrev pub limit_members_tests : Option Members → Data → List Test
limit_members_tests None d = []
limit_members_tests (Some ms) d =
    limit_names_tests ms
    ++ (limit_tests limit.Clients (get (codes "clients") d)
    ++ (limit_tests limit.InFlight (get (codes "in_flight") d)
    ++ (limit_tests limit.Sources (get (codes "sources") d)
    ++ (limit_tests limit.Topics (get (codes "topics") d)
    ++ limit_tests limit.Waiting (get (codes "waiting") d)))))

abbrev pub limits_tests : Option Data → List Test
limits_tests None = []
limits_tests (Some d) = test places.Limits IsObject d ∷ limit_members_tests (as_object d) d

-- those of the clients, the sources and the topics
abbrev pub parts_tests : Limits → Data → List Test
parts_tests limits d =
    part_tests Clients limits.clients IsClient (grant_tests (may_end d)) (get (codes "clients") d)
    ++ (part_tests Sources limits.sources IsSource (grant_tests (may_end d)) (get (codes "sources") d)
    ++ part_tests Topics limits.topics IsTopicId topic_tests (get (codes "topics") d))

-- every test of a policy: the object and its version, its members' names, the limits, then clients, sources and
-- topics
abbrev pub tests_of : Data → List Test
tests_of d =
    test places.Whole IsObject d
    ∷ test places.Whole HasVersion d
    ∷ (version_tests (get (codes "version") d)
    ++ (known_tests (may_limit d) (members_in d)
    ++ (limits_tests (get (codes "limits") d) ++ parts_tests (limits_in d) d)))
