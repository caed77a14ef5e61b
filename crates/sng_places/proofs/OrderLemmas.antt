-- The search for a place goes through the tests of a policy in their order.
use Rattle.std.proofs.Common.{◌≡◌, ℕ, suc, Bool, true, false, ◌||◌, ◌==◌, cond, ltb, List, [], ◌∷◌, ◌++◌}
use Rattle.std.proofs.Common.{Option, Some, None, option_map, option_and_then, unwrap_or, ok_or, Result, Ok}
use Rattle.std.proofs.Common.{Err, codes, refl, sym, ap, ◌∙◌}
use Rattle.serde_json.specs.Data.{Data, null, boolean, number, string, array, object, Items, no_items, item}
use Rattle.serde_json.specs.Data.{Members, no_members, member}
use Rattle.serde_json.specs.Events.{items_len, members_len}
use Rattle.serde_json.specs.Find.{get, as_array, as_number, as_object, as_str, as_u64}
use Rattle.sng_text.specs.ClientIds.{client_id_fault}
use Rattle.sng_text.specs.Ipv4.{ipv4_of}
use Rattle.sng_text.specs.Texts.{filter_fault, name_fault}
use Rattle.sng_text.specs.declared.fault.TextFault.{TextFault}
use Rattle.sng_grants.specs.Limits.{Limits}
use Rattle.sng_grants.specs.declared.limits.TheConstants.{MAX_PAIRS}
use Rattle.sng_scope.specs.Numerals.{topic_id_of}
use Rattle.sng_scope.specs.Grants.{is_grant_member}
use Rattle.sng_scope.specs.PolicyLimits.{is_limit}
use Rattle.sng_scope.specs.Policies.{is_known, may_end, may_limit}
use Rattle.sng_scope.specs.Scopes.{says}
use Rattle.sng_scope.specs.Steps.{◌>>=◌}
use Rattle.sng_scope.specs.Texts.{bytes_of, value_of}
use Rattle.sng_scope.specs.declared.fault.PolicyFault.{PolicyFault}
use Rattle.sng_places.specs.Laws.{TestsAreInOrder}
use Rattle.sng_places.specs.Order.{Rule, IsClient, IsSource, IsTopicId, IsText, IsPermission, Test}
use Rattle.sng_places.specs.Order.{array_tests, each_test, end_tests, ending_tests, ends_at, first, flaw_of}
use Rattle.sng_places.specs.Order.{grant_tests, held_tests, inner_tests, is_number_of_version, items_in, known_tests}
use Rattle.sng_places.specs.Order.{members_tests, other_tests, pair_tests, pairs_tests, part_tests}
use Rattle.sng_places.specs.Order.{scope_tests, tests_of, topic_tests, two_tests, unless_read, unless_some}
use Rattle.sng_places.specs.Order.{unless_true, version_tests, limit_members_tests, limit_names_tests, limit_tests}
use Rattle.sng_places.specs.Order.{limits_tests, parts_tests}
use Rattle.sng_places.specs.LimitPlaces.{is_in_range, least_of, limit_check, limit_members_check, limits_check}
use Rattle.sng_places.specs.LimitPlaces.{limits_in, most_of, no_other, other_limit}
use Rattle.sng_places.specs.Places.{clients_check, clients_in, data_check, end_check, ending_check}
use Rattle.sng_places.specs.Places.{grant_check, inside, known_check, object_grant_check, other_of, part_within}
use Rattle.sng_places.specs.Places.{placed, sources_check, sources_in, stop_at, topics_check, topics_in}
use Rattle.sng_places.specs.Places.{unknown_of, unless, version_check}
use Rattle.sng_places.specs.ScopePlaces as scopes
use Rattle.sng_places.specs.ScopePlaces.{encoded_check, filter_by, items_check, no_text_from, or_stop}
use Rattle.sng_places.specs.ScopePlaces.{other_from, pair_check, pairs_check, parts_check, permissions_by}
use Rattle.sng_places.specs.ScopePlaces.{scope_check, texts_by, two_check, two_of}
use Rattle.sng_places.specs.declared.flaw.Flaw.{Flaw}
use Rattle.sng_places.specs.declared.flaw.Flaw.TheVariants as flaws
use Rattle.sng_places.specs.declared.location.Form.{Form}
use Rattle.sng_places.specs.declared.location.Form.TheVariants.{Plain, Encoded}
use Rattle.sng_places.specs.declared.location.LimitName.{LimitName}
use Rattle.sng_places.specs.declared.location.LimitName.TheVariants as limit
use Rattle.sng_places.specs.declared.location.Part.{Part}
use Rattle.sng_places.specs.declared.location.Part.TheVariants.{Clients, Sources, Topics}
use Rattle.sng_places.specs.declared.location.Location.{Location}
use Rattle.sng_places.specs.declared.location.Location.TheVariants as places
use Rattle.sng_places.specs.declared.location.Spot.{Spot}
use Rattle.sng_places.specs.declared.location.Spot.TheVariants.{Whole, Pair, Filter, Permissions, Permission}
use Rattle.sng_places.specs.declared.stop.ScopeStop.{ScopeStop}
use Rattle.sng_places.specs.declared.stop.Stop.{Stop}

-- ---- lists of tests

then_first : (place : Location) (flaw : Option Flaw) (c rest : Result Unit Stop)
    → ends_at place flaw c >>= (λ checked. rest) ≡ ends_at place flaw (c >>= (λ checked. rest))
then_first place None c rest = refl
then_first place (Some flaw) c rest = refl

first-append : (ts us : List Test) → first (ts ++ us) ≡ first ts >>= (λ checked. first us)
first-append [] us = refl
first-append (t ∷ ts) us =
    ap (ends_at t.place (flaw_of t.rule t.value)) (first-append ts us)
    ∙ sym (then_first t.place (flaw_of t.rule t.value) (first ts) (first us))

-- both parts end alike
joined : (c d : Result Unit Stop) (ts us : List Test) → c ≡ first ts → d ≡ first us
    → c >>= (λ checked. d) ≡ first (ts ++ us)
joined c d ts us is are = rw (is, are) (sym (first-append ts us))

-- ---- what ends the search in a scope ends it at its place

placed-then : (place : Form → Spot → Location) (c d : Result Unit ScopeStop)
    → placed place (c >>= (λ checked. d)) ≡ placed place c >>= (λ checked. placed place d)
placed-then place (Ok checked) d = refl
placed-then place (Err stop) d = refl

texts_step : (place : Form → Spot → Location) (form : Form) (i k : ℕ) (o : Option (List ℕ)) (more : Option ℕ)
    (rest : Result Unit Stop)
    → placed place (texts_by form i more) ≡ rest
    → placed place (texts_by form i (cond (unwrap_or (option_map (λ s. true) o) false) more (Some k)))
    ≡ ends_at (place form (Permission i k)) (unless_some o flaws.NotText) rest
texts_step place form i k None more rest is = refl
texts_step place form i k (Some text) more rest is = is

texts : (place : Form → Spot → Location) (form : Form) (i k : ℕ) (ds : Items)
    → placed place (texts_by form i (no_text_from k ds))
    ≡ first (each_test (λ p. place form (Permission i p)) IsText k ds)
texts place form i k no_items = refl
texts place form i k (item d ds) =
    texts_step place form i k (as_str d) (no_text_from (suc k) ds) _ (texts place form i (suc k) ds)

others_step : (place : Form → Spot → Location) (form : Form) (i k : ℕ) (b : Bool) (text : List ℕ)
    (more : Option (ℕ × List ℕ)) (rest : Result Unit Stop)
    → placed place (permissions_by form i more) ≡ rest
    → placed place (permissions_by form i (cond b more (Some (k, text))))
    ≡ ends_at (place form (Permission i k)) (unless_true b (flaws.Permission text)) rest
others_step place form i k true text more rest is = is
others_step place form i k false text more rest is = refl

others : (place : Form → Spot → Location) (form : Form) (i k : ℕ) (ds : Items)
    → placed place (permissions_by form i (other_from k ds))
    ≡ first (each_test (λ p. place form (Permission i p)) IsPermission k ds)
others place form i k no_items = refl
others place form i k (item d ds) =
    others_step place form i k (says (codes "pub") d || says (codes "sub") d) (unwrap_or (as_str d) [])
    (other_from (suc k) ds) _ (others place form i (suc k) ds)

-- ---- pairs

filter_step : (place : Form → Spot → Location) (form : Form) (i : ℕ) (text : List ℕ) (o : Option TextFault)
    (c : Result Unit ScopeStop) (rest : Result Unit Stop)
    → placed place c ≡ rest
    → placed place (filter_by form i text o >>= (λ checked. c))
    ≡ ends_at (place form (Filter i)) (option_map (flaws.Filter text) o) rest
filter_step place form i text None c rest is = is
filter_step place form i text (Some fault) c rest is = refl

parts : (place : Form → Spot → Location) (form : Form) (i : ℕ) (text : List ℕ) (ds : Items)
    → placed place (parts_check form i text ds)
    ≡ first (each_test (λ p. place form (Permission i p)) IsText 0 ds)
    >>= (λ checked. ends_at (place form (Filter i))
    (option_map (flaws.Filter text) (filter_fault text))
    (first (each_test (λ p. place form (Permission i p)) IsPermission 0 ds)))
parts place form i text ds =
    placed-then place (texts_by form i (no_text_from 0 ds)) _
    ∙ rw (
      texts place form i 0 ds,
      filter_step place form i text (filter_fault text) (permissions_by form i (other_from 0 ds)) _
          (others place form i 0 ds),
    ) refl

two_by : (place : Form → Spot → Location) (form : Form) (i : ℕ) (o : Option (List ℕ)) (p : Option Items)
    → placed place (ok_or o (scopes.stop_at form (Filter i) flaws.NotText) >>=
    (λ text. ok_or p (scopes.stop_at form (Permissions i) flaws.NotArray) >>=
    (λ ds. parts_check form i text ds)))
    ≡ ends_at (place form (Filter i)) (unless_some o flaws.NotText)
    (ends_at (place form (Permissions i)) (unless_some p flaws.NotArray)
    (first (each_test (λ q. place form (Permission i q)) IsText 0 (unwrap_or p no_items))
    >>= (λ checked. ends_at (place form (Filter i))
    (option_map (flaws.Filter (unwrap_or o [])) (filter_fault (unwrap_or o [])))
    (first (each_test (λ q. place form (Permission i q)) IsPermission 0
    (unwrap_or p no_items))))))
two_by place form i None p = refl
two_by place form i (Some text) None = refl
two_by place form i (Some text) (Some ds) = parts place form i text ds

two : (place : Form → Spot → Location) (form : Form) (i : ℕ) (d e : Data)
    → placed place (two_check form i d e)
    ≡ first (two_tests (place form) i (Some (d, e)))
two place form i d e =
    two_by place form i (as_str d) (as_array e)
    ∙ sym (ap (λ (c : Result Unit Stop). ends_at (place form (Filter i))
    (unless_some (as_str d) flaws.NotText)
    (ends_at (place form (Permissions i))
    (unless_some (as_array e) flaws.NotArray) c))
    (first-append (each_test (λ k. place form (Permission i k)) IsText 0 (items_in e)) _))

pair_by : (place : Form → Spot → Location) (form : Form) (i : ℕ) (o : Option Items)
    → placed place (ok_or (option_and_then two_of o) (scopes.stop_at form (Pair i) flaws.NotPair) >>=
    (λ both. two_check form i both.0 both.1))
    ≡ ends_at (place form (Pair i)) (unless_some (option_and_then two_of o) flaws.NotPair)
    (first (two_tests (place form) i (option_and_then two_of o)))
pair_by place form i None = refl
pair_by place form i (Some no_items) = refl
pair_by place form i (Some (item d no_items)) = refl
pair_by place form i (Some (item d (item e no_items))) = two place form i d e
pair_by place form i (Some (item d (item e (item f ds)))) = refl

pairs : (place : Form → Spot → Location) (form : Form) (i : ℕ) (ds : Items)
    → placed place (pairs_check form i ds) ≡ first (pairs_tests (place form) i ds)
pairs place form i no_items = refl
pairs place form i (item d ds) =
    placed-then place (pair_check form i d) (pairs_check form (suc i) ds)
    ∙ joined _ _ (pair_tests (place form) i d)
    (pairs_tests (place form) (suc i) ds) (pair_by place form i (as_array d))
    (pairs place form (suc i) ds)

-- ---- scopes

limited : (place : Form → Spot → Location) (form : Form) (b : Bool) (flaw : Flaw) (c : Result Unit ScopeStop)
    (rest : Result Unit Stop)
    → placed place c ≡ rest
    → placed place (cond b (Err (scopes.stop_at form Whole flaw)) c)
    ≡ ends_at (place form Whole) (cond b (Some flaw) None) rest
limited place form true flaw c rest is = refl
limited place form false flaw c rest is = is

items : (place : Form → Spot → Location) (form : Form) (ds : Items)
    → placed place (items_check form ds) ≡ first (array_tests (place form) (array ds))
items place form ds =
    limited place form (ltb MAX_PAIRS (items_len ds)) _ (pairs_check form 0 ds) _
    (pairs place form 0 ds)

held : (place : Form → Spot → Location) (d : Data)
    → placed place (ok_or (as_array d) (scopes.stop_at Encoded Whole flaws.NotArray) >>=
    (λ ds. items_check Encoded ds)) ≡ first (held_tests (place Encoded) (Ok d))
held place (array ds) = items place Encoded ds
held place null = refl
held place (boolean b) = refl
held place (number n) = refl
held place (string text) = refl
held place (object ms) = refl

value_by : (place : Form → Spot → Location) (text : List ℕ) (r : Result Data PolicyFault)
    → placed place (or_stop r (scopes.stop_at Plain Whole (flaws.NotEncodedJson text)) >>=
    (λ d. ok_or (as_array d) (scopes.stop_at Encoded Whole flaws.NotArray) >>=
    (λ ds. items_check Encoded ds)))
    ≡ ends_at (place Plain Whole) (unless_read r (flaws.NotEncodedJson text))
    (first (held_tests (place Encoded) r))
value_by place text (Ok d) = held place d
value_by place text (Err fault) = refl

bytes_by : (place : Form → Spot → Location) (text : List ℕ) (r : Result (List ℕ) PolicyFault)
    → placed place (or_stop r (scopes.stop_at Plain Whole (flaws.Base64 text)) >>=
    (λ bytes. or_stop (value_of bytes) (scopes.stop_at Plain Whole (flaws.NotEncodedJson text)) >>=
    (λ d. ok_or (as_array d) (scopes.stop_at Encoded Whole flaws.NotArray) >>=
    (λ ds. items_check Encoded ds))))
    ≡ ends_at (place Plain Whole) (unless_read r (flaws.Base64 text))
    (ends_at (place Plain Whole)
    (unless_read (r >>= value_of) (flaws.NotEncodedJson text))
    (first (held_tests (place Encoded) (r >>= value_of))))
bytes_by place text (Ok bytes) = value_by place text (value_of bytes)
bytes_by place text (Err fault) = refl

scope : (place : Form → Spot → Location) (d : Data)
    → placed place (scope_check d) ≡ first (scope_tests place d)
scope place (array ds) = items place Plain ds
scope place (string text) = bytes_by place text (bytes_of text)
scope place null = refl
scope place (boolean b) = refl
scope place (number n) = refl
scope place (object ms) = refl

-- ---- members

-- one test, and what follows it
tested : {F : Type 0} (place : Location) (o : Option F) (flaw : F → Flaw) (c rest : Result Unit Stop)
    → c ≡ rest
    → unless o (λ fault. stop_at place (flaw fault)) >>= (λ checked. c)
    ≡ ends_at place (option_map flaw o) rest
tested place None flaw c rest is = is
tested place (Some fault) flaw c rest is = refl

there : {A : Type 0} (place : Location) (o : Option A) (flaw : Flaw) (c rest : Result Unit Stop) → c ≡ rest
    → ok_or o (stop_at place flaw) >>= (λ found. c) ≡ ends_at place (unless_some o flaw) rest
there place None flaw c rest is = refl
there place (Some a) flaw c rest is = is

-- ---- an object of a scope and its end

other_step : (part : Part) (name other : List ℕ) (b : Bool) (more : Option (List ℕ)) (rest : Result Unit Stop)
    → unless more (λ found. stop_at (places.Other part name found) flaws.UnknownMember) ≡ rest
    → unless (cond b more (Some other)) (λ found. stop_at (places.Other part name found) flaws.UnknownMember)
    ≡ ends_at (places.Other part name other) (unless_true b flaws.UnknownMember) rest
other_step part name other true more rest is = is
other_step part name other false more rest is = refl

others_of : (part : Part) (name : List ℕ) (ms : Members)
    → unless (other_of ms) (λ other. stop_at (places.Other part name other) flaws.UnknownMember)
    ≡ first (other_tests part name ms)
others_of part name no_members = refl
others_of part name (member other d ms) =
    other_step part name other (is_grant_member other) (other_of ms) _ (others_of part name ms)

end_by : (place : Location) (o : Option ℕ)
    → ok_or o (stop_at place flaws.NotEnd) >>= (λ end. Ok tt)
    ≡ ends_at place (unless_some o flaws.NotEnd) (Ok tt)
end_by place None = refl
end_by place (Some end) = refl

end_of : (part : Part) (name : List ℕ) (o : Option Data) → end_check part name o ≡ first (end_tests part name o)
end_of part name None = refl
end_of part name (Some d) = end_by (places.End part name) (option_and_then as_u64 (as_number d))

inner_of : (part : Part) (name : List ℕ) (o : Option Data)
    → ok_or o (stop_at (places.Value part name Plain Whole) flaws.NoScope) >>=
    (λ s. inside part name (scope_check s))
    ≡ ends_at (places.Value part name Plain Whole) (unless_some o flaws.NoScope)
    (first (inner_tests part name o))
inner_of part name None = refl
inner_of part name (Some s) = scope (places.Scope part name) s

object_of : (part : Part) (name : List ℕ) (d : Data) (ms : Members)
    → object_grant_check part name d ms ≡ first (ending_tests part name (Some ms) d)
object_of part name d ms =
    joined _ _ (other_tests part name ms) _ (others_of part name ms)
    (joined _ _ (end_tests part name (get (codes "exp") d)) _ (end_of part name (get (codes "exp") d))
    (inner_of part name (get (codes "scope") d)))

ending : (part : Part) (name : List ℕ) (o : Option Members) (d : Data)
    → ending_check part name o d ≡ first (ending_tests part name o d)
ending part name None d = scope (places.Value part name) d
ending part name (Some ms) d = object_of part name d ms

grant : (ends : Bool) (part : Part) (name : List ℕ) (d : Data)
    → grant_check ends part name d ≡ first (grant_tests ends part name d)
grant true part name d = ending part name (as_object d) d
grant false part name d = scope (places.Value part name) d

-- ---- the members of a part

clients : (ends : Bool) (ms : Members)
    → clients_check ends ms ≡ first (members_tests Clients IsClient (grant_tests ends) ms)
clients ends no_members = refl
clients ends (member name d ms) =
    tested (places.Name Clients name) (client_id_fault name) flaws.ClientId _ _
    (joined _ _ (grant_tests ends Clients name d) (members_tests Clients IsClient (grant_tests ends) ms)
    (grant ends Clients name d) (clients ends ms))

sources : (ends : Bool) (ms : Members)
    → sources_check ends ms ≡ first (members_tests Sources IsSource (grant_tests ends) ms)
sources ends no_members = refl
sources ends (member name d ms) =
    there (places.Name Sources name) (ipv4_of name) flaws.Source _ _
    (joined _ _ (grant_tests ends Sources name d) (members_tests Sources IsSource (grant_tests ends) ms)
    (grant ends Sources name d) (sources ends ms))

topic_by : (place : Location) (o : Option (List ℕ))
    → ok_or o (stop_at place flaws.NotText) >>=
    (λ text. unless (name_fault text) (λ fault. stop_at place (flaws.TopicName text fault)))
    ≡ ends_at place (unless_some o flaws.NotText)
    (ends_at place (option_map (flaws.TopicName (unwrap_or o [])) (name_fault (unwrap_or o []))) (Ok tt))
topic_by place None = refl
topic_by place (Some text) = named place text (name_fault text)
  where
    named : (place : Location) (text : List ℕ) (fault : Option TextFault)
        → unless fault (λ f. stop_at place (flaws.TopicName text f))
        ≡ ends_at place (option_map (flaws.TopicName text) fault) (Ok tt)
    named place text None = refl
    named place text (Some fault) = refl

topics : (ms : Members) → topics_check ms ≡ first (members_tests Topics IsTopicId topic_tests ms)
topics no_members = refl
topics (member name d ms) =
    there (places.Name Topics name) (topic_id_of name) flaws.TopicId _ _
    (joined _ _ (topic_tests Topics name d) (members_tests Topics IsTopicId topic_tests ms)
    (topic_by (places.Value Topics name Plain Whole) (as_str d)) (topics ms))

-- ---- parts

many : (part : Part) (b : Bool) (flaw : Flaw) (ms : Members) (check : Members → Result Unit Stop)
    (rest : Result Unit Stop) → check ms ≡ rest
    → cond b (Err (stop_at (places.Part part) flaw)) (Ok ms) >>= check
    ≡ ends_at (places.Part part) (cond b (Some flaw) None) rest
many part true flaw ms check rest is = refl
many part false flaw ms check rest is = is

part_by : (part : Part) (most : ℕ) (rule : Rule) (tests : Part → List ℕ → Data → List Test)
    (check : Members → Result Unit Stop) (d : Data)
    → ((ms : Members) → check ms ≡ first (members_tests part rule tests ms))
    → part_within part most d >>= check ≡ first (part_tests part most rule tests (Some d))
part_by part most rule tests check (object ms) are =
    many part (ltb most (members_len ms)) _ ms check _ (are ms)
part_by part most rule tests check null are = refl
part_by part most rule tests check (boolean b) are = refl
part_by part most rule tests check (number n) are = refl
part_by part most rule tests check (string text) are = refl
part_by part most rule tests check (array ds) are = refl

clients_part : (most : ℕ) (ends : Bool) (o : Option Data)
    → clients_in most ends o ≡ first (part_tests Clients most IsClient (grant_tests ends) o)
clients_part most ends None = refl
clients_part most ends (Some d) =
    part_by Clients most IsClient (grant_tests ends) (clients_check ends) d (clients ends)

sources_part : (most : ℕ) (ends : Bool) (o : Option Data)
    → sources_in most ends o ≡ first (part_tests Sources most IsSource (grant_tests ends) o)
sources_part most ends None = refl
sources_part most ends (Some d) =
    part_by Sources most IsSource (grant_tests ends) (sources_check ends) d (sources ends)

topics_part : (most : ℕ) (o : Option Data)
    → topics_in most o ≡ first (part_tests Topics most IsTopicId topic_tests o)
topics_part most None = refl
topics_part most (Some d) = part_by Topics most IsTopicId topic_tests topics_check d topics

-- ---- policies

known_step : (name : List ℕ) (b : Bool) (more : Option (List ℕ)) (rest : Result Unit Stop)
    → unless more (λ unknown. stop_at (places.Member unknown) flaws.UnknownMember) ≡ rest
    → unless (cond b more (Some name)) (λ unknown. stop_at (places.Member unknown) flaws.UnknownMember)
    ≡ ends_at (places.Member name) (unless_true b flaws.UnknownMember) rest
known_step name true more rest is = is
known_step name false more rest is = refl

known : (limited : Bool) (ms : Members) → known_check limited ms ≡ first (known_tests limited ms)
known limited no_members = refl
known limited (member name d ms) =
    known_step name (is_known limited name) (unknown_of limited ms) _ (known limited ms)

abbrev is_version_in : Option Data → Bool
is_version_in g =
    unwrap_or (option_map (λ n. (n == 1) || (n == 2) || (n == 4))
    (option_and_then as_u64 (option_and_then as_number g))) false

abbrev version_or : Bool → Result Unit Stop
version_or b = cond b (Ok tt) (Err (stop_at places.Version flaws.OtherVersion))

one_by : (b : Bool) (c rest : Result Unit Stop) → c ≡ rest
    → version_or b >>= (λ checked. c) ≡ ends_at places.Version (unless_true b flaws.OtherVersion) rest
one_by true c rest is = is
one_by false c rest is = refl

version_by : (g : Option Data) (c : Result Unit Stop) (ts : List Test) → c ≡ first ts
    → (ok_or g (stop_at places.Whole flaws.NoVersion) >>= (λ version. version_or (is_version_in g))) >>=
    (λ checked. c) ≡ ends_at places.Whole (unless_some g flaws.NoVersion) (first (version_tests g ++ ts))
version_by None c ts is = refl
version_by (Some d) c ts is = one_by (is_number_of_version d) c _ is

nested : (a b c : Result Unit Stop) → (a >>= (λ x. b)) >>= (λ y. c) ≡ a >>= (λ x. b >>= (λ y. c))
nested (Ok x) b c = refl
nested (Err stop) b c = refl

all_parts : (limits : Limits) (d : Data)
    → clients_in limits.clients (may_end d) (get (codes "clients") d) >>=
    (λ a. sources_in limits.sources (may_end d) (get (codes "sources") d) >>=
    (λ b. topics_in limits.topics (get (codes "topics") d))) ≡ first (parts_tests limits d)
all_parts limits d =
    joined _ _ (part_tests Clients limits.clients IsClient (grant_tests (may_end d)) (get (codes "clients") d)) _
    (clients_part limits.clients (may_end d) (get (codes "clients") d))
    (joined _ _ (part_tests Sources limits.sources IsSource (grant_tests (may_end d)) (get (codes "sources") d)) _
    (sources_part limits.sources (may_end d) (get (codes "sources") d))
    (topics_part limits.topics (get (codes "topics") d)))

-- ---- limits

name_step : (name : List ℕ) (b : Bool) (more : Option (List ℕ)) (rest : Result Unit Stop)
    → no_other more ≡ rest
    → no_other (cond b more (Some name))
    ≡ ends_at (places.LimitMember name) (unless_true b flaws.UnknownMember) rest
name_step name true more rest is = is
name_step name false more rest is = refl

limit_names : (ms : Members) → no_other (other_limit ms) ≡ first (limit_names_tests ms)
limit_names no_members = refl
limit_names (member name d ms) = name_step name (is_limit name) (other_limit ms) _ (limit_names ms)

limit_by : (place : Location) (flaw : Flaw) (b : Bool)
    → cond b (Ok tt) (Err (stop_at place flaw)) ≡ ends_at place (unless_true b flaw) (Ok tt)
limit_by place flaw true = refl
limit_by place flaw false = refl

one_limit : (name : LimitName) (o : Option Data) → limit_check name o ≡ first (limit_tests name o)
one_limit name None = refl
one_limit name (Some d) =
    limit_by (places.Limit name) (flaws.NotLimit (least_of name) (most_of name))
    (is_in_range (least_of name) (most_of name) d)

limit_members : (ms : Members) (d : Data)
    → limit_members_check d ms ≡ first (limit_members_tests (Some ms) d)
limit_members ms d =
    joined _ _ (limit_names_tests ms) _ (limit_names ms)
    (joined _ _ (limit_tests limit.Clients (get (codes "clients") d)) _
    (one_limit limit.Clients (get (codes "clients") d))
    (joined _ _ (limit_tests limit.InFlight (get (codes "in_flight") d)) _
    (one_limit limit.InFlight (get (codes "in_flight") d))
    (joined _ _ (limit_tests limit.Sources (get (codes "sources") d)) _
    (one_limit limit.Sources (get (codes "sources") d))
    (joined _ _ (limit_tests limit.Topics (get (codes "topics") d)) _
    (one_limit limit.Topics (get (codes "topics") d)) (one_limit limit.Waiting (get (codes "waiting") d))))))

limits : (o : Option Data) → limits_check o ≡ first (limits_tests o)
limits None = refl
limits (Some (object ms)) = limit_members ms (object ms)
limits (Some null) = refl
limits (Some (boolean b)) = refl
limits (Some (number n)) = refl
limits (Some (string text)) = refl
limits (Some (array ds)) = refl

pub whole : (d : Data) → data_check d ≡ first (tests_of d)
whole (object ms) =
    let limited : Bool = may_limit (object ms) in
    let given : Option Data = get (codes "limits") (object ms) in
    nested (version_check (object ms)) (known_check limited ms) _
    ∙ version_by (get (codes "version") (object ms)) _ _
    (joined (known_check limited ms) _ (known_tests limited ms) _ (known limited ms)
    (joined (limits_check given) _ (limits_tests given) _ (limits given)
    (all_parts (limits_in (object ms)) (object ms))))
whole null = refl
whole (boolean b) = refl
whole (number n) = refl
whole (string text) = refl
whole (array ds) = refl

read_first : (r : Result Data PolicyFault) (stop : Stop)
    → or_stop r stop >>= data_check ≡ or_stop r stop >>= (λ d. first (tests_of d))
read_first (Ok d) stop = whole d
read_first (Err fault) stop = refl

pub tests_are_in_order : TestsAreInOrder
tests_are_in_order text = read_first (value_of text) _
