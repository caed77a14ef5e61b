-- The search for a place ends with the fault of the text, test by test.
use Rattle.std.proofs.Common.{◌≡◌, ℕ, suc, Bool, true, false, not, ◌&&◌, ◌||◌, ◌==◌, cond, ltb, nat_le, List}
use Rattle.std.proofs.Common.{[], ◌∷◌}
use Rattle.std.proofs.Common.{Option, Some, None, is_none, option_map, option_and_then, unwrap_or, ok_or}
use Rattle.std.proofs.Common.{Result, Ok, Err, IfErr, codes, refl, sym, ap, ◌∙◌}
use Rattle.std.specs.Str.{is_utf8}
use Rattle.serde_json.specs.Data.{Data, null, boolean, number, string, array, object, Items, no_items, item}
use Rattle.serde_json.specs.Data.{Members, no_members, member}
use Rattle.serde_json.specs.Events.{items_len, members_len}
use Rattle.serde_json.specs.Find.{get, as_array, as_number, as_object, as_str, as_u64}
use Rattle.serde_json.specs.Read.{read}
use Rattle.sng_text.specs.ClientIds.{client_id_fault}
use Rattle.sng_text.specs.Ipv4.{ipv4_of}
use Rattle.sng_text.specs.Texts.{filter_fault, name_fault}
use Rattle.sng_text.specs.declared.fault.TextFault.{TextFault}
use Rattle.sng_grants.specs.Sources.{endless, with_grant}
use Rattle.sng_grants.specs.Topics.{with_name}
use Rattle.sng_grants.specs.Limits.{Limits}
use Rattle.sng_grants.specs.declared.limits.TheConstants.{MAX_POLICY_CLIENTS, MAX_PAIRS, MAX_SOURCES}
use Rattle.sng_grants.specs.declared.limits.TheConstants.{MAX_TOPICS, MAX_WAITING, MAX_FLIGHT, DEFAULT_CLIENTS}
use Rattle.sng_grants.specs.declared.limits.TheConstants.{DEFAULT_SOURCES, DEFAULT_TOPICS, DEFAULT_WAITING}
use Rattle.sng_grants.specs.declared.limits.TheConstants.{DEFAULT_FLIGHT}
use Rattle.sng_grants.specs.declared.grant.Grant.{Grant}
use Rattle.sng_grants.specs.declared.scope.Pair.{Pair}
use Rattle.sng_scope.specs.Numerals.{topic_id_of}
use Rattle.sng_scope.specs.Grants.{are_grant_members, end_of, grant_by_members, grant_of_data}
use Rattle.sng_scope.specs.Grants.{grant_of_object, is_grant_member, lasting_grant_of}
use Rattle.sng_scope.specs.Policies.{are_known, client_of, clients_of, clients_onto, is_known, is_policy_object}
use Rattle.sng_scope.specs.Policies.{is_version, may_end, may_limit, members_within, name_of_data, parts_of}
use Rattle.sng_scope.specs.Policies.{parts_within}
use Rattle.sng_scope.specs.PolicyLimits.{are_limits, is_limit, limit_of, limits_by_members, limits_of}
use Rattle.sng_scope.specs.PolicyLimits.{limits_of_object, ranged}
use Rattle.sng_scope.specs.Policies.{policy_of_data, sources_of, sources_onto, topics_of, topics_onto}
use Rattle.sng_scope.specs.Scopes.{are_permissions, are_texts, is_text, says, pair_from, pair_of, pairs_of}
use Rattle.sng_scope.specs.Scopes.{scope_of_items, text_and_array}
use Rattle.sng_scope.specs.Scopes as scopes
use Rattle.sng_scope.specs.Steps.{◌>>=◌}
use Rattle.sng_scope.specs.Texts.{bytes_of, scope_of_data, scope_of_encoded, value_of}
use Rattle.sng_scope.specs.declared.fault.PolicyFault.{PolicyFault}
use Rattle.sng_scope.specs.declared.fault.PolicyFault.TheVariants as faults
use Rattle.sng_places.specs.Flaws.{fault_of}
use Rattle.sng_places.specs.Laws.{PlacesAreOfFaults, blamed, fault_at, forget}
use Rattle.sng_places.specs.LimitPlaces.{least_of, limit_check, limit_members_check, limits_check, limits_in}
use Rattle.sng_places.specs.LimitPlaces.{limits_or, limits_stop, most_of, no_other, other_limit}
use Rattle.sng_places.specs.Places.{client_check, clients_check, clients_in, data_check, end_check}
use Rattle.sng_places.specs.Places.{ending_check, grant_check, known_check, object_check}
use Rattle.sng_places.specs.Places.{part_within, placed, sources_check, sources_in}
use Rattle.sng_places.specs.Places.{text_check, topic_check, topics_check, topics_in, unknown_of, unless}
use Rattle.sng_places.specs.Places.{version_check, within}
use Rattle.sng_places.specs.Places as places
use Rattle.sng_places.specs.ScopePlaces.{encoded_check, filter_by, items_check, no_text_from, or_stop}
use Rattle.sng_places.specs.ScopePlaces.{other_from, pair_check, pairs_check, parts_check, permissions_by}
use Rattle.sng_places.specs.ScopePlaces.{scope_check, stop_at, texts_by, two_check, two_of}
use Rattle.sng_places.specs.declared.flaw.Flaw.TheVariants as flaws
use Rattle.sng_places.specs.declared.location.Form.{Form}
use Rattle.sng_places.specs.declared.location.Form.TheVariants as forms
use Rattle.sng_places.specs.declared.location.LimitName.{LimitName}
use Rattle.sng_places.specs.declared.location.LimitName.TheVariants as limit
use Rattle.sng_places.specs.declared.location.Part.{Part}
use Rattle.sng_places.specs.declared.location.Part.TheVariants as parts_of_a_policy
use Rattle.sng_places.specs.declared.location.Location.{Location}
use Rattle.sng_places.specs.declared.location.Location.TheVariants as all_places
use Rattle.sng_places.specs.declared.location.Spot.{Spot}
use Rattle.sng_places.specs.declared.location.Spot.TheVariants as spots
use Rattle.sng_places.specs.declared.stop.ScopeStop.{ScopeStop}
use Rattle.sng_places.specs.declared.stop.ScopeStop.TheVariants as scope_stops
use Rattle.sng_places.specs.declared.stop.Stop.{Stop}

-- the fault of a scope whose search ends so
abbrev scope_fault : ScopeStop → PolicyFault
scope_fault (scope_stops.At found) = fault_of found.flaw
scope_fault scope_stops.Memory = faults.Memory

-- ---- steps

-- a test, and what follows it
chain : {A B S : Type 0} (fault : S → PolicyFault) (r : Result A PolicyFault)
    (next : A → Result B PolicyFault) (c : Result Unit S) (rest : Result Unit S)
    → blamed fault c ≡ forget r → ((a : A) → blamed fault rest ≡ forget (next a))
    → blamed fault (c >>= (λ checked. rest)) ≡ forget (r >>= next)
chain fault (Ok a) next (Ok checked) rest is k = k a
chain fault (Ok a) next (Err stop) rest is k = absurd (cc)
chain fault (Err e) next (Ok checked) rest is k = absurd (cc)
chain fault (Err e) next (Err stop) rest is k = is

-- a value that both take
taken : {A B S : Type 0} (fault : S → PolicyFault) (o : Option A) (e : PolicyFault) (stop : S)
    (next : A → Result B PolicyFault) (rest : A → Result Unit S)
    → fault stop ≡ e → ((a : A) → blamed fault (rest a) ≡ forget (next a))
    → blamed fault (ok_or o stop >>= rest) ≡ forget (ok_or o e >>= next)
taken fault None e stop next rest is k = ap Err is
taken fault (Some a) e stop next rest is k = k a

-- a value that both take from what was read
read_by : {A B S : Type 0} (fault : S → PolicyFault) (r : Result A PolicyFault) (stop : S)
    (next : A → Result B PolicyFault) (rest : A → Result Unit S)
    → IfErr r (λ e. fault stop ≡ e) → ((a : A) → blamed fault (rest a) ≡ forget (next a))
    → blamed fault (or_stop r stop >>= rest) ≡ forget (r >>= next)
read_by fault (Ok a) stop next rest is k = k a
read_by fault (Err e) stop next rest is k = ap Err is

-- a value that is made of what was found
made : {A B : Type 0} (r : Result A PolicyFault) (f : A → B) → forget (r >>= (λ a. Ok (f a))) ≡ forget r
made (Ok a) f = refl
made (Err e) f = refl

assoc : {A B C : Type 0} (r : Result A PolicyFault) (f : A → Result B PolicyFault)
    (g : B → Result C PolicyFault) → (r >>= f) >>= g ≡ r >>= (λ a. f a >>= g)
assoc (Ok a) f g = refl
assoc (Err e) f g = refl

-- what has its shape, and what follows it
abbrev shaped : Bool → Result Unit PolicyFault
shaped b = cond b (Ok tt) (Err faults.Shape)

with_shape : {A : Type 0} (b : Bool) (c : Result Unit Stop) (rest : Result Unit Stop)
    (r : Result A PolicyFault)
    → blamed fault_at c ≡ shaped b → blamed fault_at rest ≡ forget r
    → blamed fault_at (c >>= (λ object. rest)) ≡ forget (cond b r (Err faults.Shape))
with_shape true (Ok checked) rest r is k = k
with_shape false (Ok checked) rest r is k = absurd (cc)
with_shape true (Err stop) rest r is k = absurd (cc)
with_shape false (Err stop) rest r is k = is

-- ---- pairs

-- one more that passes a test, or the place of one that does not
found : {A : Type 0} (b rest : Bool) (o : Option A) (here : A) → rest ≡ is_none o
    → b && rest ≡ is_none (cond b o (Some here))
found true rest o here is = is
found false rest o here is = refl

are_texts-none : (k : ℕ) (ds : Items) → are_texts ds ≡ is_none (no_text_from k ds)
are_texts-none k no_items = refl
are_texts-none k (item d ds) =
    found (is_text d) (are_texts ds) (no_text_from (suc k) ds) k (are_texts-none (suc k) ds)

are_permissions-none : (k : ℕ) (ds : Items) → are_permissions ds ≡ is_none (other_from k ds)
are_permissions-none k no_items = refl
are_permissions-none k (item d ds) =
    found (says (codes "pub") d || says (codes "sub") d) (are_permissions ds) (other_from (suc k) ds)
    (k, unwrap_or (as_str d) []) (are_permissions-none (suc k) ds)

parts_by : (form : Form) (i : ℕ) (text : List ℕ) (texts : Option ℕ) (filter : Option TextFault)
    (other : Option (ℕ × List ℕ)) (pair : Pair)
    → blamed scope_fault (texts_by form i texts >>=
    (λ a. filter_by form i text filter >>= (λ b. permissions_by form i other)))
    ≡ forget (cond (not (is_none texts)) (Err faults.Shape)
    (cond (not (is_none filter)) (Err faults.BadFilter)
    (cond (not (is_none other)) (Err faults.BadPermission) (Ok pair))))
parts_by form i text (Some k) filter other pair = refl
parts_by form i text None (Some fault) other pair = refl
parts_by form i text None None (Some other) pair = refl
parts_by form i text None None None pair = refl

parts : (form : Form) (i : ℕ) (filter : List ℕ) (permissions : Items)
    → blamed scope_fault (parts_check form i filter permissions) ≡ forget (pair_from filter permissions)
parts form i filter permissions =
    rw (are_texts-none 0 permissions, are_permissions-none 0 permissions)
    (parts_by form i filter (no_text_from 0 permissions) (filter_fault filter) (other_from 0 permissions) _)

abbrev both : Option (List ℕ) → Option Items → Option (List ℕ × Items)
both filter permissions = option_and_then (λ s. option_map (λ ds. (s, ds)) permissions) filter

two_by : (form : Form) (i : ℕ) (filter : Option (List ℕ)) (permissions : Option Items)
    → blamed scope_fault (ok_or filter (stop_at form (spots.Filter i) flaws.NotText) >>=
    (λ text. ok_or permissions (stop_at form (spots.Permissions i) flaws.NotArray) >>=
    (λ ds. parts_check form i text ds)))
    ≡ forget (ok_or (both filter permissions) faults.Shape >>= (λ two. pair_from two.0 two.1))
two_by form i None permissions = refl
two_by form i (Some text) None = refl
two_by form i (Some text) (Some ds) = parts form i text ds

pair_by : (form : Form) (i : ℕ) (o : Option Items)
    → blamed scope_fault (ok_or (option_and_then two_of o) (stop_at form (spots.Pair i) flaws.NotPair) >>=
    (λ two. two_check form i two.0 two.1))
    ≡ forget (ok_or (option_and_then scopes.two_of o) faults.Shape >>= (λ two. pair_from two.0 two.1))
pair_by form i None = refl
pair_by form i (Some no_items) = refl
pair_by form i (Some (item d no_items)) = refl
pair_by form i (Some (item d (item e no_items))) = two_by form i (as_str d) (as_array e)
pair_by form i (Some (item d (item e (item f ds)))) = refl

pair : (form : Form) (i : ℕ) (d : Data) → blamed scope_fault (pair_check form i d) ≡ forget (pair_of d)
pair form i d = pair_by form i (as_array d)

pairs : (form : Form) (i : ℕ) (ds : Items) → blamed scope_fault (pairs_check form i ds) ≡ forget (pairs_of ds)
pairs form i no_items = refl
pairs form i (item d ds) =
    chain scope_fault (pair_of d) _ (pair_check form i d) (pairs_check form (suc i) ds) (pair form i d)
    (λ p. pairs form (suc i) ds ∙ sym (made (pairs_of ds) (λ ps. p ∷ ps)))

-- ---- scopes

limited : {A S : Type 0} (fault : S → PolicyFault) (b : Bool) (stop : S) (r : Result A PolicyFault)
    (c : Result Unit S)
    → fault stop ≡ faults.TooMany → blamed fault c ≡ forget r
    → blamed fault (cond b (Err stop) c) ≡ forget (cond b (Err faults.TooMany) r)
limited fault true stop r c is k = ap Err is
limited fault false stop r c is k = k

items : (form : Form) (ds : Items) → blamed scope_fault (items_check form ds) ≡ forget (scope_of_items ds)
items form ds =
    limited scope_fault (ltb MAX_PAIRS (items_len ds)) _ (pairs_of ds) (pairs_check form 0 ds) refl
    (pairs form 0 ds)

only : {A : Type 0} (o : Option A) (e f : PolicyFault) → f ≡ e → IfErr (ok_or o e) (λ g. f ≡ g)
only None e f is = is
only (Some a) e f is = tt

only_json : (b : Bool) (o : Option Data)
    → IfErr (cond b (ok_or o faults.NotJson) (Err faults.NotJson)) (λ g. faults.NotJson ≡ g)
only_json true o = only o faults.NotJson faults.NotJson refl
only_json false o = refl

encoded : (text : List ℕ) → blamed scope_fault (encoded_check text) ≡ forget (scope_of_encoded text)
encoded text =
    read_by scope_fault (bytes_of text) _
    (λ bytes. (value_of bytes >>= (λ value. ok_or (as_array value) faults.Shape)) >>= scope_of_items) _
    (only _ faults.BadBase64 faults.BadBase64 refl)
    (λ bytes. read_by scope_fault (value_of bytes) _
    (λ value. ok_or (as_array value) faults.Shape >>= scope_of_items) _
    (only_json (is_utf8 bytes) (read bytes))
    (λ value. taken scope_fault (as_array value) faults.Shape _ scope_of_items _ refl
    (λ ds. items forms.Encoded ds))
    ∙ ap forget (sym (assoc (value_of bytes) (λ value. ok_or (as_array value) faults.Shape) scope_of_items)))
    ∙ ap forget (sym (assoc (bytes_of text)
    (λ bytes. value_of bytes >>= (λ value. ok_or (as_array value) faults.Shape)) scope_of_items))

scope : (d : Data) → blamed scope_fault (scope_check d) ≡ forget (scope_of_data d)
scope (array ds) = items forms.Plain ds
scope (string text) = encoded text
scope null = refl
scope (boolean b) = refl
scope (number n) = refl
scope (object ms) = refl

-- ---- members

at_place : (place : Form → Spot → Location) (r : Result Unit ScopeStop)
    → blamed fault_at (placed place r) ≡ blamed scope_fault r
at_place place (Ok checked) = refl
at_place place (Err (scope_stops.At found)) = refl
at_place place (Err scope_stops.Memory) = refl

lasting : (part : Part) (name : List ℕ) (d : Data)
    → blamed fault_at (within part name (scope_check d)) ≡ forget (lasting_grant_of d)
lasting part name d =
    at_place (all_places.Value part name) (scope_check d) ∙ scope d ∙ sym (made (scope_of_data d) endless)

unless_shaped : {F : Type 0} (o : Option F) (stop : F → Stop) → ((f : F) → fault_at (stop f) ≡ faults.Shape)
    → blamed fault_at (unless o stop) ≡ shaped (is_none o)
unless_shaped None stop is = refl
unless_shaped (Some f) stop is = ap Err (is f)

are_grant_members-none : (ms : Members) → are_grant_members ms ≡ is_none (places.other_of ms)
are_grant_members-none no_members = refl
are_grant_members-none (member name d ms) =
    found (is_grant_member name) (are_grant_members ms) (places.other_of ms) name (are_grant_members-none ms)

end_by : (part : Part) (name : List ℕ) (o : Option ℕ)
    → blamed fault_at (ok_or o (places.stop_at (all_places.End part name) flaws.NotEnd) >>= (λ end. Ok tt))
    ≡ forget (ok_or o faults.Shape >>= (λ end. Ok (Some end)))
end_by part name None = refl
end_by part name (Some end) = refl

end_in : (part : Part) (name : List ℕ) (o : Option Data)
    → blamed fault_at (end_check part name o) ≡ forget (end_of o)
end_in part name None = refl
end_in part name (Some d) = end_by part name (option_and_then as_u64 (as_number d))

members_of : (part : Part) (name : List ℕ) (ms : Members)
    → blamed fault_at (unless (places.other_of ms)
    (λ other. places.stop_at (all_places.Other part name other) flaws.UnknownMember))
    ≡ shaped (are_grant_members ms)
members_of part name ms =
    rw (are_grant_members-none ms) (unless_shaped (places.other_of ms) _ (λ other. refl))

ending : (part : Part) (name : List ℕ) (d : Data) (o : Option Members)
    → blamed fault_at (ending_check part name o d) ≡ forget (grant_by_members o d)
ending part name d None = lasting part name d
ending part name d (Some ms) =
    with_shape (are_grant_members ms) _ _ (grant_of_object d) (members_of part name ms)
    (chain fault_at (end_of (get (codes "exp") d)) _ (end_check part name (get (codes "exp") d)) _
    (end_in part name (get (codes "exp") d))
    (λ until. taken fault_at (get (codes "scope") d) faults.Shape _ _ _ refl
    (λ s. at_place (all_places.Scope part name) (scope_check s) ∙ scope s ∙ sym (made (scope_of_data s) _))))

grant : (ends : Bool) (part : Part) (name : List ℕ) (d : Data)
    → blamed fault_at (grant_check ends part name d) ≡ forget (grant_of_data ends d)
grant true part name d = ending part name d (as_object d)
grant false part name d = lasting part name d

unless_by : {A F : Type 0} (o : Option F) (a : A) (e : PolicyFault) (stop : F → Stop)
    → ((f : F) → fault_at (stop f) ≡ e)
    → blamed fault_at (unless o stop) ≡ forget (cond (is_none o) (Ok a) (Err e))
unless_by None a e stop is = refl
unless_by (Some f) a e stop is = ap Err (is f)

client : (name : List ℕ) → blamed fault_at (client_check name) ≡ forget (client_of name)
client name = unless_by (client_id_fault name) name faults.BadClientId _ (λ f. refl)

clients : (ends : Bool) (ms : Members) (listed : List (List ℕ × Grant))
    → blamed fault_at (clients_check ends ms) ≡ forget (clients_onto ends listed ms)
clients ends no_members listed = refl
clients ends (member name d ms) listed =
    chain fault_at (client_of name) _ (client_check name) _ (client name)
    (λ key. chain fault_at (grant_of_data ends d) _ (grant_check ends parts_of_a_policy.Clients name d)
    (clients_check ends ms) (grant ends parts_of_a_policy.Clients name d)
    (λ granted. clients ends ms (with_grant listed key granted)))

sources : (ends : Bool) (ms : Members) (listed : List (List ℕ × Grant))
    → blamed fault_at (sources_check ends ms) ≡ forget (sources_onto ends listed ms)
sources ends no_members listed = refl
sources ends (member name d ms) listed =
    taken fault_at (ipv4_of name) faults.BadSource _ _ _ refl
    (λ key. chain fault_at (grant_of_data ends d) _ (grant_check ends parts_of_a_policy.Sources name d)
    (sources_check ends ms) (grant ends parts_of_a_policy.Sources name d)
    (λ granted. sources ends ms (with_grant listed key granted)))

topic : (name : List ℕ) (d : Data) → blamed fault_at (topic_check name d) ≡ forget (name_of_data d)
topic name d =
    taken fault_at (as_str d) faults.Shape _ _ _ refl
    (λ text. unless_by (name_fault text) text faults.BadTopicId _ (λ f. refl))

topics : (ms : Members) (listed : List (ℕ × List ℕ))
    → blamed fault_at (topics_check ms) ≡ forget (topics_onto listed ms)
topics no_members listed = refl
topics (member name d ms) listed =
    taken fault_at (topic_id_of name) faults.BadTopicId _ _ _ refl
    (λ id. chain fault_at (name_of_data d) _ (topic_check name d) (topics_check ms) (topic name d)
    (λ text. topics ms (with_name listed id text)))

-- ---- parts

part_by : {A : Type 0} (part : Part) (most : ℕ) (d : Data) (next : Members → Result A PolicyFault)
    (rest : Members → Result Unit Stop)
    → ((ms : Members) → blamed fault_at (rest ms) ≡ forget (next ms))
    → blamed fault_at (part_within part most d >>= rest) ≡ forget (members_within most d >>= next)
part_by part most d next rest k = by_object (as_object d)
  where
    by_limit : (b : Bool) (ms : Members) (stop : Stop) → fault_at stop ≡ faults.TooMany
        → blamed fault_at (cond b (Err stop) (Ok ms) >>= rest)
        ≡ forget (cond b (Err faults.TooMany) (Ok ms) >>= next)
    by_limit true ms stop is = ap Err is
    by_limit false ms stop is = k ms

    by_object : (o : Option Members)
        → blamed fault_at ((ok_or o (places.stop_at (all_places.Part part) flaws.NotObject) >>=
        (λ ms. cond (ltb most (members_len ms))
        (Err (places.stop_at (all_places.Part part) (flaws.TooMany (members_len ms) most)))
        (Ok ms))) >>= rest)
        ≡ forget ((ok_or o faults.Shape >>=
        (λ ms. cond (ltb most (members_len ms)) (Err faults.TooMany) (Ok ms))) >>= next)
    by_object None = refl
    by_object (Some ms) = by_limit (ltb most (members_len ms)) ms _ refl

clients_part : (most : ℕ) (ends : Bool) (o : Option Data)
    → blamed fault_at (clients_in most ends o) ≡ forget (clients_of most ends o)
clients_part most ends None = refl
clients_part most ends (Some d) =
    part_by parts_of_a_policy.Clients most d (clients_onto ends []) (clients_check ends)
    (λ ms. clients ends ms [])

sources_part : (most : ℕ) (ends : Bool) (o : Option Data)
    → blamed fault_at (sources_in most ends o) ≡ forget (sources_of most ends o)
sources_part most ends None = refl
sources_part most ends (Some d) =
    part_by parts_of_a_policy.Sources most d (sources_onto ends []) (sources_check ends)
    (λ ms. sources ends ms [])

topics_part : (most : ℕ) (o : Option Data) → blamed fault_at (topics_in most o) ≡ forget (topics_of most o)
topics_part most None = refl
topics_part most (Some d) =
    part_by parts_of_a_policy.Topics most d (topics_onto []) topics_check (λ ms. topics ms [])

-- ---- policies

are_known-none : (limited : Bool) (ms : Members) → are_known limited ms ≡ is_none (unknown_of limited ms)
are_known-none limited no_members = refl
are_known-none limited (member name d ms) =
    found (is_known limited name) (are_known limited ms) (unknown_of limited ms) name (are_known-none limited ms)

abbrev is_version_in : Option Data → Bool
is_version_in g =
    unwrap_or (option_map (λ n. (n == 1) || (n == 2) || (n == 4))
    (option_and_then as_u64 (option_and_then as_number g))) false

abbrev version_or : Bool → Result Unit Stop
version_or b = cond b (Ok tt) (Err (places.stop_at all_places.Version flaws.OtherVersion))

known_by : (version : Bool) (o : Option (List ℕ))
    → blamed fault_at (version_or version >>=
    (λ checked. unless o (λ name. places.stop_at (all_places.Member name) flaws.UnknownMember)))
    ≡ shaped (version && is_none o)
known_by false o = refl
known_by true None = refl
known_by true (Some name) = refl

version_by : (limited : Bool) (g : Option Data) (ms : Members)
    → blamed fault_at ((ok_or g (places.stop_at all_places.Whole flaws.NoVersion) >>=
    (λ version. version_or (is_version_in g))) >>= (λ version. known_check limited ms))
    ≡ shaped (is_version_in g && are_known limited ms)
version_by limited None ms = refl
version_by limited (Some d) ms =
    rw (are_known-none limited ms) (known_by (is_version_in (Some d)) (unknown_of limited ms))

object_by : (d : Data) (o : Option Members)
    → blamed fault_at (ok_or o (places.stop_at all_places.Whole flaws.NotObject) >>=
    (λ ms. version_check d >>= (λ version. known_check (may_limit d) ms)))
    ≡ shaped (is_version d && unwrap_or (option_map (are_known (may_limit d)) o) false)
object_by d None = none (is_version d)
  where
    none : (b : Bool) → Err faults.Shape ≡ shaped (b && false)
    none true = refl
    none false = refl
object_by d (Some ms) = version_by (may_limit d) (get (codes "version") d) ms

abbrev parts_check_within : Limits → Data → Result Unit Stop
parts_check_within limits d =
    clients_in limits.clients (may_end d) (get (codes "clients") d) >>=
    (λ clients. sources_in limits.sources (may_end d) (get (codes "sources") d) >>=
    (λ sources. topics_in limits.topics (get (codes "topics") d)))

parts_in : (limits : Limits) (d : Data)
    → blamed fault_at (parts_check_within limits d) ≡ forget (parts_within limits d)
parts_in limits d =
    let ends : Bool = may_end d in
    chain fault_at (clients_of limits.clients ends (get (codes "clients") d)) _
    (clients_in limits.clients ends (get (codes "clients") d)) _
    (clients_part limits.clients ends (get (codes "clients") d))
    (λ a. chain fault_at (sources_of limits.sources ends (get (codes "sources") d)) _
    (sources_in limits.sources ends (get (codes "sources") d)) (topics_in limits.topics (get (codes "topics") d))
    (sources_part limits.sources ends (get (codes "sources") d))
    (λ b. topics_part limits.topics (get (codes "topics") d)
    ∙ sym (made (topics_of limits.topics (get (codes "topics") d)) _)))

-- ---- limits

number_by : (stop : Stop) (least most : ℕ) (o : Option ℕ) → fault_at stop ≡ faults.Shape
    → blamed fault_at
    (cond (unwrap_or (option_map (λ n. nat_le least n && nat_le n most) o) false) (Ok tt) (Err stop))
    ≡ forget (ok_or o faults.Shape >>= ranged least most)
number_by stop least most None is = ap Err is
number_by stop least most (Some n) is = tested (nat_le least n && nat_le n most)
  where
    tested : (b : Bool)
        → blamed fault_at (cond b (Ok tt) (Err stop)) ≡ forget (cond b (Ok n) (Err faults.Shape))
    tested true = refl
    tested false = ap Err is

limit_by : (name : LimitName) (default : ℕ) (o : Option Data)
    → blamed fault_at (limit_check name o) ≡ forget (limit_of default (least_of name) (most_of name) o)
limit_by name default None = refl
limit_by name default (Some d) =
    number_by _ (least_of name) (most_of name) (option_and_then as_u64 (as_number d)) refl

are_limits-none : (ms : Members) → are_limits ms ≡ is_none (other_limit ms)
are_limits-none no_members = refl
are_limits-none (member name d ms) =
    found (is_limit name) (are_limits ms) (other_limit ms) name (are_limits-none ms)

no_other-shaped : (o : Option (List ℕ)) → blamed fault_at (no_other o) ≡ shaped (is_none o)
no_other-shaped None = refl
no_other-shaped (Some name) = refl

limits_by : (d : Data) (o : Option Members)
    → blamed fault_at (ok_or o (limits_stop all_places.Limits flaws.NotObject) >>=
    (λ ms. limit_members_check d ms))
    ≡ forget (limits_by_members o d)
limits_by d None = refl
limits_by d (Some ms) =
    with_shape (are_limits ms) (no_other (other_limit ms)) _ (limits_of_object d)
    (rw (are_limits-none ms) (no_other-shaped (other_limit ms)))
    (chain fault_at (limit_of DEFAULT_CLIENTS 1 MAX_POLICY_CLIENTS (get (codes "clients") d)) _
    (limit_check limit.Clients (get (codes "clients") d)) _
    (limit_by limit.Clients DEFAULT_CLIENTS (get (codes "clients") d))
    (λ a. chain fault_at (limit_of DEFAULT_FLIGHT DEFAULT_FLIGHT MAX_FLIGHT (get (codes "in_flight") d)) _
    (limit_check limit.InFlight (get (codes "in_flight") d)) _
    (limit_by limit.InFlight DEFAULT_FLIGHT (get (codes "in_flight") d))
    (λ b. chain fault_at (limit_of DEFAULT_SOURCES 0 MAX_SOURCES (get (codes "sources") d)) _
    (limit_check limit.Sources (get (codes "sources") d)) _
    (limit_by limit.Sources DEFAULT_SOURCES (get (codes "sources") d))
    (λ e. chain fault_at (limit_of DEFAULT_TOPICS 0 MAX_TOPICS (get (codes "topics") d)) _
    (limit_check limit.Topics (get (codes "topics") d)) _
    (limit_by limit.Topics DEFAULT_TOPICS (get (codes "topics") d))
    (λ f. limit_by limit.Waiting DEFAULT_WAITING (get (codes "waiting") d)
    ∙ sym (made (limit_of DEFAULT_WAITING DEFAULT_WAITING MAX_WAITING (get (codes "waiting") d)) _))))))

limits_all : (o : Option Data) → blamed fault_at (limits_check o) ≡ forget (limits_of o)
limits_all None = refl
limits_all (Some d) = limits_by d (as_object d)

-- what they bound is checked by the limits that were read
within_limits : (d : Data) (c : Result Unit Stop) (r : Result Limits PolicyFault)
    → blamed fault_at c ≡ forget r
    → blamed fault_at (c >>= (λ checked. parts_check_within (limits_or r) d))
    ≡ forget (r >>= (λ limits. parts_within limits d))
within_limits d (Ok checked) (Ok limits) is = parts_in limits d
within_limits d (Ok checked) (Err fault) is = absurd (cc)
within_limits d (Err stop) (Ok limits) is = absurd (cc)
within_limits d (Err stop) (Err fault) is = is

all_parts : (d : Data)
    → blamed fault_at (limits_check (get (codes "limits") d) >>=
    (λ checked. parts_check_within (limits_in d) d)) ≡ forget (parts_of d)
all_parts d =
    within_limits d (limits_check (get (codes "limits") d)) (limits_of (get (codes "limits") d))
    (limits_all (get (codes "limits") d))

whole : (d : Data) → blamed fault_at (data_check d) ≡ forget (policy_of_data d)
whole d =
    with_shape (is_policy_object d) (object_check d) _ (parts_of d) (object_by d (as_object d)) (all_parts d)

pub places_are_of_faults : PlacesAreOfFaults
places_are_of_faults text =
    read_by fault_at (value_of text) _ policy_of_data data_check (only_json (is_utf8 text) (read text)) whole
