-- Each scope and each policy that a text gives keeps to its bounds.
use Rattle.std.proofs.Common.{◌≡◌, ℕ, suc, ◌+◌, ◌≤◌, Bool, true, false, not, cond, ltb, List, [], ◌∷◌, length}
use Rattle.std.proofs.Common.{All, Ordering, Less, Equal, Greater, Option, Some, None, ok_or, Result, Ok, Err}
use Rattle.std.proofs.Common.{IfOk, codes, refl, subst, arith, leb, ◌&&◌, option_and_then}
use Rattle.std.specs.Ordering.{nat_cmp, match_ordering}
use Rattle.std.specs.Cmp.Lexicographic.{slice_cmp}
use Rattle.std.specs.BTreeMap.{insert_entry}
use Rattle.std.specs.Map.{keys_of, values_of}
use Rattle.std.proofs.lemmas.Bool.{ltb-false, leb-true}
use Rattle.std.proofs.lemmas.List.Elements.{All-nil, All-cons}
use Rattle.std.proofs.lemmas.Map.Views.{All-keys-insert_entry, All-values-insert_entry}
use Rattle.serde_json.specs.Data.{Data, null, boolean, number, string, array, object, Items, no_items, item}
use Rattle.serde_json.specs.Data.{Members, no_members, member}
use Rattle.serde_json.specs.Events.{items_len, members_len}
use Rattle.serde_json.specs.Find.{as_number, as_object, as_str, as_u64, get}
use Rattle.sng_text.specs.ClientIds.{is_client_id}
use Rattle.sng_text.specs.Texts.{is_filter, is_name}
use Rattle.sng_scope.proofs.KeyLemmas.{client_of-client, ipv4_of-address, topic_id_of-id}
use Rattle.sng_text.specs.Ipv4.{IsAddress, ipv4_of}
use Rattle.sng_grants.specs.declared.limits.TheConstants.{MAX_POLICY_CLIENTS, MAX_PAIRS, MAX_SOURCES}
use Rattle.sng_grants.specs.declared.limits.TheConstants.{MAX_TOPICS, MAX_WAITING, MAX_FLIGHT}
use Rattle.sng_grants.specs.declared.limits.TheConstants.{DEFAULT_CLIENTS, DEFAULT_SOURCES, DEFAULT_TOPICS}
use Rattle.sng_grants.specs.declared.limits.TheConstants.{DEFAULT_WAITING, DEFAULT_FLIGHT}
use Rattle.sng_grants.specs.Limits.{Limits, IsBetween, AreLimits}
use Rattle.sng_scope.specs.Bounds.{AreWithin, IsGrant, IsPolicy, ScopesAreBounded, PoliciesAreBounded}
use Rattle.sng_grants.specs.Scopes.{IsScope}
use Rattle.sng_scope.specs.Numerals.{topic_id_of}
use Rattle.sng_scope.specs.Policies.{client_of, name_of_data, clients_onto, sources_onto, topics_onto}
use Rattle.sng_scope.specs.Policies.{members_within, clients_of, sources_of, topics_of, is_policy_object}
use Rattle.sng_scope.specs.Policies.{may_end, parts_of, parts_within, policy_of_data}
use Rattle.sng_scope.specs.PolicyLimits.{are_limits, limit_of, limits_by_members, limits_of, limits_of_object}
use Rattle.sng_scope.specs.PolicyLimits.{ranged}
use Rattle.sng_grants.specs.Limits.{default_limits}
use Rattle.sng_scope.specs.Grants.{lasting_grant_of, end_of, grant_of_object, are_grant_members}
use Rattle.sng_scope.specs.Grants.{grant_by_members, grant_of_data}
use Rattle.sng_scope.specs.Scopes.{are_texts, are_permissions, pair_parts, pair_of, pairs_of, scope_of_items}
use Rattle.sng_grants.specs.Sources.{endless, with_grant}
use Rattle.sng_scope.specs.Texts.{value_of, items_of_text, scope_of_encoded, scope_of_data}
use Rattle.sng_grants.specs.Topics.{IsTopicId, with_name}
use Rattle.sng_scope.specs.Steps.{◌>>=◌}
use Rattle.sng_grants.specs.declared.grant.Grant.{Grant}
use Rattle.sng_grants.specs.declared.scope.Pair.{Pair}
use Rattle.sng_grants.specs.Policies.{Policy, ListsWithin}
use Rattle.sng_scope.specs.declared.fault.PolicyFault.{PolicyFault}
use Rattle.sng_scope.specs.declared.fault.PolicyFault.TheVariants.{Shape, BadFilter, BadPermission, BadSource}
use Rattle.sng_scope.specs.declared.fault.PolicyFault.TheVariants.{BadTopicId, TooMany}

-- what holds after a step, since each value that the step gives leads to it
pub after : {A B E : Type 0} (r : Result A E) (next : A → Result B E) (P : A → Type 0) (Q : B → Type 0) → IfOk r P
    → ((a : A) → P a → IfOk (next a) Q) → IfOk (r >>= next) Q
after (Ok a) next P Q h k = k a h
after (Err e) next P Q h k = tt

pub after_any : {A B E : Type 0} (r : Result A E) (next : A → Result B E) (Q : B → Type 0)
    → ((a : A) → IfOk (next a) Q) → IfOk (r >>= next) Q
after_any (Ok a) next Q k = k a
after_any (Err e) next Q k = tt

-- a limit that is kept
within : {A : Type 0} (b : Bool) (r : Result A PolicyFault) (Q : A → Type 0) → (b ≡ false → IfOk r Q)
    → IfOk (cond b (Err TooMany) r) Q
within true r Q k = tt
within false r Q k = k refl

abbrev HasFilter : Pair → Type 0
HasFilter pair = is_filter pair.filter ≡ true

pair_tests : (texts filter permissions : Bool) (pair : Pair) → (filter ≡ true → HasFilter pair)
    → IfOk (cond (not texts) (Err Shape)
    (cond (not filter) (Err BadFilter) (cond (not permissions) (Err BadPermission) (Ok pair)))) HasFilter
pair_tests false filter permissions pair h = tt
pair_tests true false permissions pair h = tt
pair_tests true true false pair h = tt
pair_tests true true true pair h = h refl

pair_of-filter : (d : Data) → IfOk (pair_of d) HasFilter
pair_of-filter d =
    after_any (ok_or (pair_parts d) Shape) _ HasFilter
    (λ parts. pair_tests (are_texts parts.1) (is_filter parts.0) (are_permissions parts.1) _ (λ h. h))

abbrev IsPairs : ℕ → List Pair → Type 0
IsPairs n pairs = (length pairs ≡ n) × All HasFilter pairs

pairs_of-pairs : (ds : Items) → IfOk (pairs_of ds) (IsPairs (items_len ds))
pairs_of-pairs no_items = (refl, All-nil HasFilter)
pairs_of-pairs (item d ds) =
    after (pair_of d) _ HasFilter (IsPairs (suc (items_len ds))) (pair_of-filter d) (λ pair filter.
    after (pairs_of ds) _ (IsPairs (items_len ds)) (IsPairs (suc (items_len ds))) (pairs_of-pairs ds)
    (λ pairs h.
    (omega (arith, h.0), All-cons HasFilter pair pairs filter h.1)))

if_ok_more : {A E : Type 0} (r : Result A E) (P Q : A → Type 0) → IfOk r P → ((a : A) → P a → Q a) → IfOk r Q
if_ok_more (Ok a) P Q h k = k a h
if_ok_more (Err e) P Q h k = tt

scope_of_items-scope : (ds : Items) → IfOk (scope_of_items ds) IsScope
scope_of_items-scope ds =
    within (ltb MAX_PAIRS (items_len ds)) (pairs_of ds) IsScope (λ few.
    let most : items_len ds ≤ MAX_PAIRS = ltb-false MAX_PAIRS (items_len ds) few in
    if_ok_more (pairs_of ds) (IsPairs (items_len ds)) IsScope (pairs_of-pairs ds)
    (λ pairs h. (omega (arith, h.0), h.1)))

scope_of_encoded-scope : (text : List ℕ) → IfOk (scope_of_encoded text) IsScope
scope_of_encoded-scope text = after_any (items_of_text text) scope_of_items IsScope scope_of_items-scope

scope_of_data-scope : (d : Data) → IfOk (scope_of_data d) IsScope
scope_of_data-scope (array ds) = scope_of_items-scope ds
scope_of_data-scope (string text) = scope_of_encoded-scope text
scope_of_data-scope null = tt
scope_of_data-scope (boolean b) = tt
scope_of_data-scope (number n) = tt
scope_of_data-scope (object ms) = tt

pub scopes_are_bounded : ScopesAreBounded
scopes_are_bounded text = after_any (value_of text) scope_of_data IsScope scope_of_data-scope

-- ---- grants

lasting_grant-grant : (d : Data) → IfOk (lasting_grant_of d) IsGrant
lasting_grant-grant d =
    after (scope_of_data d) (λ pairs. Ok (endless pairs)) IsScope IsGrant (scope_of_data-scope d)
    (λ pairs is_scope. is_scope)

grant_of_object-grant : (d : Data) → IfOk (grant_of_object d) IsGrant
grant_of_object-grant d =
    after_any (end_of (get (codes "exp") d)) _ IsGrant (λ end.
    after_any (ok_or (get (codes "scope") d) Shape) _ IsGrant (λ scope.
    after (scope_of_data scope) _ IsScope IsGrant (scope_of_data-scope scope) (λ pairs is_scope. is_scope)))

members_known : (b : Bool) (r : Result Grant PolicyFault) → IfOk r IsGrant → IfOk (cond b r (Err Shape)) IsGrant
members_known true r h = h
members_known false r h = tt

by_members-grant : (o : Option Members) (d : Data) → IfOk (grant_by_members o d) IsGrant
by_members-grant None d = lasting_grant-grant d
by_members-grant (Some ms) d =
    members_known (are_grant_members ms) (grant_of_object d) (grant_of_object-grant d)

grant_of_data-grant : (ends : Bool) (d : Data) → IfOk (grant_of_data ends d) IsGrant
grant_of_data-grant true d = by_members-grant (as_object d) d
grant_of_data-grant false d = lasting_grant-grant d

-- one more entry at most
placed : {A : Type 0} (o : Ordering) (n : ℕ) (a b c : List A) → length a ≤ n → length b ≤ n → length c ≤ n
    → length (match_ordering o a b c) ≤ n
placed Less n a b c h i j = h
placed Equal n a b c h i j = i
placed Greater n a b c h i j = j

length-insert_entry : {K V : Type 0} (cmp : K → K → Ordering) (entries : List (K × V)) (key : K) (value : V)
    → length (insert_entry cmp entries key value) ≤ suc (length entries)
length-insert_entry cmp [] key value = omega arith
length-insert_entry cmp (e ∷ entries) key value =
    let more : length (insert_entry cmp entries key value) ≤ suc (length entries) =
    length-insert_entry cmp entries key value in
    placed (cmp key e.0) (suc (suc (length entries))) _ _ _ (omega arith) (omega arith) (omega arith)

abbrev IsClient : List ℕ → Type 0
IsClient client = is_client_id client ≡ true

abbrev IsName : List ℕ → Type 0
IsName name = is_name name ≡ true

tested_name : (b : Bool) (text : List ℕ) → is_name text ≡ b → IfOk (cond b (Ok text) (Err BadTopicId)) IsName
tested_name true text is = is
tested_name false text is = tt

name_of_data-name : (d : Data) → IfOk (name_of_data d) IsName
name_of_data-name d =
    after_any (ok_or (as_str d) Shape) _ IsName (λ text. tested_name (is_name text) text refl)

clients_onto-within : (ends : Bool) (ms : Members) (n : ℕ) (clients : List (List ℕ × Grant))
    → length clients + members_len ms ≤ n → All IsClient (keys_of clients) → All IsGrant (values_of clients)
    → IfOk (clients_onto ends clients ms) (AreWithin n IsClient IsGrant)
clients_onto-within ends no_members n clients h keys values =
    record { few = omega arith; keys = keys; values = values }
clients_onto-within ends (member name d ms) n clients h keys values =
    after (client_of name) _ IsClient (AreWithin n IsClient IsGrant) (client_of-client name)
    (λ client is_client.
    after (grant_of_data ends d) _ IsGrant (AreWithin n IsClient IsGrant) (grant_of_data-grant ends d)
    (λ grant is_grant.
    clients_onto-within ends ms n (with_grant clients client grant)
    (omega (arith, length-insert_entry (slice_cmp nat_cmp) clients client grant))
    (All-keys-insert_entry (slice_cmp nat_cmp) client grant IsClient clients keys is_client)
    (All-values-insert_entry (slice_cmp nat_cmp) client grant IsGrant clients values is_grant)))

sources_onto-within : (ends : Bool) (ms : Members) (n : ℕ) (sources : List (List ℕ × Grant))
    → length sources + members_len ms ≤ n → All IsAddress (keys_of sources) → All IsGrant (values_of sources)
    → IfOk (sources_onto ends sources ms) (AreWithin n IsAddress IsGrant)
sources_onto-within ends no_members n sources h keys values =
    record { few = omega arith; keys = keys; values = values }
sources_onto-within ends (member name d ms) n sources h keys values =
    after (ok_or (ipv4_of name) BadSource) _ IsAddress (AreWithin n IsAddress IsGrant) (ipv4_of-address name)
    (λ source is_address.
    after (grant_of_data ends d) _ IsGrant (AreWithin n IsAddress IsGrant) (grant_of_data-grant ends d)
    (λ grant is_grant.
    sources_onto-within ends ms n (with_grant sources source grant)
    (omega (arith, length-insert_entry (slice_cmp nat_cmp) sources source grant))
    (All-keys-insert_entry (slice_cmp nat_cmp) source grant IsAddress sources keys is_address)
    (All-values-insert_entry (slice_cmp nat_cmp) source grant IsGrant sources values is_grant)))

topics_onto-within : (ms : Members) (n : ℕ) (topics : List (ℕ × List ℕ)) → length topics + members_len ms ≤ n
    → All IsTopicId (keys_of topics) → All IsName (values_of topics)
    → IfOk (topics_onto topics ms) (AreWithin n IsTopicId IsName)
topics_onto-within no_members n topics h keys values =
    record { few = omega arith; keys = keys; values = values }
topics_onto-within (member name d ms) n topics h keys values =
    after (ok_or (topic_id_of name) BadTopicId) _ IsTopicId (AreWithin n IsTopicId IsName)
    (topic_id_of-id name) (λ id is_id.
    after (name_of_data d) _ IsName (AreWithin n IsTopicId IsName) (name_of_data-name d) (λ topic named.
    topics_onto-within ms n (with_name topics id topic)
    (omega (arith, length-insert_entry nat_cmp topics id topic))
    (All-keys-insert_entry nat_cmp id topic IsTopicId topics keys is_id)
    (All-values-insert_entry nat_cmp id topic IsName topics values named)))

few_members : (b : Bool) (most : ℕ) (ms : Members) → ltb most (members_len ms) ≡ b
    → IfOk (cond b (Err TooMany) (Ok ms)) (λ found. members_len found ≤ most)
few_members true most ms is = tt
few_members false most ms is = ltb-false most (members_len ms) is

members_within-few : (most : ℕ) (d : Data) → IfOk (members_within most d) (λ ms. members_len ms ≤ most)
members_within-few most d =
    after_any (ok_or (as_object d) Shape) _ (λ ms. members_len ms ≤ most)
    (λ ms. few_members (ltb most (members_len ms)) most ms refl)

clients_of-within : (most : ℕ) (ends : Bool) (o : Option Data)
    → IfOk (clients_of most ends o) (AreWithin most IsClient IsGrant)
clients_of-within most ends None = record { few = omega arith; keys = All-nil IsClient; values = All-nil IsGrant }
clients_of-within most ends (Some d) =
    after (members_within most d) (clients_onto ends []) (λ ms. members_len ms ≤ most)
    (AreWithin most IsClient IsGrant) (members_within-few most d)
    (λ ms few. clients_onto-within ends ms most [] (omega arith) (All-nil IsClient) (All-nil IsGrant))

sources_of-within : (most : ℕ) (ends : Bool) (o : Option Data)
    → IfOk (sources_of most ends o) (AreWithin most IsAddress IsGrant)
sources_of-within most ends None = record { few = omega arith; keys = All-nil IsAddress; values = All-nil IsGrant }
sources_of-within most ends (Some d) =
    after (members_within most d) (sources_onto ends []) (λ ms. members_len ms ≤ most)
    (AreWithin most IsAddress IsGrant) (members_within-few most d)
    (λ ms few. sources_onto-within ends ms most [] (omega arith) (All-nil IsAddress) (All-nil IsGrant))

topics_of-within : (most : ℕ) (o : Option Data) → IfOk (topics_of most o) (AreWithin most IsTopicId IsName)
topics_of-within most None = record { few = omega arith; keys = All-nil IsTopicId; values = All-nil IsName }
topics_of-within most (Some d) =
    after (members_within most d) (topics_onto []) (λ ms. members_len ms ≤ most)
    (AreWithin most IsTopicId IsName) (members_within-few most d)
    (λ ms few. topics_onto-within ms most [] (omega arith) (All-nil IsTopicId) (All-nil IsName))

-- ---- limits

in_range : (a b : Bool) (least most n : ℕ) → leb least n ≡ a → leb n most ≡ b
    → IfOk (cond (a && b) (Ok n) (Err Shape)) (IsBetween least most)
in_range false b least most n above below = tt
in_range true false least most n above below = tt
in_range true true least most n above below = (leb-true least n above, leb-true n most below)

limit_of-between : (default least most : ℕ) (o : Option Data) → IsBetween least most default
    → IfOk (limit_of default least most o) (IsBetween least most)
limit_of-between default least most None is = is
limit_of-between default least most (Some d) is =
    after_any (ok_or (option_and_then as_u64 (as_number d)) Shape) (ranged least most) (IsBetween least most)
    (λ n. in_range (leb least n) (leb n most) least most n refl refl)

limits_of_object-limits : (d : Data) → IfOk (limits_of_object d) AreLimits
limits_of_object-limits d =
    after (limit_of DEFAULT_CLIENTS 1 MAX_POLICY_CLIENTS (get (codes "clients") d)) _
    (IsBetween 1 MAX_POLICY_CLIENTS) AreLimits
    (limit_of-between DEFAULT_CLIENTS 1 MAX_POLICY_CLIENTS (get (codes "clients") d)
    (omega arith, omega arith)) (λ clients c.
    after (limit_of DEFAULT_FLIGHT DEFAULT_FLIGHT MAX_FLIGHT (get (codes "in_flight") d)) _
    (IsBetween DEFAULT_FLIGHT MAX_FLIGHT) AreLimits
    (limit_of-between DEFAULT_FLIGHT DEFAULT_FLIGHT MAX_FLIGHT (get (codes "in_flight") d)
    (omega arith, omega arith)) (λ in_flight f.
    after (limit_of DEFAULT_SOURCES 0 MAX_SOURCES (get (codes "sources") d)) _
    (IsBetween 0 MAX_SOURCES) AreLimits
    (limit_of-between DEFAULT_SOURCES 0 MAX_SOURCES (get (codes "sources") d)
    (omega arith, omega arith)) (λ sources s.
    after (limit_of DEFAULT_TOPICS 0 MAX_TOPICS (get (codes "topics") d)) _
    (IsBetween 0 MAX_TOPICS) AreLimits
    (limit_of-between DEFAULT_TOPICS 0 MAX_TOPICS (get (codes "topics") d)
    (omega arith, omega arith)) (λ topics t.
    after (limit_of DEFAULT_WAITING DEFAULT_WAITING MAX_WAITING (get (codes "waiting") d)) _
    (IsBetween DEFAULT_WAITING MAX_WAITING) AreLimits
    (limit_of-between DEFAULT_WAITING DEFAULT_WAITING MAX_WAITING (get (codes "waiting") d)
    (omega arith, omega arith)) (λ waiting w.
    record { clients = c; sources = s; topics = t; waiting = w; in_flight = f })))))

limits_known : (b : Bool) (r : Result Limits PolicyFault) → IfOk r AreLimits
    → IfOk (cond b r (Err Shape)) AreLimits
limits_known true r h = h
limits_known false r h = tt

by_members-limits : (o : Option Members) (d : Data) → IfOk (limits_by_members o d) AreLimits
by_members-limits None d = tt
by_members-limits (Some ms) d = limits_known (are_limits ms) (limits_of_object d) (limits_of_object-limits d)

default-limits : AreLimits default_limits
default-limits = record {
  clients = (omega arith, omega arith);
  sources = (omega arith, omega arith);
  topics = (omega arith, omega arith);
  waiting = (omega arith, omega arith);
  in_flight = (omega arith, omega arith);
}

limits_of-limits : (o : Option Data) → IfOk (limits_of o) AreLimits
limits_of-limits None = default-limits
limits_of-limits (Some d) = by_members-limits (as_object d) d

-- ---- the policy

-- each part keeps to whatever its length keeps to
abbrev pub ClientsFit : Policy → Type 0
ClientsFit policy = (most : ℕ) → length policy.clients ≤ most → AreWithin most IsClient IsGrant policy.clients

abbrev pub SourcesFit : Policy → Type 0
SourcesFit policy = (most : ℕ) → length policy.sources ≤ most → AreWithin most IsAddress IsGrant policy.sources

abbrev pub TopicsFit : Policy → Type 0
TopicsFit policy = (most : ℕ) → length policy.topics ≤ most → AreWithin most IsTopicId IsName policy.topics

-- so a policy does that lists no more than its limits allow
pub policy-within : (parts policy : Policy) (limits : Limits) → parts ≡ policy → limits ≡ policy.limits
    → AreLimits limits → ListsWithin policy → ClientsFit parts → SourcesFit parts → TopicsFit parts
    → IsPolicy policy
policy-within parts policy limits same set are lists clients sources topics = record {
  limits = subst AreLimits set are;
  clients = subst ClientsFit same clients policy.limits.clients lists.clients;
  sources = subst SourcesFit same sources policy.limits.sources lists.sources;
  topics = subst TopicsFit same topics policy.limits.topics lists.topics;
}

parts_within-policy : (limits : Limits) (d : Data) → AreLimits limits → IfOk (parts_within limits d) IsPolicy
parts_within-policy limits d are =
    after (clients_of limits.clients (may_end d) (get (codes "clients") d)) _
    (AreWithin limits.clients IsClient IsGrant) IsPolicy
    (clients_of-within limits.clients (may_end d) (get (codes "clients") d)) (λ clients c.
    after (sources_of limits.sources (may_end d) (get (codes "sources") d)) _
    (AreWithin limits.sources IsAddress IsGrant) IsPolicy
    (sources_of-within limits.sources (may_end d) (get (codes "sources") d)) (λ sources s.
    after (topics_of limits.topics (get (codes "topics") d)) _
    (AreWithin limits.topics IsTopicId IsName) IsPolicy
    (topics_of-within limits.topics (get (codes "topics") d)) (λ topics t.
    record { limits = are; clients = c; sources = s; topics = t })))

parts_of-policy : (d : Data) → IfOk (parts_of d) IsPolicy
parts_of-policy d =
    after (limits_of (get (codes "limits") d)) (λ limits. parts_within limits d) AreLimits IsPolicy
    (limits_of-limits (get (codes "limits") d)) (λ limits are. parts_within-policy limits d are)

shaped : (b : Bool) (r : Result Policy PolicyFault) → IfOk r IsPolicy → IfOk (cond b r (Err Shape)) IsPolicy
shaped true r h = h
shaped false r h = tt

pub policies_are_bounded : PoliciesAreBounded
policies_are_bounded text =
    after_any (value_of text) policy_of_data IsPolicy
    (λ d. shaped (is_policy_object d) (parts_of d) (parts_of-policy d))
