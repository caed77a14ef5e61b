-- A policy is read from what is written of it.
use Rattle.std.proofs.Common.{◌≡◌, ℕ, suc, ◌+◌, ◌==◌, ◌≤◌, ◌&&◌, Bool, true, false, List, [], ◌∷◌, length, nat_le, codes}
use Rattle.std.proofs.Common.{Option, None, is_some, if◌then◌else◌}
use Rattle.std.proofs.Common.{Ordering, Less, Equal, Greater, Some, Result, Ok, Err, ok_or, All}
use Rattle.std.proofs.Common.{nat_cmp, refl, ap, subst, ◌∙◌, arith}
use Rattle.std.proofs.lemmas.Bool.{le-ltb, le-leb, and_parts, eqb-true}
use Rattle.std.proofs.lemmas.Cmp.{nat_cmp_total, nat_list_cmp_total}
use Rattle.std.proofs.lemmas.List.Elements.{All-head, All-tail, All-nil, All-cons}
use Rattle.std.specs.BTreeMap.{insert_entry}
use Rattle.std.specs.Cmp.{IsTotalOrder}
use Rattle.std.specs.Cmp.Lexicographic.{slice_cmp}
use Rattle.std.specs.Fmt.{decimal}
use Rattle.std.specs.Map.{keys_of, values_of}
use Rattle.std.specs.Ordering.{match_ordering}
use Rattle.serde_json.specs.Data.{Data, string, number, unsigned, Members, no_members, member, object, put}
use Rattle.serde_json.specs.Events.{members_len}
use Rattle.sng_text.specs.ClientIds.{is_client_id}
use Rattle.sng_text.specs.Ipv4.{IsAddress, ipv4_of}
use Rattle.sng_text.specs.Texts.{is_name}
use Rattle.sng_grants.specs.Laws.{AreInOrder, AreIdsInOrder}
use Rattle.sng_grants.specs.Ends.{next_end}
use Rattle.sng_grants.specs.Sources.{sooner, first_end}
use Rattle.sng_grants.specs.Policies.{Policy}
use Rattle.sng_grants.specs.Limits.{Limits, IsBetween, AreLimits, are_default, default_limits}
use Rattle.sng_grants.specs.declared.limits.TheConstants.{MAX_POLICY_CLIENTS, MAX_SOURCES, MAX_TOPICS}
use Rattle.sng_grants.specs.declared.limits.TheConstants.{MAX_WAITING, MAX_FLIGHT, DEFAULT_CLIENTS}
use Rattle.sng_grants.specs.declared.limits.TheConstants.{DEFAULT_SOURCES, DEFAULT_TOPICS, DEFAULT_WAITING}
use Rattle.sng_grants.specs.declared.limits.TheConstants.{DEFAULT_FLIGHT}
use Rattle.sng_grants.specs.declared.grant.Grant.{Grant}
use Rattle.sng_grants.specs.Topics.{IsTopicId}
use Rattle.sng_scope.specs.Bounds.{AreWithin, IsGrant, IsPolicy}
use Rattle.sng_scope.specs.Laws.{IsInOrder, PoliciesAreReadBack}
use Rattle.sng_scope.specs.Numerals.{topic_id_of}
use Rattle.sng_scope.specs.Policies.{client_of, name_of_data, clients_onto, sources_onto, topics_onto}
use Rattle.sng_scope.specs.Policies.{clients_of, sources_of, topics_of, members_within, policy_of_data}
use Rattle.sng_scope.specs.Policies.{parts_within}
use Rattle.sng_scope.specs.PolicyLimits.{limit_of, limits_of}
use Rattle.sng_scope.specs.Steps.{◌>>=◌}
use Rattle.sng_scope.specs.Grants.{grant_of_data}
use Rattle.sng_scope.specs.Written.{grant_data, with_members, clients_data, dotted, sources_data, topics_data}
use Rattle.sng_scope.specs.Written.{limits_data}
use Rattle.sng_scope.specs.declared.fault.PolicyFault.{PolicyFault}
use Rattle.sng_scope.specs.declared.fault.PolicyFault.TheVariants.{BadSource, BadTopicId}
use Rattle.sng_scope.proofs.DottedLemmas.{dotted-read}
use Rattle.sng_scope.proofs.LawLemmas.{topic_ids_are_decimal}
use Rattle.sng_scope.proofs.OntoLemmas.{onto, reads, AreSaid}
use Rattle.sng_scope.proofs.ScopeBackLemmas.{CanSay, grant-read}

-- ---- the members of clients, sources and topics are taken in one way

same_steps : {A B E : Type 0} (r : Result A E) (f g : A → Result B E) → ((a : A) → f a ≡ g a)
    → (r >>= f) ≡ (r >>= g)
same_steps (Ok a) f g same = same a
same_steps (Err e) f g same = refl

abbrev by_bytes : List ℕ → List ℕ → Ordering
by_bytes = slice_cmp nat_cmp

abbrev source_of : List ℕ → Result (List ℕ) PolicyFault
source_of name = ok_or (ipv4_of name) BadSource

abbrev id_from : List ℕ → Result ℕ PolicyFault
id_from name = ok_or (topic_id_of name) BadTopicId

clients-onto : (ends : Bool) (ms : Members) (found : List (List ℕ × Grant))
    → clients_onto ends found ms ≡ onto by_bytes client_of (grant_of_data ends) found ms
clients-onto ends no_members found = refl
clients-onto ends (member name d ms) found =
    same_steps (client_of name) _ _ (λ client. same_steps (grant_of_data ends d) _ _
    (λ grant. clients-onto ends ms (insert_entry by_bytes found client grant)))

sources-onto : (ends : Bool) (ms : Members) (found : List (List ℕ × Grant))
    → sources_onto ends found ms ≡ onto by_bytes source_of (grant_of_data ends) found ms
sources-onto ends no_members found = refl
sources-onto ends (member name d ms) found =
    same_steps (source_of name) _ _ (λ source. same_steps (grant_of_data ends d) _ _
    (λ grant. sources-onto ends ms (insert_entry by_bytes found source grant)))

topics-onto : (ms : Members) (found : List (ℕ × List ℕ))
    → topics_onto found ms ≡ onto nat_cmp id_from name_of_data found ms
topics-onto no_members found = refl
topics-onto (member name d ms) found =
    same_steps (id_from name) _ _ (λ id. same_steps (name_of_data d) _ _
    (λ topic. topics-onto ms (insert_entry nat_cmp found id topic)))

-- ---- how many members are written

put-few_at : (o : Ordering) (n l : List ℕ) (d e : Data) (ms later : Members)
    → members_len later ≤ suc (members_len ms)
    → members_len (match_ordering o (member n d (member l e ms)) (member l d ms) (member l e later))
    ≤ suc (suc (members_len ms))
put-few_at Less n l d e ms later few = omega arith
put-few_at Equal n l d e ms later few = omega arith
put-few_at Greater n l d e ms later few = omega arith

put-few : (n : List ℕ) (d : Data) (ms : Members) → members_len (put n d ms) ≤ suc (members_len ms)
put-few n d no_members = omega arith
put-few n d (member l e ms) =
    put-few_at (slice_cmp nat_cmp n l) n l d e ms (put n d ms) (put-few n d ms)

with-few : {K V : Type 0} (name : K → List ℕ) (value : V → Data) (es : List (K × V)) (ms : Members)
    → members_len (with_members name value ms es) ≤ members_len ms + length es
with-few name value [] ms = omega arith
with-few name value (e ∷ es) ms =
    let one = put-few (name e.0) (value e.1) ms in
    let more = with-few name value es (put (name e.0) (value e.1) ms) in
    omega arith

within : (most : ℕ) (ms : Members) → members_len ms ≤ most → members_within most (object ms) ≡ Ok ms
within most ms few = rw (le-ltb most (members_len ms) few) refl

-- ---- each part

client-read : (client : List ℕ) → is_client_id client ≡ true → client_of client ≡ Ok client
client-read client is = rw is refl

source-read : (source : List ℕ) → IsAddress source → source_of (dotted source) ≡ Ok source
source-read source is =
    ap (λ o. ok_or o BadSource) (dotted-read source is)

id-read : (id : ℕ) → IsTopicId id → id_from (decimal id) ≡ Ok id
id-read id is =
    ap (λ o. ok_or o BadTopicId) ((topic_ids_are_decimal (decimal id) id).1 (is.0, is.1, refl))

name-read : (name : List ℕ) → is_name name ≡ true → name_of_data (string name) ≡ Ok name
name-read name is = rw is refl

said : {K V : Type 0} (R : K → K → Ordering) (key : List ℕ → Result K PolicyFault)
    (value : Data → Result V PolicyFault) (name : K → List ℕ) (data_of : V → Data) → (total : IsTotalOrder R)
    → (P : K → Type 0) (Q : V → Type 0) → ((k : K) → P k → key (name k) ≡ Ok k)
    → ((v : V) → Q v → value (data_of v) ≡ Ok v) → (es : List (K × V)) → All P (keys_of es)
    → All Q (values_of es) → AreSaid R total key value name data_of es
said R key value name data_of total P Q keys values [] ks vs = tt
said R key value name data_of total P Q keys values (e ∷ es) ks vs = (
  keys e.0 (All-head P e.0 (keys_of es) ks),
  values e.1 (All-head Q e.1 (values_of es) vs),
  said R key value name data_of total P Q keys values es (All-tail P e.0 (keys_of es) ks)
      (All-tail Q e.1 (values_of es) vs),
)

clients-read : (most : ℕ) (ends : Bool) (clients : List (List ℕ × Grant))
    → AreWithin most (λ client. is_client_id client ≡ true) IsGrant clients
    → All (CanSay ends) (values_of clients)
    → AreInOrder clients → clients_of most ends (Some (clients_data clients)) ≡ Ok clients
clients-read most ends clients are can sorted =
    let ms = with_members (λ (client : List ℕ). client) grant_data no_members clients in
    let few = with-few (λ (client : List ℕ). client) grant_data clients no_members in
    ap (λ r. r >>= clients_onto ends []) (within most ms (omega (arith, are.few)))
    ∙ clients-onto ends ms []
    ∙ reads by_bytes nat_list_cmp_total client_of (grant_of_data ends) (λ client. client) grant_data clients
    (said by_bytes client_of (grant_of_data ends) (λ client. client) grant_data nat_list_cmp_total _
    (CanSay ends) client-read (grant-read ends) clients are.keys can)
    sorted

sources-read : (most : ℕ) (ends : Bool) (sources : List (List ℕ × Grant)) → AreWithin most IsAddress IsGrant sources
    → All (CanSay ends) (values_of sources)
    → AreInOrder sources → sources_of most ends (Some (sources_data sources)) ≡ Ok sources
sources-read most ends sources are can sorted =
    let ms = with_members dotted grant_data no_members sources in
    let few = with-few dotted grant_data sources no_members in
    ap (λ r. r >>= sources_onto ends []) (within most ms (omega (arith, are.few)))
    ∙ sources-onto ends ms []
    ∙ reads by_bytes nat_list_cmp_total source_of (grant_of_data ends) dotted grant_data sources
    (said by_bytes source_of (grant_of_data ends) dotted grant_data nat_list_cmp_total IsAddress (CanSay ends)
    source-read (grant-read ends) sources are.keys can)
    sorted

topics-read : (most : ℕ) (topics : List (ℕ × List ℕ))
    → AreWithin most IsTopicId (λ name. is_name name ≡ true) topics → AreIdsInOrder topics
    → topics_of most (Some (topics_data topics)) ≡ Ok topics
topics-read most topics are sorted =
    let ms = with_members decimal string no_members topics in
    let few = with-few decimal string topics no_members in
    ap (λ r. r >>= topics_onto []) (within most ms (omega (arith, are.few)))
    ∙ topics-onto ms []
    ∙ reads nat_cmp nat_cmp_total id_from name_of_data decimal string topics
    (said nat_cmp id_from name_of_data decimal string nat_cmp_total IsTopicId (λ name. is_name name ≡ true)
    id-read name-read topics are.keys are.values)
    sorted

-- ---- the policy

three_steps : {A B C D E : Type 0} (r : Result A E) (s : Result B E) (t : Result C E) (a : A) (b : B) (c : C)
    (f : A → B → C → Result D E) → r ≡ Ok a → s ≡ Ok b → t ≡ Ok c
    → (r >>= (λ x. s >>= (λ y. t >>= (λ z. f x y z)))) ≡ f a b c
three_steps r s t a b c f first second third = rw (first, second, third) refl

-- ---- which version it takes

some_end : (end other : ℕ) (b : Bool) → (if b then Some end else Some other) ≡ None → ⊥
some_end end other true is = cc
some_end end other false is = cc

-- no grant has an end
first_none : (end other : Option ℕ) → sooner end other ≡ None → (end ≡ None) × (other ≡ None)
first_none None other is = (refl, is)
first_none (Some end) None is = absurd (cc)
first_none (Some end) (Some other) is = absurd (some_end end other (nat_le end other) is)

endless : {K : Type 0} (listed : List (K × Grant)) → All IsGrant (values_of listed) → first_end listed ≡ None
    → All (CanSay false) (values_of listed)
endless [] are none = All-nil (CanSay false)
endless (entry ∷ listed) are none =
    let parts = first_none entry.1.until (first_end listed) none in
    All-cons (CanSay false) entry.1 (values_of listed)
    (All-head IsGrant entry.1 (values_of listed) are, parts.0)
    (endless listed (All-tail IsGrant entry.1 (values_of listed) are) parts.1)

-- what can be said with the ends of these clients and sources
abbrev BothSaid : Bool → Policy → Type 0
BothSaid ends policy =
    All (CanSay ends) (values_of policy.clients) × All (CanSay ends) (values_of policy.sources)

both_said : (policy : Policy) (end : Option ℕ) → next_end policy ≡ end → IsPolicy policy
    → BothSaid (is_some end) policy
both_said policy (Some end) ends is = (is.clients.values, is.sources.values)
both_said policy None ends is =
    let parts = first_none (first_end policy.clients) (first_end policy.sources) ends in (
      endless policy.clients is.clients.values parts.0,
      endless policy.sources is.sources.values parts.1,
    )

-- the parts, read by a version and within limits
abbrev PartsRead : Bool → Policy → Limits → Type 0
PartsRead ends policy limits =
    (clients_of limits.clients ends (Some (clients_data policy.clients)) >>= (λ clients.
    sources_of limits.sources ends (Some (sources_data policy.sources)) >>= (λ sources.
    topics_of limits.topics (Some (topics_data policy.topics)) >>= (λ topics.
    Ok (record { clients = clients; sources = sources; topics = topics; limits = limits })))))
    ≡ Ok policy

own_parts : (ends : Bool) (policy : Policy) → IsPolicy policy → IsInOrder policy → BothSaid ends policy
    → PartsRead ends policy policy.limits
own_parts ends policy is sorted said =
    let limits = policy.limits in
    three_steps (clients_of limits.clients ends (Some (clients_data policy.clients)))
    (sources_of limits.sources ends (Some (sources_data policy.sources)))
    (topics_of limits.topics (Some (topics_data policy.topics)))
    policy.clients policy.sources policy.topics
    (λ clients sources topics.
    Ok (record { clients = clients; sources = sources; topics = topics; limits = limits }))
    (clients-read limits.clients ends policy.clients is.clients said.0 sorted.clients)
    (sources-read limits.sources ends policy.sources is.sources said.1 sorted.sources)
    (topics-read limits.topics policy.topics is.topics sorted.topics)

parts_read : (ends : Bool) (policy : Policy) (limits : Limits) → policy.limits ≡ limits → IsPolicy policy
    → IsInOrder policy → BothSaid ends policy → PartsRead ends policy limits
parts_read ends policy limits same is sorted said =
    subst (PartsRead ends policy) same (own_parts ends policy is sorted said)

-- ---- limits

limit-read : (default least most n : ℕ) → IsBetween least most n
    → limit_of default least most (Some (number (unsigned n))) ≡ Ok n
limit-read default least most n is = rw (le-leb least n is.0, le-leb n most is.1) refl

five_steps : {A B E : Type 0} (r s t u v : Result A E) (a b c d e : A) (f : A → A → A → A → A → Result B E)
    → r ≡ Ok a → s ≡ Ok b → t ≡ Ok c → u ≡ Ok d → v ≡ Ok e
    → (r >>= (λ x. s >>= (λ y. t >>= (λ z. u >>= (λ p. v >>= (λ q. f x y z p q)))))) ≡ f a b c d e
five_steps r s t u v a b c d e f first second third fourth fifth =
    rw (first, second, third, fourth, fifth) refl

abbrev limits_by : ℕ → ℕ → ℕ → ℕ → ℕ → Result Limits PolicyFault
limits_by clients in_flight sources topics waiting =
    Ok (record { clients = clients; sources = sources; topics = topics; waiting = waiting; in_flight = in_flight })

limits-read : (limits : Limits) → AreLimits limits → limits_of (Some (limits_data limits)) ≡ Ok limits
limits-read limits are =
    five_steps (limit_of DEFAULT_CLIENTS 1 MAX_POLICY_CLIENTS (Some (number (unsigned limits.clients))))
    (limit_of DEFAULT_FLIGHT DEFAULT_FLIGHT MAX_FLIGHT (Some (number (unsigned limits.in_flight))))
    (limit_of DEFAULT_SOURCES 0 MAX_SOURCES (Some (number (unsigned limits.sources))))
    (limit_of DEFAULT_TOPICS 0 MAX_TOPICS (Some (number (unsigned limits.topics))))
    (limit_of DEFAULT_WAITING DEFAULT_WAITING MAX_WAITING (Some (number (unsigned limits.waiting))))
    limits.clients limits.in_flight limits.sources limits.topics limits.waiting limits_by
    (limit-read DEFAULT_CLIENTS 1 MAX_POLICY_CLIENTS limits.clients are.clients)
    (limit-read DEFAULT_FLIGHT DEFAULT_FLIGHT MAX_FLIGHT limits.in_flight are.in_flight)
    (limit-read DEFAULT_SOURCES 0 MAX_SOURCES limits.sources are.sources)
    (limit-read DEFAULT_TOPICS 0 MAX_TOPICS limits.topics are.topics)
    (limit-read DEFAULT_WAITING DEFAULT_WAITING MAX_WAITING limits.waiting are.waiting)

abbrev made : ℕ → ℕ → ℕ → ℕ → ℕ → Limits
made clients sources topics waiting in_flight =
    record { clients = clients; sources = sources; topics = topics; waiting = waiting; in_flight = in_flight }

made_default : (a b c d e : ℕ) → a ≡ DEFAULT_CLIENTS → b ≡ DEFAULT_SOURCES → c ≡ DEFAULT_TOPICS
    → d ≡ DEFAULT_WAITING → e ≡ DEFAULT_FLIGHT → made a b c d e ≡ default_limits
made_default a b c d e first second third fourth fifth = rw (first, second, third, fourth, fifth) refl

abbrev first_two : Limits → Bool
first_two limits = (limits.clients == DEFAULT_CLIENTS) && (limits.sources == DEFAULT_SOURCES)

abbrev first_three : Limits → Bool
first_three limits = first_two limits && (limits.topics == DEFAULT_TOPICS)

abbrev first_four : Limits → Bool
first_four limits = first_three limits && (limits.waiting == DEFAULT_WAITING)

default_from : (limits : Limits) → are_default limits ≡ true → limits ≡ default_limits
default_from limits is =
    let four = and_parts (first_four limits) (limits.in_flight == DEFAULT_FLIGHT) is in
    let three = and_parts (first_three limits) (limits.waiting == DEFAULT_WAITING) four.0 in
    let two = and_parts (first_two limits) (limits.topics == DEFAULT_TOPICS) three.0 in
    let one = and_parts (limits.clients == DEFAULT_CLIENTS) (limits.sources == DEFAULT_SOURCES) two.0 in
    made_default limits.clients limits.sources limits.topics limits.waiting limits.in_flight
    (eqb-true limits.clients DEFAULT_CLIENTS one.0) (eqb-true limits.sources DEFAULT_SOURCES one.1)
    (eqb-true limits.topics DEFAULT_TOPICS two.1) (eqb-true limits.waiting DEFAULT_WAITING three.1)
    (eqb-true limits.in_flight DEFAULT_FLIGHT four.1)

-- ---- the object of a policy, whose limits are the default ones or not, and whose scopes end or not

abbrev version_by : Bool → Bool → ℕ
version_by default ends = if default then (if ends then 2 else 1) else 4

abbrev later_by : Policy → Bool → Bool → Members
later_by policy default ends =
    member (codes "sources") (sources_data policy.sources)
    (member (codes "topics") (topics_data policy.topics)
    (member (codes "version") (number (unsigned (version_by default ends))) no_members))

abbrev data_by : Policy → Bool → Bool → Data
data_by policy default ends =
    object (member (codes "clients") (clients_data policy.clients)
    (if default then later_by policy default ends
    else member (codes "limits") (limits_data policy.limits) (later_by policy default ends)))

back : (default ends : Bool) (policy : Policy) → are_default policy.limits ≡ default → IsPolicy policy
    → IsInOrder policy → BothSaid ends policy → policy_of_data (data_by policy default ends) ≡ Ok policy
back true true policy are is sorted said =
    parts_read true policy default_limits (default_from policy.limits are) is sorted said
back true false policy are is sorted said =
    parts_read false policy default_limits (default_from policy.limits are) is sorted said
back false ends policy are is sorted said =
    ap (λ r. r >>= (λ limits. parts_within limits (data_by policy false ends)))
    (limits-read policy.limits is.limits)
    ∙ parts_read true policy policy.limits refl is sorted (is.clients.values, is.sources.values)

pub policies_are_read_back : PoliciesAreReadBack
policies_are_read_back policy is sorted =
    back (are_default policy.limits) (is_some (next_end policy)) policy refl is sorted
    (both_said policy (next_end policy) refl is)
