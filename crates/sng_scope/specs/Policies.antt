-- Policy texts: a JSON object (RFC 8259) with the version, the grants of clients and of sources, the
-- predefined topics, and the limits.
use Rattle.std.specs.Prelude.{ℕ, Bool, true, false, ◌==◌, ◌&&◌, ◌||◌, nat_lt, List, [], if◌then◌else◌, Option}
use Rattle.std.specs.Prelude.{Some, None, option_map, option_and_then, unwrap_or, ok_or, Result, Ok, Err}
use Rattle.std.specs.Prelude.{codes}
use Rattle.std.specs.Str.{bytes_eq}
use Rattle.serde_json.specs.Data.{Data, Members, no_members, member}
use Rattle.serde_json.specs.Events.{members_len}
use Rattle.serde_json.specs.Find.{get, as_number, as_object, as_str, as_u64}
use Rattle.sng_text.specs.ClientIds.{is_client_id}
use Rattle.sng_text.specs.Texts.{is_name}
use Rattle.sng_text.specs.Ipv4.{ipv4_of}
use Rattle.sng_grants.specs.Limits.{Limits}
use Rattle.sng_scope.specs.Numerals.{topic_id_of}
use Rattle.sng_grants.specs.Sources.{with_grant}
use Rattle.sng_scope.specs.Steps.{◌>>=◌}
use Rattle.sng_scope.specs.Grants.{grant_of_data}
use Rattle.sng_scope.specs.PolicyLimits.{limits_of}
use Rattle.sng_scope.specs.Texts.{value_of}
use Rattle.sng_grants.specs.Topics.{with_name}
use Rattle.sng_grants.specs.declared.grant.Grant.{Grant}
use Rattle.sng_grants.specs.Policies.{Policy}
use Rattle.sng_scope.specs.declared.fault.PolicyFault.{PolicyFault}
use Rattle.sng_scope.specs.declared.fault.PolicyFault.TheVariants.{Shape, BadClientId, BadSource, BadTopicId}
use Rattle.sng_scope.specs.declared.fault.PolicyFault.TheVariants.{TooMany}

-- the name of a member that a policy may have, which may set limits or may not
abbrev pub is_known : Bool → List ℕ → Bool
is_known limited name =
    bytes_eq name (codes "version") || bytes_eq name (codes "clients") || bytes_eq name (codes "sources")
    || bytes_eq name (codes "topics") || (limited && bytes_eq name (codes "limits"))

-- each name is known
abbrev pub are_known : Bool → Members → Bool
are_known limited no_members = true
are_known limited (member name d ms) = is_known limited name && are_known limited ms

-- `version`, where it is a whole number
abbrev pub version_of : Data → Option ℕ
version_of d = option_and_then as_u64 (option_and_then as_number (get (codes "version") d))

-- it is there, and is the whole number 1, 2 or 4
abbrev pub is_version : Data → Bool
is_version d = unwrap_or (option_map (λ n. (n == 1) || (n == 2) || (n == 4)) (version_of d)) false

-- it is 2 or 4: scopes may end
abbrev pub may_end : Data → Bool
may_end d = unwrap_or (option_map (λ n. (n == 2) || (n == 4)) (version_of d)) false

-- it is 4: limits may be set
abbrev pub may_limit : Data → Bool
may_limit d = unwrap_or (option_map (λ n. n == 4) (version_of d)) false

-- an object of such a version, with no member that is unknown
abbrev pub is_policy_object : Data → Bool
is_policy_object d = is_version d && unwrap_or (option_map (are_known (may_limit d)) (as_object d)) false

-- ---- keys and topic names

-- 1 to 23 characters without U+0000
abbrev pub client_of : List ℕ → Result (List ℕ) PolicyFault
client_of text = if is_client_id text then Ok text else Err BadClientId

-- a text that is a topic name
abbrev pub name_of_data : Data → Result (List ℕ) PolicyFault
name_of_data d = ok_or (as_str d) Shape >>= (λ text. if is_name text then Ok text else Err BadTopicId)

-- ---- clients, sources and topics: their members are taken in the byte order of their names, in which an
-- object has them, and in each the name is judged before the value

abbrev pub clients_onto : Bool → List (List ℕ × Grant) → Members → Result (List (List ℕ × Grant)) PolicyFault
clients_onto ends clients no_members = Ok clients
clients_onto ends clients (member name d ms) = do
  client ← client_of name
  grant ← grant_of_data ends d
  clients_onto ends (with_grant clients client grant) ms

abbrev pub sources_onto : Bool → List (List ℕ × Grant) → Members → Result (List (List ℕ × Grant)) PolicyFault
sources_onto ends sources no_members = Ok sources
sources_onto ends sources (member name d ms) = do
  source ← ok_or (ipv4_of name) BadSource
  grant ← grant_of_data ends d
  sources_onto ends (with_grant sources source grant) ms

abbrev pub topics_onto : List (ℕ × List ℕ) → Members → Result (List (ℕ × List ℕ)) PolicyFault
topics_onto topics no_members = Ok topics
topics_onto topics (member name d ms) = do
  id ← ok_or (topic_id_of name) BadTopicId
  topic ← name_of_data d
  topics_onto (with_name topics id topic) ms

-- an object of at most so many members
abbrev pub members_within : ℕ → Data → Result Members PolicyFault
members_within most d =
    ok_or (as_object d) Shape >>= (λ ms. if nat_lt most (members_len ms) then Err TooMany else Ok ms)

-- what is absent is empty
abbrev pub clients_of : ℕ → Bool → Option Data → Result (List (List ℕ × Grant)) PolicyFault
clients_of most ends None = Ok []
clients_of most ends (Some d) = members_within most d >>= clients_onto ends []

abbrev pub sources_of : ℕ → Bool → Option Data → Result (List (List ℕ × Grant)) PolicyFault
sources_of most ends None = Ok []
sources_of most ends (Some d) = members_within most d >>= sources_onto ends []

abbrev pub topics_of : ℕ → Option Data → Result (List (ℕ × List ℕ)) PolicyFault
topics_of most None = Ok []
topics_of most (Some d) = members_within most d >>= topics_onto []

-- ---- the policy

-- the clients, the sources and the topics of an object, no more of each than its limits allow
abbrev pub parts_within : Limits → Data → Result Policy PolicyFault
parts_within limits d = do
  clients ← clients_of limits.clients (may_end d) (get (codes "clients") d)
  sources ← sources_of limits.sources (may_end d) (get (codes "sources") d)
  topics ← topics_of limits.topics (get (codes "topics") d)
  Ok (record { clients = clients; sources = sources; topics = topics; limits = limits })

-- the limits, and then what they bound
abbrev pub parts_of : Data → Result Policy PolicyFault
parts_of d = limits_of (get (codes "limits") d) >>= (λ limits. parts_within limits d)

abbrev pub policy_of_data : Data → Result Policy PolicyFault
policy_of_data d = if is_policy_object d then parts_of d else Err Shape

-- the policy that a text is, or its first fault
abbrev pub policy_of : List ℕ → Result Policy PolicyFault
policy_of text = value_of text >>= policy_of_data
