-- The canonical text of a policy: JSON on one line (RFC 8259), without blanks, its members in the byte order of
-- their names. It is of version 4 where a limit is set, else of version 2 where a scope ends, and else of
-- version 1.
use Rattle.std.specs.Prelude.{ℕ, Bool, true, false, List, [], ◌∷◌, ◌++◌, map, codes, slice_index, is_some}
use Rattle.std.specs.Prelude.{Option, Some, None, if◌then◌else◌}
use Rattle.std.specs.Fmt.{decimal}
use Rattle.serde_json.specs.Data.{Data, number, unsigned, string, array, object, Items, no_items, item}
use Rattle.serde_json.specs.Data.{Members, no_members, member, put}
use Rattle.serde_json.specs.View.{items_of}
use Rattle.serde_json.specs.Written.{compact_text}
use Rattle.sng_grants.specs.Ends.{next_end}
use Rattle.sng_grants.specs.Limits.{Limits, are_default}
use Rattle.sng_grants.specs.declared.grant.Grant.{Grant}
use Rattle.sng_grants.specs.declared.scope.Pair.{Pair}
use Rattle.sng_grants.specs.Policies.{Policy}

-- `pub` stands before `sub`
abbrev pub permissions_data : Bool → Bool → Items
permissions_data true true = item (string (codes "pub")) (item (string (codes "sub")) no_items)
permissions_data true false = item (string (codes "pub")) no_items
permissions_data false true = item (string (codes "sub")) no_items
permissions_data false false = no_items

-- `[filter, permissions]`
abbrev pub pair_data : Pair → Data
pair_data pair =
    array (item (string pair.filter)
    (item (array (permissions_data pair.publishes pair.subscribes)) no_items))

-- pair by pair
abbrev pub pairs_data : List Pair → Items
pairs_data pairs = items_of (map pair_data pairs)

abbrev pub scope_data : List Pair → Data
scope_data pairs = array (pairs_data pairs)

-- a scope that never ends stands by itself, and another one in an object with its end
abbrev pub scope_until : List Pair → Option ℕ → Data
scope_until pairs None = scope_data pairs
scope_until pairs (Some end) =
    object (member (codes "exp") (number (unsigned end)) (member (codes "scope") (scope_data pairs) no_members))

abbrev pub grant_data : Grant → Data
grant_data grant = scope_until grant.scope grant.until

-- the members with one more for each entry, each in the place of its name
abbrev pub with_members : {K V : Type 0} → (K → List ℕ) → (V → Data) → Members → List (K × V) → Members
with_members name value ms [] = ms
with_members name value ms (e ∷ es) = with_members name value (put (name e.0) (value e.1) ms) es

abbrev pub clients_data : List (List ℕ × Grant) → Data
clients_data clients = object (with_members (λ client. client) grant_data no_members clients)

-- four decimal numbers, parted by points
abbrev pub dotted : List ℕ → List ℕ
dotted octets =
    decimal (slice_index octets 0) ++ codes "." ++ decimal (slice_index octets 1) ++ codes "."
    ++ decimal (slice_index octets 2) ++ codes "." ++ decimal (slice_index octets 3)

abbrev pub sources_data : List (List ℕ × Grant) → Data
sources_data sources = object (with_members dotted grant_data no_members sources)

abbrev pub topics_data : List (ℕ × List ℕ) → Data
topics_data topics = object (with_members decimal string no_members topics)

-- the least version that has what the policy needs
abbrev pub version_for : Policy → ℕ
version_for policy = if are_default policy.limits then (if is_some (next_end policy) then 2 else 1) else 4

-- an object of all five limits
abbrev pub limits_data : Limits → Data
limits_data limits =
    object (member (codes "clients") (number (unsigned limits.clients))
    (member (codes "in_flight") (number (unsigned limits.in_flight))
    (member (codes "sources") (number (unsigned limits.sources))
    (member (codes "topics") (number (unsigned limits.topics))
    (member (codes "waiting") (number (unsigned limits.waiting)) no_members)))))

-- the members behind the clients and the limits
abbrev pub members_behind : Data → Data → ℕ → Members
members_behind sources topics version =
    member (codes "sources") sources
    (member (codes "topics") topics
    (member (codes "version") (number (unsigned version)) no_members))

abbrev pub later_members : Policy → Members
later_members policy =
    members_behind (sources_data policy.sources) (topics_data policy.topics) (version_for policy)

-- an object of these members, without limits and with them
abbrev pub plain_data : Data → Data → Data → ℕ → Data
plain_data clients sources topics version =
    object (member (codes "clients") clients (members_behind sources topics version))

abbrev pub limited_data : Limits → Data → Data → Data → ℕ → Data
limited_data limits clients sources topics version =
    object (member (codes "clients") clients
    (member (codes "limits") (limits_data limits) (members_behind sources topics version)))

-- an object of all its members, among them `limits` where a limit is set
abbrev pub policy_data : Policy → Data
policy_data policy =
    object (member (codes "clients") (clients_data policy.clients)
    (if are_default policy.limits then later_members policy
    else member (codes "limits") (limits_data policy.limits) (later_members policy)))

abbrev pub policy_text : Policy → List ℕ
policy_text policy = compact_text (policy_data policy)
