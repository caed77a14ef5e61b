-- What a policy allows (RFC 9431, 2.3): a scope is a list of pairs, and each pair permits what it says for
-- the names that its filter matches. At a clock that is said of what is in force of the policy then.
use Rattle.std.specs.Prelude.{ℕ, Bool, true, false, ◌==◌, ◌&&◌, ◌||◌, List, [], ◌∷◌, if◌then◌else◌}
use Rattle.std.specs.Prelude.{Some, None, is_some}
use Rattle.std.specs.declared.option.Option.{Option}
use Rattle.std.specs.Bool.{beq}
use Rattle.std.specs.Cmp.Lexicographic.{pointwise}
use Rattle.std.specs.Str.{bytes_eq}
use Rattle.sng_text.specs.Matching.{matches}
use Rattle.sng_cover.specs.Covering.{cover_of}
use Rattle.sng_cover.specs.declared.answer.Cover.{Cover}
use Rattle.sng_cover.specs.declared.answer.Cover.TheVariants as cover
use Rattle.sng_grants.specs.Scopes.{subscribed}
use Rattle.sng_grants.specs.Sources.{grant_of, scope_of}
use Rattle.sng_grants.specs.Topics.{name_of, id_of}
use Rattle.sng_grants.specs.declared.grant.Grant.{Grant}
use Rattle.sng_grants.specs.declared.scope.Pair.{Pair}
use Rattle.sng_grants.specs.declared.policy.Policy.{Policy}
use Rattle.sng_policy.specs.declared.permission.Permission.{Permission}
use Rattle.sng_policy.specs.declared.permission.Permission.TheVariants.{Publish, Subscribe}
use Rattle.sng_policy.specs.declared.grant.NameGrant.{NameGrant}
use Rattle.sng_policy.specs.declared.grant.NameGrant.TheVariants as on_name
use Rattle.sng_policy.specs.declared.grant.FilterGrant.{FilterGrant}
use Rattle.sng_policy.specs.declared.grant.FilterGrant.TheVariants as on_filter

-- the policy lists the client
abbrev pub lists : Policy → List ℕ → Bool
lists policy client = is_some (scope_of policy.clients client)

-- the policy lists the source
abbrev pub lists_source : Policy → List ℕ → Bool
lists_source policy source = is_some (scope_of policy.sources source)

-- the name that the policy gives to a predefined topic id
abbrev pub topic : Policy → ℕ → Option (List ℕ)
topic policy id = name_of policy.topics id

-- the least topic id that the policy gives to the name
abbrev pub topic_id : Policy → List ℕ → Option ℕ
topic_id policy name = id_of policy.topics name

-- two pairs say the same: the same filter, and the same permissions
abbrev pub same_pair : Pair → Pair → Bool
same_pair pair other = bytes_eq pair.filter other.filter
    && (beq pair.publishes other.publishes && beq pair.subscribes other.subscribes)

-- two ends are the same, or both absent
abbrev pub same_end : Option ℕ → Option ℕ → Bool
same_end None None = true
same_end None (Some other) = false
same_end (Some end) None = false
same_end (Some end) (Some other) = end == other

-- two grants are the same: their scopes pair by pair, and their ends
abbrev pub same_grant : Grant → Grant → Bool
same_grant grant other = pointwise same_pair grant.scope other.scope && same_end grant.until other.until

-- two grants are the same, or both absent
abbrev pub same_grants : Option Grant → Option Grant → Bool
same_grants None None = true
same_grants None (Some other) = false
same_grants (Some grant) None = false
same_grants (Some grant) (Some other) = same_grant grant other

-- the client has the very same scope and end under both policies, or neither lists it
abbrev pub same_scope : Policy → Policy → List ℕ → Bool
same_scope before after client = same_grants (grant_of before.clients client) (grant_of after.clients client)

-- the pair has the permission
abbrev pub permits : Permission → Pair → Bool
permits Publish pair = pair.publishes
permits Subscribe pair = pair.subscribes

-- some pair with the permission matches the name
abbrev pub is_granted : Permission → List Pair → List ℕ → Bool
is_granted permission [] name = false
is_granted permission (pair ∷ pairs) name = (permits permission pair && matches pair.filter name)
    || is_granted permission pairs name

-- what the scope of who asks for the permission says about a name
abbrev pub grant_by : Permission → Option (List Pair) → List ℕ → NameGrant
grant_by permission None name = on_name.Unlisted
grant_by permission (Some pairs) name = if is_granted permission pairs name then on_name.Allowed
    else on_name.Missing

-- what the policy says to a publish under the name by the client
abbrev pub publish_grant : Policy → List ℕ → List ℕ → NameGrant
publish_grant policy client name = grant_by Publish (scope_of policy.clients client) name

-- to a publish under the name by the source
abbrev pub source_grant : Policy → List ℕ → List ℕ → NameGrant
source_grant policy source name = grant_by Publish (scope_of policy.sources source) name

-- to a message with the name for the client
abbrev pub receive_grant : Policy → List ℕ → List ℕ → NameGrant
receive_grant policy client name = grant_by Subscribe (scope_of policy.clients client) name

-- some pair with `sub` has this very filter
abbrev pub has_filter : List Pair → List ℕ → Bool
has_filter [] filter = false
has_filter (pair ∷ pairs) filter = (pair.subscribes && bytes_eq pair.filter filter) || has_filter pairs filter

-- an answer on inclusion as a grant
abbrev pub grant_of_cover : Cover → FilterGrant
grant_of_cover cover.Included = on_filter.Allowed
grant_of_cover (cover.Uncovered gap) = on_filter.Uncovered gap

-- what a scope says to a subscription by the filter
abbrev pub subscribe_by : Option (List Pair) → List ℕ → FilterGrant
subscribe_by None filter = on_filter.Unlisted
subscribe_by (Some pairs) filter = grant_of_cover (cover_of filter (subscribed pairs))

-- what the policy says to a subscription of the client by the filter
abbrev pub subscribe_grant : Policy → List ℕ → List ℕ → FilterGrant
subscribe_grant policy client filter = subscribe_by (scope_of policy.clients client) filter
