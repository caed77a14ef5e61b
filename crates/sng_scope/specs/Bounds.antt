-- What holds of each scope and of each policy that a text gives.
use Rattle.std.specs.Prelude.{◌≡◌, ℕ, ◌≤◌, true, List, length, All, IfOk}
use Rattle.std.specs.Map.{keys_of, values_of}
use Rattle.sng_text.specs.ClientIds.{is_client_id}
use Rattle.sng_text.specs.Ipv4.{IsAddress}
use Rattle.sng_text.specs.Texts.{is_name}
use Rattle.sng_grants.specs.Limits.{AreLimits}
use Rattle.sng_grants.specs.Scopes.{IsScope}
use Rattle.sng_grants.specs.Topics.{IsTopicId}
use Rattle.sng_scope.specs.Policies.{policy_of}
use Rattle.sng_scope.specs.Texts.{scope_of_text}
use Rattle.sng_grants.specs.declared.grant.Grant.{Grant}
use Rattle.sng_grants.specs.Policies.{Policy}

-- at most so many entries, each with a key and a value as they must be
pub record AreWithin {K V : Type 0} (most : ℕ) (IsKey : K → Type 0) (IsValue : V → Type 0)
    (entries : List (K × V)) : Type 0 where
  pub few : length entries ≤ most
  pub keys : All IsKey (keys_of entries)
  pub values : All IsValue (values_of entries)

-- the scope of a grant keeps to its bounds
abbrev pub IsGrant : Grant → Type 0
IsGrant grant = IsScope grant.scope

-- each limit is in its range, and each part keeps to its limit
pub record IsPolicy (policy : Policy) : Type 0 where
  pub limits : AreLimits policy.limits
  pub clients : AreWithin policy.limits.clients (λ client. is_client_id client ≡ true) IsGrant policy.clients
  pub sources : AreWithin policy.limits.sources IsAddress IsGrant policy.sources
  pub topics : AreWithin policy.limits.topics IsTopicId (λ name. is_name name ≡ true) policy.topics

abbrev pub ScopesAreBounded : Type 0
ScopesAreBounded = (text : List ℕ) → IfOk (scope_of_text text) IsScope

abbrev pub PoliciesAreBounded : Type 0
PoliciesAreBounded = (text : List ℕ) → IfOk (policy_of text) IsPolicy
