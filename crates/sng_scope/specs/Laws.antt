-- The laws of topic ids as texts, and of policies as they are written.
use Rattle.std.specs.Prelude.{◌≡◌, ℕ, ◌≤◌, ◌↔◌, List, Some, Ok}
use Rattle.std.specs.Fmt.{decimal}
use Rattle.sng_grants.specs.Laws.{AreInOrder, AreIdsInOrder}
use Rattle.sng_grants.specs.Policies.{Policy}
use Rattle.sng_scope.specs.Bounds.{IsPolicy}
use Rattle.sng_scope.specs.Numerals.{topic_id_of}
use Rattle.serde_json.specs.Data.{Data}
use Rattle.sng_scope.specs.Policies.{policy_of_data, version_of}
use Rattle.sng_scope.specs.Written.{policy_data, version_for}

-- a topic id's text is the number from 1 to 65534 in decimal: each such number has one text
abbrev pub TopicIdsAreDecimal : Type 0
TopicIdsAreDecimal =
    (text : List ℕ) (id : ℕ) → (topic_id_of text ≡ Some id) ↔ ((1 ≤ id) × (id ≤ 65534) × (text ≡ decimal id))

-- the keys of each part are in order, and none stands twice
pub record IsInOrder (policy : Policy) : Type 0 where
  pub clients : AreInOrder policy.clients
  pub sources : AreInOrder policy.sources
  pub topics : AreIdsInOrder policy.topics

-- what is written of a policy is of the least version that any text of it has
abbrev pub VersionsAreLeast : Type 0
VersionsAreLeast = (policy : Policy) (d : Data) (version : ℕ) → policy_of_data d ≡ Ok policy
    → version_of d ≡ Some version → version_for policy ≤ version

-- what is written of a policy is read as this policy
abbrev pub PoliciesAreReadBack : Type 0
PoliciesAreReadBack =
    (policy : Policy) → IsPolicy policy → IsInOrder policy → policy_of_data (policy_data policy) ≡ Ok policy
