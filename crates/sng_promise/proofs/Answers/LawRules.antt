-- The policy's answers, by the tables of the laws.
use Rattle.std.proofs.Common.{◌≡◌, ℕ, Bool, true, false, List, refl, ◌∙◌, if◌then◌else◌}
use Rattle.std.specs.Prelude.{not, Option, Some, None}
use Rattle.sng_grants.specs.Sources.{scope_of}
use Rattle.sng_grants.specs.declared.scope.Pair.{Pair}
use Rattle.sng_grants.specs.declared.policy.Policy.{Policy}
use Rattle.sng_policy.specs.Grants.{is_granted, lists}
use Rattle.sng_policy.specs.declared.permission.Permission.TheVariants.{Publish, Subscribe}
use Rattle.sng_outbox.specs.declared.origin.Origin.{Origin}
use Rattle.sng_outbox.specs.declared.origin.Origin.TheVariants as origin
use Rattle.sng_book.specs.declared.outcome.Denial.TheVariants.{Grant}
use Rattle.sng_book.specs.declared.outcome.GrantDenial.TheVariants.{MissingPub}
use Rattle.sng_book.specs.declared.outcome.Outcome.TheVariants.{Allowed, Denied}
use Rattle.sng_history.specs.Verdicts.{exit}
use Rattle.sng_history.specs.Outgoing.{receive}
use Rattle.sng_laws.specs.LawsRules.{judged, may_publish, publish_rules}
use Rattle.sng_laws.specs.LawsRules.{receive_rules}

client_granted : (policy : Policy) (client name : List ℕ) (pairs : List Pair) (b : Bool)
    → scope_of policy.clients client ≡ Some pairs → is_granted Publish pairs name ≡ b
    → exit policy (origin.Client client) name ≡ judged (publish_rules policy (origin.Client client) name)
client_granted policy client name pairs true scope is = rw (scope, is) refl
client_granted policy client name pairs false scope is = rw (scope, is) refl

client_ruled : (policy : Policy) (client name : List ℕ) (scope : Option (List Pair))
    → scope_of policy.clients client ≡ scope
    → exit policy (origin.Client client) name ≡ judged (publish_rules policy (origin.Client client) name)
client_ruled policy client name None is = rw is refl
client_ruled policy client name (Some pairs) is =
    client_granted policy client name pairs (is_granted Publish pairs name) is refl

source_granted : (policy : Policy) (source name : List ℕ) (pairs : List Pair) (b : Bool)
    → scope_of policy.sources source ≡ Some pairs → is_granted Publish pairs name ≡ b
    → exit policy (origin.Source source) name ≡ judged (publish_rules policy (origin.Source source) name)
source_granted policy source name pairs true scope is = rw (scope, is) refl
source_granted policy source name pairs false scope is = rw (scope, is) refl

source_ruled : (policy : Policy) (source name : List ℕ) (scope : Option (List Pair))
    → scope_of policy.sources source ≡ scope
    → exit policy (origin.Source source) name ≡ judged (publish_rules policy (origin.Source source) name)
source_ruled policy source name None is = rw is refl
source_ruled policy source name (Some pairs) is =
    source_granted policy source name pairs (is_granted Publish pairs name) is refl

-- what is judged as a publish leaves
pub exit_ruled : (policy : Policy) (asker : Origin) (name : List ℕ)
    → exit policy asker name ≡ judged (publish_rules policy asker name)
exit_ruled policy (origin.Client client) name =
    client_ruled policy client name (scope_of policy.clients client) refl
exit_ruled policy (origin.Source source) name =
    source_ruled policy source name (scope_of policy.sources source) refl

received_granted : (policy : Policy) (client name : List ℕ) (pairs : List Pair) (b : Bool)
    → scope_of policy.clients client ≡ Some pairs → is_granted Subscribe pairs name ≡ b
    → receive policy client name ≡ judged (receive_rules policy client name)
received_granted policy client name pairs true scope is = rw (scope, is) refl
received_granted policy client name pairs false scope is = rw (scope, is) refl

received_ruled : (policy : Policy) (client name : List ℕ) (scope : Option (List Pair))
    → scope_of policy.clients client ≡ scope
    → receive policy client name ≡ judged (receive_rules policy client name)
received_ruled policy client name None is = rw is refl
received_ruled policy client name (Some pairs) is =
    received_granted policy client name pairs (is_granted Subscribe pairs name) is refl

-- what is judged as a message has its turn
pub receive_ruled : (policy : Policy) (client name : List ℕ)
    → receive policy client name ≡ judged (receive_rules policy client name)
receive_ruled policy client name = received_ruled policy client name (scope_of policy.clients client) refl

-- ---- what the policy says to a client that it lists

missing_if : (b : Bool) (name : List ℕ)
    → (if not b then Denied (Grant (MissingPub name)) else Allowed)
    ≡ (if b then Allowed else Denied (Grant (MissingPub name)))
missing_if true name = refl
missing_if false name = refl

pub listed_exit : (policy : Policy) (id name : List ℕ) → lists policy id ≡ true
    → exit policy (origin.Client id) name
    ≡ (if may_publish (scope_of policy.clients id) name then Allowed else Denied (Grant (MissingPub name)))
listed_exit policy id name listed =
    exit_ruled policy (origin.Client id) name
    ∙ (rw listed (missing_if (may_publish (scope_of policy.clients id) name) name))
