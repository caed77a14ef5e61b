-- How laws say a verdict: a table of rules, each with the condition under which it forbids, of which the
-- first that holds is the verdict.
use Rattle.std.specs.Prelude.{ℕ, Bool, false, not, List, [], ◌∷◌, if◌then◌else◌, Option, Some, None, is_some}
use Rattle.std.specs.Prelude.{◌≡◌}
use Rattle.sng_grants.specs.Sources.{scope_of}
use Rattle.sng_grants.specs.declared.scope.Pair.{Pair}
use Rattle.sng_grants.specs.declared.policy.Policy.{Policy}
use Rattle.sng_policy.specs.Grants.{is_granted}
use Rattle.sng_policy.specs.declared.permission.Permission.TheVariants.{Publish, Subscribe}
use Rattle.sng_outbox.specs.declared.origin.Origin.{Origin}
use Rattle.sng_outbox.specs.declared.origin.Origin.TheVariants as origin
use Rattle.sng_book.specs.declared.outcome.Denial.{Denial}
use Rattle.sng_book.specs.declared.outcome.Denial.TheVariants.{Grant, Room, Peer}
use Rattle.sng_book.specs.declared.outcome.GrantDenial.TheVariants.{NoScope, UnknownSource, MissingPub}
use Rattle.sng_book.specs.declared.outcome.GrantDenial.TheVariants.{MissingSub}
use Rattle.sng_book.specs.declared.outcome.RoomDenial.TheVariants.{Full, TooLong}
use Rattle.sng_book.specs.declared.outcome.PeerDenial.TheVariants.{ClientRefused, Gone}
use Rattle.sng_book.specs.declared.outcome.Outcome.{Outcome}
use Rattle.sng_book.specs.declared.outcome.Outcome.TheVariants.{Allowed, Denied}
use Rattle.sng_book.specs.declared.outcome.Place.TheVariants as place

abbrev pub Rule : Type 0
Rule = Bool × Denial

-- the first rule whose condition holds; without one, allowed
abbrev pub judged : List Rule → Outcome
judged [] = Allowed
judged (rule ∷ rules) = if rule.0 then Denied rule.1 else judged rules

-- the scope of who asks, where the policy lists it
abbrev pub scope_for : Policy → Origin → Option (List Pair)
scope_for policy (origin.Client client) = scope_of policy.clients client
scope_for policy (origin.Source source) = scope_of policy.sources source

-- the rule by which the policy has no scope for it
abbrev pub unlisted_rule : Origin → Denial
unlisted_rule (origin.Client client) = Grant (NoScope client)
unlisted_rule (origin.Source source) = Grant UnknownSource

-- some pair with `pub` matches the name
abbrev pub may_publish : Option (List Pair) → List ℕ → Bool
may_publish None name = false
may_publish (Some pairs) name = is_granted Publish pairs name

-- what the policy says to a publish under the name: not listed, or no pair with `pub` that matches
abbrev pub publish_rules : Policy → Origin → List ℕ → List Rule
publish_rules policy asker name =
    (not (is_some (scope_for policy asker)), unlisted_rule asker)
    ∷ (not (may_publish (scope_for policy asker) name), Grant (MissingPub name)) ∷ []

-- ---- what forbids a message to a client (RFC 9431, 2.3)

-- some pair with `sub` matches the name
abbrev pub may_receive : Option (List Pair) → List ℕ → Bool
may_receive None name = false
may_receive (Some pairs) name = is_granted Subscribe pairs name

-- by the policy: not listed, or no pair with `sub` that matches
abbrev pub receive_rules : Policy → List ℕ → List ℕ → List Rule
receive_rules policy id name =
    (not (is_some (scope_of policy.clients id)), Grant (NoScope id))
    ∷ (not (may_receive (scope_of policy.clients id) name), Grant (MissingSub name))
    ∷ []

-- a message may be denied so: for want of a scope, or of a pair that matches, it is the judgement by this
-- policy; for want of an id only where this policy allows it; by the client, as it came, or as it is gone,
-- which is no policy's; and for no other reason
abbrev pub IsDenial : Policy → List ℕ → List ℕ → Denial → Type 0
IsDenial policy id name (Grant rule) = judged (receive_rules policy id name) ≡ Denied (Grant rule)
IsDenial policy id name (Room (Full place.Ids)) = judged (receive_rules policy id name) ≡ Allowed
IsDenial policy id name (Room (Full place.Queue)) = Unit {0}
IsDenial policy id name (Room TooLong) = Unit {0}
IsDenial policy id name (Peer (ClientRefused code)) = Unit {0}
IsDenial policy id name (Peer Gone) = Unit {0}
IsDenial policy id name other = ⊥
