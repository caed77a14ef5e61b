-- The promise of the gateway, said of each note of each row by the policy in force at that row (RFC 9431,
-- 2.3; RFC 9237): what is allowed is what that policy allows, and each denial names its rule or the missing
-- grant.
use Rattle.std.specs.Prelude.{ℕ, ◌≡◌, ◌⊎◌, Bool, true, false, List, [], ◌∷◌, MatchBool, Option}
use Rattle.std.specs.Prelude.{Some, None}
use Rattle.sng_text.specs.Texts.{is_name}
use Rattle.sng_text.specs.Matching.{matches}
use Rattle.sng_grants.specs.Sources.{scope_of}
use Rattle.sng_grants.specs.declared.policy.Policy.{Policy}
use Rattle.sng_policy.specs.Grants.{lists, lists_source}
use Rattle.sng_policy.specs.Laws.{HasFilters}
use Rattle.sng_outbox.specs.declared.origin.Origin.TheVariants as origin
use Rattle.sng_book.specs.Denials.{is_allowed}
use Rattle.sng_book.specs.declared.decision.Decision.{Decision}
use Rattle.sng_book.specs.declared.decision.Decision.TheVariants as note
use Rattle.sng_book.specs.declared.decision.Who.{Who}
use Rattle.sng_book.specs.declared.decision.Who.TheVariants as who
use Rattle.sng_book.specs.declared.outcome.Denial.{Denial}
use Rattle.sng_book.specs.declared.outcome.Denial.TheVariants.{Form, Grant, Room, Peer}
use Rattle.sng_book.specs.declared.outcome.GrantDenial.TheVariants.{NoScope, UnknownSource, Uncovered}
use Rattle.sng_book.specs.declared.outcome.RoomDenial.TheVariants.{UpstreamDown, Full}
use Rattle.sng_book.specs.declared.outcome.PeerDenial.TheVariants.{BrokerRefused}
use Rattle.sng_book.specs.declared.outcome.Outcome.{Outcome}
use Rattle.sng_book.specs.declared.outcome.Outcome.TheVariants.{Allowed, Denied}
use Rattle.sng_book.specs.declared.out.Out.{Out}
use Rattle.sng_book.specs.declared.out.Out.TheVariants.{Send, Wire, Note}
use Rattle.sng_book.specs.declared.row.Row.{Row}
use Rattle.sng_laws.specs.Views.{policy_in_force}
use Rattle.sng_laws.specs.LawsRules.{judged, publish_rules}
use Rattle.sng_laws.specs.LawsRules.{receive_rules, may_receive, IsDenial}

-- ---- kinds of rules

-- want of the connection or of room, which is no policy's
abbrev pub is_of_room : Denial → Bool
is_of_room (Room rule) = true
is_of_room other = false

-- a rule of the form of a message, of its turn, or of its session
abbrev pub is_of_form : Denial → Bool
is_of_form (Form rule) = true
is_of_form other = false

-- ---- outcomes

-- the outcome is what the policy says; what it allows may still want the connection or room
abbrev pub IsSaid : Outcome → Outcome → Type 0
IsSaid verdict Allowed = verdict ≡ Allowed
IsSaid verdict (Denied rule) = MatchBool (is_of_room rule) (verdict ≡ Allowed) (verdict ≡ Denied rule)

-- the policy does not list who asks
abbrev pub IsUnlisted : Policy → Who → Denial → Type 0
IsUnlisted policy (who.Client id) rule = (rule ≡ Grant (NoScope id)) × (lists policy id ≡ false)
IsUnlisted policy (who.Source ip) rule = (rule ≡ Grant UnknownSource) × (lists_source policy ip ≡ false)
IsUnlisted policy (who.Address from) rule = ⊥
IsUnlisted policy who.Broker rule = ⊥

-- an ask whose name was not read breaks a rule of form, turn or session, or comes from one that is not listed
abbrev pub IsUnread : Policy → Who → Outcome → Type 0
IsUnread policy whom Allowed = ⊥
IsUnread policy whom (Denied rule) = (is_of_form rule ≡ true) ⊎ IsUnlisted policy whom rule

-- ---- what each note stands for

-- an ask to publish under a name, or for an id of it
abbrev pub MayPublish : Policy → Who → Option (List ℕ) → Outcome → Type 0
MayPublish policy (who.Client id) (Some name) outcome =
    IsSaid (judged (publish_rules policy (origin.Client id) name)) outcome
MayPublish policy (who.Source ip) (Some name) outcome =
    IsSaid (judged (publish_rules policy (origin.Source ip) name)) outcome
MayPublish policy (who.Address from) (Some name) outcome = ⊥
MayPublish policy who.Broker (Some name) outcome = ⊥
MayPublish policy whom None outcome = IsUnread policy whom outcome

-- who asks is a client
abbrev pub IsClient : Who → Type 0
IsClient (who.Client id) = Unit {0}
IsClient other = ⊥

-- a will is set as one publishes; to delete it needs no grant, and that the will of a lost client finds no
-- place is no policy's
abbrev pub MayState : Policy → Who → Option (List ℕ) → Outcome → Type 0
MayState policy whom None Allowed = IsClient whom
MayState policy whom None (Denied rule) = IsUnread policy whom (Denied rule)
MayState policy whom (Some topic) Allowed = MayPublish policy whom (Some topic) Allowed
MayState policy whom (Some topic) (Denied rule) =
    MatchBool (is_of_room rule) (IsClient whom) (MayPublish policy whom (Some topic) (Denied rule))

-- the policy lists the client, and each topic name that the filter matches may be received; where the scope
-- holds filters
pub record IsIncluded (policy : Policy) (id text : List ℕ) : Type 0 where
  pub listed : lists policy id ≡ true
  pub received : HasFilters (scope_of policy.clients id)
      → (name : List ℕ) → is_name name ≡ true → matches text name ≡ true
      → may_receive (scope_of policy.clients id) name ≡ true

-- the gap is a topic name that the filter matches, and that may not be received
pub record IsGap (policy : Policy) (id text gap : List ℕ) : Type 0 where
  pub name : is_name gap ≡ true
  pub matched : matches text gap ≡ true
  pub missing : may_receive (scope_of policy.clients id) gap ≡ false

-- a subscription is denied for want of a scope, or with a gap; want of the connection or of room comes behind
-- the policy
abbrev pub SubscriptionDenied : Policy → List ℕ → List ℕ → Denial → Type 0
SubscriptionDenied policy id filter (Grant (NoScope client)) = (client ≡ id) × (lists policy id ≡ false)
SubscriptionDenied policy id filter (Grant (Uncovered text gap)) =
    (text ≡ filter) × (HasFilters (scope_of policy.clients id) → IsGap policy id filter gap)
SubscriptionDenied policy id filter (Room UpstreamDown) = IsIncluded policy id filter
SubscriptionDenied policy id filter (Room (Full place)) = IsIncluded policy id filter
SubscriptionDenied policy id filter other = ⊥

abbrev pub MaySubscribe : Policy → Who → Option (List ℕ) → Outcome → Type 0
MaySubscribe policy (who.Client id) (Some filter) Allowed = IsIncluded policy id filter
MaySubscribe policy (who.Client id) (Some filter) (Denied rule) = SubscriptionDenied policy id filter rule
MaySubscribe policy other (Some filter) outcome = ⊥
MaySubscribe policy whom None outcome = IsUnread policy whom outcome

-- a subscription ends as the policy does not allow it any more, or as the broker refuses it
abbrev pub MayEnd : Policy → List ℕ → List ℕ → Outcome → Type 0
MayEnd policy id filter (Denied (Peer BrokerRefused)) = Unit {0}
MayEnd policy id filter (Denied (Grant rule)) = SubscriptionDenied policy id filter (Grant rule)
MayEnd policy id filter other = ⊥

-- an UNSUBSCRIBE of a client needs no grant, and any other message no more than its form, turn and session
abbrev pub NeedsNoGrant : Who → Outcome → Type 0
NeedsNoGrant whom Allowed = IsClient whom
NeedsNoGrant whom (Denied rule) = is_of_form rule ≡ true

-- a CONNECT needs that the policy lists the client
abbrev pub MayConnect : Policy → List ℕ → Outcome → Type 0
MayConnect policy id Allowed = lists policy id ≡ true
MayConnect policy id (Denied rule) =
    MatchBool (is_of_room rule) (lists policy id ≡ true)
    ((is_of_form rule ≡ true) ⊎ IsUnlisted policy (who.Client id) rule)

-- a message leaves for a client as the policy says. That it was too long, that its queue was full, that the
-- client refused it or is gone is no policy's
abbrev pub MayHand : Policy → List ℕ → List ℕ → Outcome → Type 0
MayHand policy id name Allowed = judged (receive_rules policy id name) ≡ Allowed
MayHand policy id name (Denied rule) = IsDenial policy id name rule

-- a publish leaves for the broker exactly as the policy says of who asked for it
abbrev pub MayLeave : Policy → Who → List ℕ → Outcome → Type 0
MayLeave policy (who.Client id) name outcome = outcome ≡ judged (publish_rules policy (origin.Client id) name)
MayLeave policy (who.Source ip) name outcome = outcome ≡ judged (publish_rules policy (origin.Source ip) name)
MayLeave policy (who.Address from) name outcome = ⊥
MayLeave policy who.Broker name outcome = ⊥

-- the note stands under the policy
abbrev pub Stands : Policy → Decision → Type 0
Stands policy (note.Connect client outcome) = MayConnect policy client outcome
Stands policy (note.Register whom name outcome) = MayPublish policy whom name outcome
Stands policy (note.Publish whom name outcome) = MayPublish policy whom name outcome
Stands policy (note.Subscribe whom filter outcome) = MaySubscribe policy whom filter outcome
Stands policy (note.Unsubscribe whom filter outcome) = NeedsNoGrant whom outcome
Stands policy (note.Will whom topic outcome) = MayState policy whom topic outcome
Stands policy (note.Announce client name) = judged (receive_rules policy client name) ≡ Allowed
Stands policy (note.Hand client name outcome) = MayHand policy client name outcome
Stands policy (note.Retry client name outcome) = outcome ≡ judged (receive_rules policy client name)
Stands policy (note.Forward whom name outcome) = MayLeave policy whom name outcome
Stands policy (note.Again whom name outcome) = MayLeave policy whom name outcome
Stands policy (note.End client filter outcome) = MayEnd policy client filter outcome
Stands policy (note.Lost client) = Unit {0}
Stands policy (note.Left client) = Unit {0}
Stands policy note.Outbox = Unit {0}
Stands policy (note.Frame whom outcome) = (is_allowed outcome ≡ false) × NeedsNoGrant whom outcome

abbrev pub AllStand : Policy → List Out → Type 0
AllStand policy [] = Unit {0}
AllStand policy (Note said ∷ outs) = Stands policy said × AllStand policy outs
AllStand policy (Send to datagram ∷ outs) = AllStand policy outs
AllStand policy (Wire packet ∷ outs) = AllStand policy outs

-- at each row, by the policy in force at it
abbrev pub EachStands : List Row → Type 0
EachStands [] = Unit {0}
EachStands (row ∷ earlier) = EachStands earlier × AllStand (policy_in_force (row ∷ earlier)) row.outs
