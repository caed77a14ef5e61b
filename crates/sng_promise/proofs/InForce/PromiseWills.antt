-- The note of what a client states of its will stands under the policy in force, and that of a will that
-- finds no place.
use Rattle.std.proofs.Common.{◌≡◌, inl, ℕ, Bool, true, false, List, [], ◌∷◌, refl, sym, subst, if◌then◌else◌}
use Rattle.std.specs.Prelude.{is_some, Option, Some, None}
use Rattle.sng_grants.specs.Limits.{Limits}
use Rattle.sng_text.specs.Texts.{is_name}
use Rattle.sng_grants.specs.declared.policy.Policy.{Policy}
use Rattle.sng_wills.specs.Stated.{awaited_topic}
use Rattle.sng_outbox.specs.declared.item.Publication.{Publication}
use Rattle.sng_outbox.specs.declared.origin.Origin.TheVariants as origin
use Rattle.sng_book.specs.Denials.{is_allowed}
use Rattle.sng_book.specs.declared.decision.Who.{Who}
use Rattle.sng_book.specs.declared.decision.Who.TheVariants as who
use Rattle.sng_book.specs.declared.outcome.Denial.TheVariants.{Form}
use Rattle.sng_book.specs.declared.outcome.FormDenial.TheVariants.{BadName}
use Rattle.sng_book.specs.declared.outcome.Outcome.{Outcome}
use Rattle.sng_book.specs.declared.outcome.Outcome.TheVariants.{Allowed, Denied}
use Rattle.sng_history.specs.Causes.{Statement, StatesTopic, StatesMessage, UpdatesTopic, UpdatesMessage}
use Rattle.sng_history.specs.Clients.{Client}
use Rattle.sng_history.specs.Links.{Link}
use Rattle.sng_history.specs.Room.{room_in}
use Rattle.sng_history.specs.Verdicts.{and_then, client_scope, in_turn, is_active}
use Rattle.sng_history.specs.WillAsks.{awaits_topic, turn, statement_turn, topic_at, name_rule, topic_read}
use Rattle.sng_history.specs.WillAsks.{topic_granted, statement_read}
use Rattle.sng_history.specs.WillAsks.{statement_ask}
use Rattle.sng_history.specs.Losing.{unplaced, will_dropped}
use Rattle.sng_laws.specs.LawsRules.{judged, publish_rules}
use Rattle.sng_laws.specs.LawsPromise.{MayState, Stands}
use Rattle.sng_history.proofs.Hands.{Every}
use Rattle.sng_promise.proofs.Answers.LawRules.{exit_ruled}
use Rattle.sng_promise.proofs.InForce.PromiseRules.{IsOwn, IsRoom, publish_own, link_room}
use Rattle.sng_promise.proofs.InForce.PromiseAsks.{IsFirst, turn_first, first_both, scope_first}

-- ---- before the grant

statement_first : (policy : Policy) (statement : Statement) (x : Client)
    → IsFirst policy (who.Client x.id) (statement_turn statement x)
statement_first policy (StatesTopic topic) x =
    turn_first policy (who.Client x.id) (awaits_topic x.wills.stage)
statement_first policy (StatesMessage message) x =
    turn_first policy (who.Client x.id) (is_some (awaited_topic x.wills.stage))
statement_first policy (UpdatesTopic topic) x = turn_first policy (who.Client x.id) (is_active x.phase)
statement_first policy (UpdatesMessage message) x =
    first_both policy (who.Client x.id) (in_turn x) (turn (is_some x.wills.will))
    (turn_first policy (who.Client x.id) (is_active x.phase))
    (turn_first policy (who.Client x.id) (is_some x.wills.will))

name_first : (policy : Policy) (whom : Who) (b : Bool)
    → IsFirst policy whom (if b then Allowed else Denied (Form BadName))
name_first policy whom true = tt
name_first policy whom false = inl refl

topic_first : (policy : Policy) (id : List ℕ) (topic : Option (List ℕ))
    → IsFirst policy (who.Client id) (topic_read policy id topic)
topic_first policy id None = tt
topic_first policy id (Some text) =
    first_both policy (who.Client id) (client_scope policy id) (name_rule text) (scope_first policy id)
    (name_first policy (who.Client id) (is_name text))

-- ---- the grant

said_will : (policy : Policy) (id topic : List ℕ) (verdict : Outcome)
    → judged (publish_rules policy (origin.Client id) topic) ≡ verdict
    → IsOwn verdict
    → MayState policy (who.Client id) (Some topic) verdict
said_will policy id topic Allowed is own = is
said_will policy id topic (Denied rule) is own = rw own is

granted_will : (policy : Policy) (id : List ℕ) (topic : Option (List ℕ))
    → MayState policy (who.Client id) topic (topic_granted policy id topic)
granted_will policy id None = tt
granted_will policy id (Some name) =
    let verdict = judged (publish_rules policy (origin.Client id) name) in
    subst (MayState policy (who.Client id) (Some name)) (sym (exit_ruled policy (origin.Client id) name))
    (said_will policy id name verdict refl (publish_own policy (origin.Client id) name))

read_will : (policy : Policy) (id : List ℕ) (topic : Option (List ℕ)) (read : Outcome)
    → IsFirst policy (who.Client id) read
    → MayState policy (who.Client id) (if is_allowed read then topic else None)
    (and_then read (topic_granted policy id topic))
read_will policy id topic Allowed first = granted_will policy id topic
read_will policy id topic (Denied rule) first = first

pub statement_stands : (policy : Policy) (statement : Statement) (x : Client)
    → Stands policy (statement_ask policy statement x)
statement_stands policy statement x =
    let topic = topic_at statement x in
    read_will policy x.id topic (statement_read policy statement x)
    (first_both policy (who.Client x.id) (statement_turn statement x) (topic_read policy x.id topic)
    (statement_first policy statement x)
    (topic_first policy x.id topic))

-- ---- a will that finds no place

every_unplaced : (policy : Policy) (id : List ℕ) (p : Publication) (o : Outcome) → IsRoom o
    → Every (Stands policy) (unplaced id p o)
every_unplaced policy id p Allowed room = tt
every_unplaced policy id p (Denied rule) room = (rw room tt, tt)

pub every_will : (limits : Limits) (policy : Policy) (link : Link) (id : List ℕ) (ps : List Publication)
    → Every (Stands policy) (will_dropped limits link id ps)
every_will limits policy link id [] = tt
every_will limits policy link id (p ∷ ps) = every_unplaced policy id p (room_in limits link p.qos)
    (link_room limits link p.qos)
