-- What holds of each item that waits for the broker holds of each that waits after a step, where it holds of
-- what a row adds.
use Rattle.std.proofs.Common.{ℕ, Bool, true, false, List, [], ◌∷◌, ◌++◌}
use Rattle.std.specs.Prelude.{if◌then◌else◌, Option, Some, None}
use Rattle.std.specs.List.{flat_map}
use Rattle.sng_grants.specs.Limits.{Limits}
use Rattle.sng_text.specs.declared.qos.Qos.{Qos}
use Rattle.sng_text.specs.declared.qos.Qos.TheVariants.{AtMostOnce}
use Rattle.sng_frames.specs.declared.messages.publish.Publish.{Publish}
use Rattle.sng_outbox.specs.Sending.{publishes}
use Rattle.sng_outbox.specs.declared.item.Item.{Item}
use Rattle.sng_outbox.specs.declared.item.Item.TheVariants as item
use Rattle.sng_outbox.specs.declared.item.Publication.{Publication}
use Rattle.sng_outbox.specs.declared.origin.Origin.{Origin}
use Rattle.sng_outbox.specs.declared.origin.Origin.TheVariants as origin
use Rattle.sng_book.specs.declared.decision.Decision.{Decision}
use Rattle.sng_book.specs.declared.decision.Decision.TheVariants as note
use Rattle.sng_book.specs.declared.decision.Who.{Who}
use Rattle.sng_book.specs.declared.decision.Who.TheVariants as who
use Rattle.sng_book.specs.declared.outcome.Outcome.{Outcome}
use Rattle.sng_book.specs.declared.outcome.Outcome.TheVariants.{Allowed, Denied}
use Rattle.sng_book.specs.Denials.{is_allowed}
use Rattle.sng_history.specs.Causes.{Cause, publish_asked}
use Rattle.sng_history.specs.Causes.{ByConnect, ByMessage, BySource, ByBroken, ByPacket, ByUp, ByDown, ByTake}
use Rattle.sng_history.specs.Causes.{ByReplace, ByTick}
use Rattle.sng_history.specs.Clients.{Client}
use Rattle.sng_history.specs.Links.{Link}
use Rattle.sng_history.specs.Packets.{Answer, Delivers, Acknowledges, Grants, Refuses, Confirms, Strange}
use Rattle.sng_history.specs.Packets.{answer_of, owed, has_place, acknowledgement, acknowledgements}
use Rattle.sng_history.specs.State.{State, item_for, item_asked, publish_item, subscribe_item, asked_by}
use Rattle.sng_history.specs.State.{qos_of, waiting_by, later, policy_by}
use Rattle.sng_history.specs.Standing.{released, unsubscribes}
use Rattle.sng_history.specs.Verdicts.{source_ask}
use Rattle.sng_history.specs.Lawful.{fixed_for}
use Rattle.sng_history.specs.Ticking.{ticked}
use Rattle.sng_history.specs.Steps.{asked_by_all, asked_for, clients_next}
use Rattle.sng_history.proofs.Ticked.{ticked_holds}

abbrev pub EachItem : (Item → Type 0) → List Item → Type 0
EachItem P [] = Unit {0}
EachItem P (one ∷ items) = P one × EachItem P items

-- it holds of what a row adds beside UNSUBSCRIBEs
pub record Added (P : Item → Type 0) : Type 0 where
  pub publish : (p : Publication) → P (item.Publish p)
  pub subscribe : (filter : List ℕ) → P (item.Subscribe filter)
  pub acknowledge : (packet_id : ℕ) → P (item.Acknowledge packet_id)
  pub ping : P item.Ping

item_append : (P : Item → Type 0) (xs ys : List Item) → EachItem P xs → EachItem P ys → EachItem P (xs ++ ys)
item_append P [] ys one two = two
item_append P (x ∷ xs) ys one two = (one.0, item_append P xs ys one.1 two)

item_publishes : (P : Item → Type 0) (items : List Item) → EachItem P items → EachItem P (publishes items)
item_publishes P [] all = tt
item_publishes P (item.Publish p ∷ items) all = (all.0, item_publishes P items all.1)
item_publishes P (item.Subscribe filter ∷ items) all = item_publishes P items all.1
item_publishes P (item.Unsubscribe filter ∷ items) all = item_publishes P items all.1
item_publishes P (item.Acknowledge packet_id ∷ items) all = item_publishes P items all.1
item_publishes P (item.Ping ∷ items) all = item_publishes P items all.1

item_if : (P : Item → Type 0) (b : Bool) (xs ys : List Item) → EachItem P xs → EachItem P ys
    → EachItem P (if b then xs else ys)
item_if P true xs ys one two = one
item_if P false xs ys one two = two

item_one : (P : Item → Type 0) → Added P → (asker : Origin) (name : List ℕ) (q : Qos) (p : Publish) (b : Bool)
    → EachItem P (if b then item_for asker name q p ∷ [] else [])
item_one P added asker name q p b = item_if P b (item_for asker name q p ∷ []) [] (added.publish _, tt) tt

item_ask : (P : Item → Type 0) → Added P → (whom : Who) (name : Option (List ℕ)) (o : Outcome) (p : Publish)
    → EachItem P (item_asked whom name o p)
item_ask P added (who.Source source) (Some name) o p =
    item_one P added (origin.Source source) name AtMostOnce p (is_allowed o)
item_ask P added (who.Client client) (Some name) o p =
    item_one P added (origin.Client client) name (qos_of p.flags.qos) p (is_allowed o)
item_ask P added (who.Source source) None o p = tt
item_ask P added (who.Client client) None o p = tt
item_ask P added (who.Address address) name o p = tt
item_ask P added who.Broker name o p = tt

item_publish : (P : Item → Type 0) → Added P
    → (whom : Who) (name : Option (List ℕ)) (o : Outcome) (p : Option Publish)
    → EachItem P (publish_item whom name o p)
item_publish P added whom name o None = tt
item_publish P added whom name o (Some p) = item_ask P added whom name o p

item_subscribe : (P : Item → Type 0) → Added P → (filter : Option (List ℕ)) (o : Outcome)
    → EachItem P (subscribe_item filter o)
item_subscribe P added (Some filter) Allowed = (added.subscribe filter, tt)
item_subscribe P added (Some filter) (Denied rule) = tt
item_subscribe P added None o = tt

item_said : (P : Item → Type 0) → Added P → (p : Option Publish) (said : Decision)
    → EachItem P (asked_by p said)
item_said P added p (note.Publish whom name o) = item_publish P added whom name o p
item_said P added p (note.Subscribe whom filter o) = item_subscribe P added filter o
item_said P added p _ = tt

item_all : (P : Item → Type 0) → Added P → (p : Option Publish) (notes : List Decision)
    → EachItem P (asked_by_all p notes)
item_all P added p [] = tt
item_all P added p (said ∷ notes) =
    item_append P (asked_by p said) (asked_by_all p notes) (item_said P added p said)
    (item_all P added p notes)

item_flat : (P : Item → Type 0) (f : Client → List Item) (xs : List Client)
    → ((x : Client) → EachItem P (f x)) → EachItem P (flat_map f xs)
item_flat P f [] each = tt
item_flat P f (x ∷ xs) each = item_append P (f x) (flat_map f xs) (each x) (item_flat P f xs each)

item_owed : (P : Item → Type 0) → Added P → (place : Bool) (o : Option ℕ)
    → EachItem P (acknowledgement place o)
item_owed P added place None = tt
item_owed P added place (Some packet_id) =
    item_if P place (item.Acknowledge packet_id ∷ []) [] (added.acknowledge packet_id, tt) tt

item_answer : (P : Item → Type 0) → Added P → (limits : Limits) (up : Bool) (link : Link) (a : Answer)
    → EachItem P (acknowledgements limits up link a)
item_answer P added limits up link (Delivers p) = item_owed P added (has_place limits link) (owed up p)
item_answer P added limits up link (Acknowledges packet_id) = tt
item_answer P added limits up link (Grants packet_id) = tt
item_answer P added limits up link (Refuses packet_id) = tt
item_answer P added limits up link Confirms = tt
item_answer P added limits up link Strange = tt

item_ticked : (P : Item → Type 0) → Added P → (limits : Limits) (up : Bool) (link : Link) (clock : ℕ)
    (xs : List Client) → EachItem P link.waiting → EachItem P (ticked limits up link clock xs).waiting
item_ticked P added limits up link clock xs all =
    ticked_holds limits (λ l. EachItem P l.waiting) (record {
      publish = λ l p room before. item_append P l.waiting (item.Publish p ∷ []) before (added.publish p, tt);
      ping = λ l now before. item_append P l.waiting (item.Ping ∷ []) before (added.ping, tt);
    }) up link clock xs all

-- what waits after a step
abbrev pub waiting_next : State → Cause → List Item
waiting_next s c = waiting_by s c (asked_for s c) (clients_next s c)

-- the UNSUBSCRIBEs of filters that stand for nobody any more after the step
abbrev pub let_go : State → Cause → List Item
let_go s c = unsubscribes (policy_by c s.policy).limits s.link (released s.clients (clients_next s c))

pub each_next : (P : Item → Type 0) → Added P → (s : State) (c : Cause)
    → EachItem P (let_go s c) → EachItem P s.link.waiting → EachItem P (waiting_next s c)
each_next P added s (ByConnect from connect) ends all =
    item_append P s.link.waiting (let_go s (ByConnect from connect)) all ends
each_next P added s (ByMessage from request) ends all =
    let c = ByMessage from request in
    let go = let_go s c in
    let adds : Client → List Item = λ x. asked_by_all (publish_asked request) (fixed_for s c x) in
    item_append P s.link.waiting (asked_for s c ++ go) all
    (item_append P (asked_for s c) go
    (item_flat P adds s.clients (λ x. item_all P added (publish_asked request) (fixed_for s c x))) ends)
each_next P added s (BySource from p) ends all =
    item_append P s.link.waiting (asked_by (Some p) (source_ask s from.ip p)) all
    (item_said P added (Some p) (source_ask s from.ip p))
each_next P added s (ByBroken from rule) ends all = all
each_next P added s (ByPacket p) ends all =
    item_append P s.link.waiting (acknowledgements s.policy.limits s.up s.link (answer_of p)) all
    (item_answer P added s.policy.limits s.up s.link (answer_of p))
each_next P added s ByUp ends all =
    item_if P s.up (publishes s.link.waiting) s.link.waiting (item_publishes P s.link.waiting all) all
each_next P added s ByDown ends all = item_publishes P s.link.waiting all
each_next P added s ByTake ends all = item_if P s.up [] s.link.waiting tt all
each_next P added s (ByReplace policy) ends all =
    item_append P s.link.waiting (let_go s (ByReplace policy)) all ends
each_next P added s (ByTick clock) ends all =
    item_ticked P added s.policy.limits s.up s.link (later s.clock clock) s.clients all
