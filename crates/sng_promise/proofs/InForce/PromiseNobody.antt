-- Each note that is of no client stands under the policy in force: of what leaves for the broker, of a
-- source, of a stranger, and of the broker.
use Rattle.std.proofs.Common.{◌≡◌, inl, ℕ, Bool, true, false, List, [], ◌∷◌, ◌++◌, refl, if◌then◌else◌}
use Rattle.std.specs.Prelude.{Option, Some, None}
use Rattle.sng_grants.specs.Limits.{Limits}
use Rattle.sng_text.specs.Texts.{is_name}
use Rattle.sng_grants.specs.declared.policy.Policy.{Policy}
use Rattle.sng_outbox.specs.declared.in_flight.InFlight.{InFlight}
use Rattle.sng_outbox.specs.declared.item.Item.{Item}
use Rattle.sng_outbox.specs.declared.item.Item.TheVariants as item
use Rattle.sng_outbox.specs.declared.item.Publication.{Publication}
use Rattle.sng_outbox.specs.declared.origin.Origin.{Origin}
use Rattle.sng_outbox.specs.declared.origin.Origin.TheVariants as origin
use Rattle.sng_book.specs.Whom.{who_of}
use Rattle.sng_book.specs.declared.address.Address.{Address}
use Rattle.sng_book.specs.declared.decision.Decision.TheVariants as note
use Rattle.sng_book.specs.declared.decision.Who.TheVariants as who
use Rattle.sng_book.specs.declared.outcome.Denial.TheVariants.{Form}
use Rattle.sng_book.specs.declared.outcome.FormDenial.TheVariants.{BadName}
use Rattle.sng_book.specs.declared.outcome.Outcome.{Outcome}
use Rattle.sng_book.specs.declared.outcome.Outcome.TheVariants.{Allowed, Denied}
use Rattle.sng_book.specs.declared.out.Out.TheVariants.{Note}
use Rattle.sng_history.specs.Causes.{Request, ToPing, ToLeave, ToSleep, ToRegister, ToPublish, ToSubscribe}
use Rattle.sng_history.specs.Causes.{ToUnsubscribe, ToConfirm}
use Rattle.sng_history.specs.Causes.{ToAcknowledge, ToState, Untaken}
use Rattle.sng_history.specs.Causes.{Cause, ByConnect, ByMessage, BySource, ByBroken, ByPacket, ByUp, ByDown}
use Rattle.sng_history.specs.Causes.{ByTake, ByReplace, ByTick}
use Rattle.sng_history.specs.Causes.{ToPublishOnce, ToRelease}
use Rattle.sng_history.specs.Links.{Link, wants, packet_id_by, exited, resumed, filters_wanted}
use Rattle.sng_history.specs.Links.{next_packet_id, subscribe_sent}
use Rattle.sng_history.specs.Links.{subscribe_left, unsubscribe_left}
use Rattle.sng_history.specs.Links.{may_open, outgoing}
use Rattle.sng_history.specs.Packets.{Answer, Delivers, Acknowledges, Grants, Refuses, Confirms, Strange}
use Rattle.sng_history.specs.Packets.{answer_of, answer_outs}
use Rattle.sng_history.specs.Packets.{dropped, owed, has_place}
use Rattle.sng_history.specs.State.{State, policy_by}
use Rattle.sng_history.specs.Verdicts.{exit}
use Rattle.sng_history.specs.Exits.{exits_of, agains_of, forwarded, subscribe_packet, unsubscribe_packet}
use Rattle.sng_history.specs.Exits.{subscribe_leaves}
use Rattle.sng_history.specs.Exits.{unsubscribe_leaves, subscribing, leaving, sent_again, resending}
use Rattle.sng_history.specs.Exits.{subscribe_out}
use Rattle.sng_history.specs.Whole.{stranger_to}
use Rattle.sng_history.specs.Steps.{outs_by}
use Rattle.sng_laws.specs.LawsPromise.{MayLeave, Stands}
use Rattle.sng_promise.proofs.InForce.EachNote.{EachNote, note_both, of_nobody}
use Rattle.sng_promise.proofs.Answers.LawRules.{exit_ruled}
use Rattle.sng_promise.proofs.InForce.PromiseAsks.{source_stands}
use Rattle.sng_promise.proofs.InForce.PromiseConnects.{entry_stands}
use Rattle.sng_promise.proofs.InForce.PromiseClients.{Broken, untaken_stands}

-- ---- a publish leaves

may_leave : (policy : Policy) (asker : Origin) (name : List ℕ)
    → MayLeave policy (who_of asker) name (exit policy asker name)
may_leave policy (origin.Client id) name = exit_ruled policy (origin.Client id) name
may_leave policy (origin.Source ip) name = exit_ruled policy (origin.Source ip) name

each_forwarded : (policy : Policy) (p : Publication) (packet_id : Option ℕ) (o : Outcome)
    → MayLeave policy (who_of p.origin) p.name o
    → EachNote (Stands policy) (forwarded p packet_id o)
each_forwarded policy p packet_id Allowed may = (may, tt)
each_forwarded policy p packet_id (Denied rule) may = (may, tt)

-- the SUBSCRIBE and the UNSUBSCRIBE of a filter are packets, and no notes
each_out : (policy : Policy) (link : Link) (text : List ℕ) → EachNote (Stands policy) (subscribe_out link text)
each_out policy link text = by_open (may_open link.wanted text)
  where
    by_open : (b : Bool) → EachNote (Stands policy)
        (if b then subscribe_packet (next_packet_id link) text ∷ [] else [])
    by_open true = tt
    by_open false = tt

each_subscribe : (policy : Policy) (link : Link) (text : List ℕ)
    → EachNote (Stands policy) (subscribe_leaves link text)
each_subscribe policy link text = by_wanted (wants link.wanted text)
  where
    by_wanted : (b : Bool) → EachNote (Stands policy) (if b then subscribe_out link text else [])
    by_wanted true = each_out policy link text
    by_wanted false = tt

each_subscribing : (policy : Policy) (link : Link) (texts : List (List ℕ))
    → EachNote (Stands policy) (subscribing link texts)
each_subscribing policy link [] = tt
each_subscribing policy link (text ∷ texts) =
    let next = subscribe_sent link text in
    note_both (Stands policy) (subscribe_out link text) (subscribing next texts) (each_out policy link text)
    (each_subscribing policy next texts)

each_unsubscribe : (policy : Policy) (link : Link) (text : List ℕ)
    → EachNote (Stands policy) (unsubscribe_leaves link text)
each_unsubscribe policy link text = by_wanted (wants link.wanted text)
  where
    by_wanted : (b : Bool) → EachNote (Stands policy)
        (if b then [] else unsubscribe_packet (next_packet_id link) text ∷ [])
    by_wanted true = tt
    by_wanted false = tt

each_leaving : (policy : Policy) (link : Link) (items : List Item)
    → EachNote (Stands policy) (leaving link items (exits_of policy items))
each_leaving policy link [] = tt
each_leaving policy link (item.Publish p ∷ items) =
    let o = exit policy p.origin p.name in
    note_both (Stands policy) (forwarded p (packet_id_by link p.qos) o)
    (leaving (exited link p o) items (exits_of policy items))
    (each_forwarded policy p (packet_id_by link p.qos) o (may_leave policy p.origin p.name))
    (each_leaving policy (exited link p o) items)
each_leaving policy link (item.Subscribe text ∷ items) =
    let next = subscribe_left link text in
    note_both (Stands policy) (subscribe_leaves link text) (leaving next items (exits_of policy items))
    (each_subscribe policy link text)
    (each_leaving policy next items)
each_leaving policy link (item.Unsubscribe text ∷ items) =
    let next = unsubscribe_left link text in
    note_both (Stands policy) (unsubscribe_leaves link text) (leaving next items (exits_of policy items))
    (each_unsubscribe policy link text)
    (each_leaving policy next items)
each_leaving policy link (item.Acknowledge packet_id ∷ items) = each_leaving policy link items
each_leaving policy link (item.Ping ∷ items) = each_leaving policy link items

each_take : (s : State) (up : Bool) → s.up ≡ up → EachNote (Stands s.policy) (outs_by s ByTake)
each_take s true is = rw is (each_leaving s.policy s.link (outgoing s.link))
each_take s false is = rw is tt

-- ---- a connection begins

each_again : (policy : Policy) (sent : InFlight) (o : Outcome)
    → MayLeave policy (who_of sent.publication.origin) sent.publication.name o
    → EachNote (Stands policy) (sent_again sent o)
each_again policy sent Allowed may = (may, tt)
each_again policy sent (Denied rule) may = (may, tt)

each_resending : (policy : Policy) (flights : List InFlight)
    → EachNote (Stands policy) (resending flights (agains_of policy flights))
each_resending policy [] = tt
each_resending policy (sent ∷ flights) =
    let p = sent.publication in
    let o = exit policy p.origin p.name in
    note_both (Stands policy) (sent_again sent o) (resending flights (agains_of policy flights))
    (each_again policy sent o (may_leave policy p.origin p.name)) (each_resending policy flights)

each_beginning : (s : State) → EachNote (Stands s.policy) (outs_by s ByUp)
each_beginning s =
    let outcomes = agains_of s.policy s.link.in_flight in
    let link = resumed s.link s.clock outcomes in
    let texts = filters_wanted s.link in
    note_both (Stands s.policy) (resending s.link.in_flight outcomes) (subscribing link texts)
    (each_resending s.policy s.link.in_flight)
    (each_subscribing s.policy link texts)

-- ---- strangers, and the broker

each_stranger : (policy : Policy) (from : Address) (request : Request)
    → EachNote (Stands policy) (stranger_to from request)
each_stranger policy from (ToPing client) = ((refl, refl), tt)
each_stranger policy from (ToSleep duration) = ((refl, refl), tt)
each_stranger policy from ToLeave = ((refl, refl), tt)
each_stranger policy from (ToRegister r) = (inl refl, tt)
each_stranger policy from (ToPublish p) = (inl refl, tt)
each_stranger policy from (ToPublishOnce p) = (inl refl, tt)
each_stranger policy from (ToRelease n) = ((refl, refl), tt)
each_stranger policy from (ToSubscribe r) = (inl refl, tt)
each_stranger policy from (ToUnsubscribe r) = (refl, tt)
each_stranger policy from (ToConfirm r) = ((refl, refl), tt)
each_stranger policy from (ToAcknowledge r) = ((refl, refl), tt)
each_stranger policy from (ToState statement) = (inl refl, tt)
each_stranger policy from (Untaken message) = (untaken_stands policy message (who.Address from), tt)

each_dropped : (policy : Policy) (place : Bool) (packet_id : Option ℕ)
    → EachNote (Stands policy) (dropped place packet_id)
each_dropped policy place None = tt
each_dropped policy true (Some packet_id) = tt
each_dropped policy false (Some packet_id) = (tt, tt)

each_delivered : (policy : Policy) (named place : Bool) (packet_id : Option ℕ)
    → EachNote (Stands policy) ((if named then [] else Note (note.Frame who.Broker (Denied (Form BadName)))
    ∷ [])
    ++ dropped place packet_id)
each_delivered policy true place packet_id = each_dropped policy place packet_id
each_delivered policy false place packet_id = ((refl, refl), each_dropped policy place packet_id)

each_answer : (limits : Limits) (policy : Policy) (up : Bool) (link : Link) (answer : Answer)
    → EachNote (Stands policy) (answer_outs limits up link answer)
each_answer limits policy up link (Delivers p) =
    each_delivered policy (is_name p.name) (has_place limits link) (owed up p)
each_answer limits policy up link (Acknowledges packet_id) = tt
each_answer limits policy up link (Grants packet_id) = tt
each_answer limits policy up link (Refuses packet_id) = tt
each_answer limits policy up link Confirms = tt
each_answer limits policy up link Strange = ((refl, refl), tt)

-- ---- whatever the cause

pub nobody_stands : (s : State) (c : Cause) → Broken c
    → EachNote (Stands (policy_by c s.policy)) (of_nobody s c)
nobody_stands s (ByConnect from connect) broken = (entry_stands s connect, tt)
nobody_stands s (ByMessage from request) broken = each_stranger s.policy from request
nobody_stands s (BySource from p) broken = (source_stands s from.ip p, tt)
nobody_stands s (ByBroken from rule) broken = ((refl, broken), tt)
nobody_stands s (ByPacket p) broken = each_answer s.policy.limits s.policy s.up s.link (answer_of p)
nobody_stands s ByUp broken = each_beginning s
nobody_stands s ByDown broken = tt
nobody_stands s ByTake broken = each_take s s.up refl
nobody_stands s (ByReplace policy) broken = tt
nobody_stands s (ByTick clock) broken = tt
