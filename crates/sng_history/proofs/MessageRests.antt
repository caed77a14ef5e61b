-- After a message of its own a client has nothing left that could be handed over.
use Rattle.std.proofs.Common.{◌≡◌, ℕ, Bool, true, false, List, [], ◌∷◌, ◌++◌, refl, ap, sym, ◌∙◌, subst}
use Rattle.std.specs.Prelude.{if◌then◌else◌, ◌==◌, not, drop, Option, Some, None}
use Rattle.sng_grants.specs.declared.policy.Policy.{Policy}
use Rattle.sng_fan.specs.declared.held.Held.{Held}
use Rattle.sng_fan.specs.Subscriptions.{without_filter}
use Rattle.sng_frames.specs.declared.messages.acks.TopicAck.{TopicAck}
use Rattle.sng_frames.specs.declared.messages.subscribe.TopicRequest.{TopicRequest}
use Rattle.sng_states.specs.States.{in_dialogue, takes_messages, is_due_messages, is_active, is_asleep}
use Rattle.sng_ids.specs.Ids.{confirmed}
use Rattle.sng_queue.specs.Exchanges.{awaits_ack}
use Rattle.sng_queue.specs.Messages.{Message}
use Rattle.sng_queue.specs.Buffers.{Buffer, settle}
use Rattle.sng_book.specs.declared.address.Address.{Address}
use Rattle.sng_book.specs.declared.decision.Decision.{Decision}
use Rattle.sng_book.specs.declared.outcome.Outcome.{Outcome}
use Rattle.sng_book.specs.declared.outcome.Outcome.TheVariants.{Allowed, Denied}
use Rattle.sng_history.specs.Causes.{Request, ToPing, ToLeave, ToSleep, ToRegister, ToPublish, ToSubscribe}
use Rattle.sng_history.specs.Causes.{ToUnsubscribe}
use Rattle.sng_history.specs.Causes.{ToConfirm, ToAcknowledge, ToState, Untaken}
use Rattle.sng_history.specs.Causes.{ByMessage}
use Rattle.sng_history.specs.Causes.{ToPublishOnce, ToRelease}
use Rattle.sng_history.specs.Handing.{answers_announcement, ends_exchange}
use Rattle.sng_history.specs.Clients.{Around, Client, is_here, closed, confirmed_with, is_confirming}
use Rattle.sng_history.specs.Clients.{is_acknowledging, answered_by}
use Rattle.sng_history.specs.Clients.{names_own, is_waking, awake, asleep}
use Rattle.sng_history.specs.Clients.{start_by, subscribed, subscribe_of, unsubscribed, note_by}
use Rattle.sng_history.specs.Clients.{notes_by, received, publish_released}
use Rattle.sng_history.specs.State.{State, around}
use Rattle.sng_history.specs.Verdicts.{ping_verdict, coverage, is_repeat, publish_once_ask}
use Rattle.sng_history.specs.Outgoing.{handed_over, refusals, out_of_turn}
use Rattle.sng_history.specs.Lawful.{denial_of, confirmations, woken_notes, fixed_to, fixed_for, end_of}
use Rattle.sng_history.specs.Lawful.{ends_under}
use Rattle.sng_history.specs.Steps.{client_next}
use Rattle.sng_history.specs.Entering.{heard_at}
use Rattle.sng_history.specs.Good.{AtRest}
use Rattle.sng_history.proofs.Asks.{of_register, of_publish, of_publish_once, of_subscribe}
use Rattle.sng_history.proofs.Asks.{of_unsubscribe}
use Rattle.sng_history.proofs.Hands.{Every, every_if}
use Rattle.sng_history.proofs.Steady.{asleep_settled, due_settled}
use Rattle.sng_history.proofs.Served.{Rested, rested, rest_drained, InSession, rest_served, rest_heard}
use Rattle.sng_history.proofs.Served.{rest_gone, taking}
use Rattle.sng_history.proofs.StatedRests.{rest_statement}
use Rattle.sng_history.proofs.Turns.{none_waits}
use Rattle.sng_history.proofs.EndlessRequests.{denied_stays}
use Rattle.sng_history.proofs.Booleans.{left_holds}

-- ---- notes that move no messages

abbrev pub Restful : Around → Decision → Type 0
Restful a said = (x : Client) → Rested x → Rested (note_by a said x)

pub notes_rest : (a : Around) (notes : List Decision) (x : Client) → Every (Restful a) notes → Rested x
    → Rested (notes_by a notes x)
notes_rest a [] x every rest = rest
notes_rest a (said ∷ notes) x every rest = notes_rest a notes (note_by a said x) every.1 (every.0 x rest)

pub rest_without : (x : Client) (held : List Held) → Rested x → Rested (record x { filters = held })
rest_without x held rest =
    record { handed = rest.handed; quiet = rest.quiet; away = rest.away; dialogue = rest.dialogue }

restful_subscribe : (r : Option TopicRequest) (filter : Option (List ℕ)) (outcome : Outcome) (x : Client)
    → Rested x
    → Rested (subscribed r filter outcome x)
restful_subscribe None filter outcome x rest = rest
restful_subscribe (Some r) None outcome x rest = rest
restful_subscribe (Some r) (Some filter) Allowed x rest =
    record { handed = rest.handed; quiet = rest.quiet; away = rest.away; dialogue = rest.dialogue }
restful_subscribe (Some r) (Some filter) (Denied rule) x rest = rest

restful_received : (id : Option ℕ) (outcome : Outcome) (x : Client) → Rested x
    → Rested (received id outcome x)
restful_received None outcome x rest = rest
restful_received (Some id) Allowed x rest =
    record { handed = rest.handed; quiet = rest.quiet; away = rest.away; dialogue = rest.dialogue }
restful_received (Some id) (Denied rule) x rest = rest

restful_unsubscribe : (filter : Option (List ℕ)) (outcome : Outcome) (x : Client) → Rested x
    → Rested (unsubscribed filter outcome x)
restful_unsubscribe None outcome x rest = rest
restful_unsubscribe (Some filter) Allowed x rest = rest_without x (without_filter x.filters filter) rest
restful_unsubscribe (Some filter) (Denied rule) x rest = rest

restful_end : (a : Around) (client filter : List ℕ) (outcome : Outcome) (notes : List Decision)
    → Every (Restful a) notes → Every (Restful a) (end_of client filter outcome ++ notes)
restful_end a client filter Allowed notes every = every
restful_end a client filter (Denied rule) notes every = (
  (λ x rest. record {
    handed = rest.handed;
    quiet = rest.quiet;
    away = rest.away;
    dialogue = rest.dialogue;
  }),
  every,
)

pub restful_ends : (a : Around) (policy : Policy) (client : List ℕ) (held : List Held)
    → Every (Restful a) (ends_under policy client held)
restful_ends a policy client [] = tt
restful_ends a policy client (h ∷ held) =
    restful_end a client h.filter (coverage policy client h.filter) (ends_under policy client held)
    (restful_ends a policy client held)

-- ---- a message of the client

settled_empty : (b : Buffer) (waits : Bool) → b.waiting ≡ []
    → (let c : Buffer = if waits then b else record { waiting = drop 1 b.waiting; exchange = None } in
    c).waiting ≡ []
settled_empty b true none = none
settled_empty b false none = ap (drop 1) none

-- the front is refused
rest_refused : (a : Around) (x : Client) (code : ℕ) (waiting : List Message) → x.buffer.waiting ≡ waiting
    → InSession x
    → takes_messages x.phase ≡ true → Rested x
    → Rested (notes_by a (refusals x.id code waiting
    ++ handed_over a.policy (record x { buffer = settle x.buffer })) x)
rest_refused a x code [] none in_session takes rest =
    let y : Client = record x { buffer = settle x.buffer } in
    subst (λ notes. Rested (notes_by a notes x))
    (sym (none_waits a.policy y (settled_empty x.buffer (awaits_ack x.buffer.exchange) none))) rest
rest_refused a x code (m ∷ more) is in_session takes rest =
    rest_served a (record x { buffer = settle x.buffer })
    (record { here = in_session.here; quiet = rw takes refl; dialogue = in_session.dialogue })

rest_confirmed : (a : Around) (r : TopicAck) (x : Client) (accepted : Bool) → takes_messages x.phase ≡ true
    → AtRest x
    → (let y = heard_at a.clock x in
    Rested (notes_by a
    (if accepted
    then handed_over a.policy (if accepted then record (closed x) { ids = confirmed r.topic_id x.ids } else x)
    else refusals x.id r.code.0 x.buffer.waiting
    ++ handed_over a.policy (record x { buffer = settle x.buffer }))
    (if accepted then record (closed y) { ids = confirmed r.topic_id y.ids } else y)))
rest_confirmed a r x true takes rest =
    let y = heard_at a.clock x in
    let in_session = taking x takes rest in
    rest_served a (record (closed y) { ids = confirmed r.topic_id y.ids })
    (record { here = in_session.here; quiet = rw takes refl; dialogue = in_session.dialogue })
rest_confirmed a r x false takes rest =
    let in_session = taking x takes rest in
    rest_refused a (heard_at a.clock x) r.code.0 x.buffer.waiting refl
    (record { here = in_session.here; quiet = in_session.quiet; dialogue = in_session.dialogue }) takes
    (rest_heard a.clock x (rested x rest))

-- a REGACK, before which the client was heard
rest_regack : (a : Around) (r : TopicAck) (x : Client) (turn : Bool) → is_confirming r x ≡ turn → AtRest x
    → Rested (notes_by a (if turn then confirmations a.policy r x else out_of_turn x.id)
    (if turn then confirmed_with r (heard_at a.clock x) else heard_at a.clock x))
rest_regack a r x true is rest =
    rest_confirmed a r x (r.code.0 == 0)
    (left_holds (takes_messages x.phase) (answers_announcement x.buffer.exchange r) is) rest
rest_regack a r x false is rest = rest_heard a.clock x (rested x rest)

-- a PUBACK
rest_puback : (a : Around) (r : TopicAck) (x : Client) (turn : Bool) → is_acknowledging r x ≡ turn → AtRest x
    → Rested (notes_by a (if turn then handed_over a.policy (closed x) else out_of_turn x.id)
    (if turn then closed (heard_at a.clock x) else heard_at a.clock x))
rest_puback a r x true is rest =
    let y = heard_at a.clock x in
    let takes : takes_messages x.phase ≡ true =
    left_holds (takes_messages x.phase) (ends_exchange x.buffer.exchange r) is in
    let in_session = taking x takes rest in
    rest_served a (closed y) (record {
      here = in_session.here;
      quiet = rw takes refl;
      dialogue = in_session.dialogue;
    })
rest_puback a r x false is rest = rest_heard a.clock x (rested x rest)

-- ---- sleep and waking

-- a denial moves nothing
denial_first : (a : Around) (id : List ℕ) (o : Outcome) (notes : List Decision) (x : Client)
    → notes_by a (denial_of id o ++ notes) x ≡ notes_by a notes x
denial_first a id Allowed notes x = refl
denial_first a id (Denied rule) notes x = refl

-- a PINGREQ, which may wake the client
rest_woken : (a : Around) (client : Option (List ℕ)) (x : Client) (wakes : Bool) → is_waking client x ≡ wakes
    → AtRest x
    → Rested (notes_by a (if wakes then handed_over a.policy (awake x) else [])
    (if wakes then awake (heard_at a.clock x) else heard_at a.clock x))
rest_woken a client x true is rest =
    let plain : in_dialogue x.phase ≡ false =
    (asleep_settled x.phase (left_holds (is_asleep x.phase) (names_own client x.id) is)).talks in
    rest_served a (awake (heard_at a.clock x))
    (record { here = refl; quiet = refl; dialogue = sym plain ∙ rest.dialogue })
rest_woken a client x false is rest = rest_heard a.clock x (rested x rest)

rest_ping : (a : Around) (client : Option (List ℕ)) (x : Client) → AtRest x
    → (let y = heard_at a.clock x in
    Rested (notes_by a (denial_of x.id (ping_verdict client x) ++ woken_notes a.policy client x)
    (if is_waking client x then awake y else y)))
rest_ping a client x rest =
    let y = heard_at a.clock x in
    let z : Client = if is_waking client x then awake y else y in
    subst Rested (sym (denial_first a x.id (ping_verdict client x) (woken_notes a.policy client x) z))
    (rest_woken a client x (is_waking client x) refl rest)

-- a DISCONNECT with Duration
rest_sleep : (a : Around) (duration : ℕ) (x : Client) (turn : Bool) → is_due_messages x.phase ≡ turn
    → AtRest x
    → Rested (notes_by a (if turn then [] else out_of_turn x.id)
    (if turn then asleep duration (heard_at a.clock x) else heard_at a.clock x))
rest_sleep a duration x true is rest =
    record {
      handed = refl;
      quiet = refl;
      away = refl;
      dialogue = sym (due_settled x.phase is).talks ∙ rest.dialogue;
    }
rest_sleep a duration x false is rest = rest_heard a.clock x (rested x rest)

-- a PUBREL
rest_release : (a : Around) (id : ℕ) (x : Client) (turn : Bool) → AtRest x
    → Rested (notes_by a (if turn then [] else out_of_turn x.id)
    (if turn then publish_released id (heard_at a.clock x) else heard_at a.clock x))
rest_release a id x true rest =
    let at = rest_heard a.clock x (rested x rest) in
    record { handed = at.handed; quiet = at.quiet; away = at.away; dialogue = at.dialogue }
rest_release a id x false rest = rest_heard a.clock x (rested x rest)

-- ---- each message

rest_to : (s : State) (from : Address) (request : Request) (x : Client) → AtRest x
    → (let a = around s (ByMessage from request) in
    Rested (notes_by a (fixed_to s request x) (answered_by (Some request) (heard_at s.clock x))))
rest_to s from (ToConfirm r) x rest =
    rest_regack (around s (ByMessage from (ToConfirm r))) r x (is_confirming r x) refl rest
rest_to s from (ToAcknowledge r) x rest =
    rest_puback (around s (ByMessage from (ToAcknowledge r))) r x (is_acknowledging r x) refl rest
rest_to s from ToLeave x rest =
    rest_gone (around s (ByMessage from ToLeave)) x.id x.buffer.waiting (heard_at s.clock x)
rest_to s from (ToPing client) x rest = rest_ping (around s (ByMessage from (ToPing client))) client x rest
rest_to s from (ToSleep duration) x rest =
    rest_sleep (around s (ByMessage from (ToSleep duration))) duration x (is_due_messages x.phase) refl rest
rest_to s from (ToRegister r) x rest =
    let a = around s (ByMessage from (ToRegister r)) in
    of_register (Restful a) s.policy x r.name
    (λ name o y at. record { handed = at.handed; quiet = at.quiet; away = at.away; dialogue = at.dialogue })
    (heard_at s.clock x)
    (rest_heard s.clock x (rested x rest))
rest_to s from (ToPublish p) x rest =
    let a = around s (ByMessage from (ToPublish p)) in
    of_publish (Restful a) s x p (λ name o y at. at) (heard_at s.clock x)
    (rest_heard s.clock x (rested x rest))
rest_to s from (ToPublishOnce p) x rest =
    let a = around s (ByMessage from (ToPublishOnce p)) in
    let notes : List Decision = publish_once_ask s x p ∷ [] in
    notes_rest a (if not (is_repeat p x) then notes else []) (heard_at s.clock x)
    (every_if (Restful a) (not (is_repeat p x)) notes
    (of_publish_once (Restful a) s x p (λ name o y at. restful_received (Some p.msg_id) o y at), tt))
    (rest_heard s.clock x (rested x rest))
rest_to s from (ToRelease id) x rest =
    rest_release (around s (ByMessage from (ToRelease id))) id x (is_active x.phase) rest
rest_to s from (ToSubscribe r) x rest =
    let a = around s (ByMessage from (ToSubscribe r)) in
    of_subscribe (Restful a) s x r (λ filter o y at. restful_subscribe (subscribe_of a.cause) filter o y at)
    (heard_at s.clock x)
    (rest_heard s.clock x (rested x rest))
rest_to s from (ToUnsubscribe r) x rest =
    let a = around s (ByMessage from (ToUnsubscribe r)) in
    of_unsubscribe (Restful a) s.policy x r (λ filter o y at. restful_unsubscribe filter o y at)
    (heard_at s.clock x)
    (rest_heard s.clock x (rested x rest))
rest_to s from (ToState statement) x rest = rest_statement s from statement x (rested x rest)
rest_to s from (Untaken message) x rest =
    let a = around s (ByMessage from (Untaken message)) in
    subst Rested (sym (denied_stays a (heard_at s.clock x) x.id message))
    (rest_heard s.clock x (rested x rest))

pub rest_message : (s : State) (from : Address) (request : Request) (x : Client) (here : Bool)
    → is_here x from ≡ here → AtRest x
    → AtRest (client_next s (ByMessage from request) x)
rest_message s from request x here is rest =
    let a = around s (ByMessage from request) in
    let notes = fixed_for s (ByMessage from request) x in
    rest_drained (notes_by a notes (start_by a x)) (by_here s from request x here is rest)
  where
    by_here : (s : State) (from : Address) (request : Request) (x : Client) (here : Bool)
        → is_here x from ≡ here → AtRest x
        → (let a = around s (ByMessage from request) in
        Rested (notes_by a (if is_here x from then fixed_to s request x else []) (start_by a x)))
    by_here s from request x true is rest = rw is (rest_to s from request x rest)
    by_here s from request x false is rest = rw is (rested x rest)
