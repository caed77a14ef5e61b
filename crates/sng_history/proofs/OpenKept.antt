-- After a step no more of a client's MsgIds are open than may be, each once.
use Rattle.std.proofs.Common.{ℕ, Bool, true, false, List, [], ◌∷◌, ◌++◌}
use Rattle.std.specs.Prelude.{if◌then◌else◌, ◌==◌, ◌&&◌, not, Option, Some, None}
use Rattle.sng_states.specs.OpenIds.{IsOpenIds}
use Rattle.sng_states.specs.States.{is_active, is_due_messages}
use Rattle.sng_states.proofs.OpenIdLemmas.{none_open, few_admitted, few_without}
use Rattle.sng_frames.specs.declared.messages.subscribe.TopicRequest.{TopicRequest}
use Rattle.sng_book.specs.Denials.{is_allowed}
use Rattle.sng_book.specs.declared.decision.Decision.{Decision}
use Rattle.sng_book.specs.declared.decision.Decision.TheVariants as note
use Rattle.sng_book.specs.declared.outcome.Outcome.{Outcome}
use Rattle.sng_book.specs.declared.outcome.Outcome.TheVariants.{Allowed, Denied}
use Rattle.sng_queue.specs.Buffers.{settle}
use Rattle.sng_ids.specs.Ids.{confirmed}
use Rattle.sng_frames.specs.declared.messages.acks.TopicAck.{TopicAck}
use Rattle.sng_states.specs.declared.state.ClientState.TheVariants.{Asleep}
use Rattle.sng_history.specs.Causes.{Cause, Statement, Request, request_of}
use Rattle.sng_history.specs.Causes.{ToPing, ToLeave, ToSleep, ToRegister, ToPublish, ToPublishOnce}
use Rattle.sng_history.specs.Causes.{ToRelease}
use Rattle.sng_history.specs.Causes.{ToSubscribe, ToUnsubscribe, ToConfirm, ToAcknowledge, ToState, Untaken}
use Rattle.sng_history.specs.Causes.{ByConnect, ByMessage, BySource, ByBroken, ByPacket, ByUp, ByDown, ByTake}
use Rattle.sng_history.specs.Causes.{ByReplace, ByTick}
use Rattle.sng_history.specs.Clients.{Around, Client, blank, is_author, is_confirming, is_acknowledging}
use Rattle.sng_history.specs.Clients.{confirmed_with, closed, is_waking, awake, asleep, publish_released}
use Rattle.sng_history.specs.Clients.{answered_by, delivered_by, start_by, cleaned, opened, entered_by}
use Rattle.sng_history.specs.Clients.{stated_by, statement_of, subscribed, subscribe_of, unsubscribed}
use Rattle.sng_history.specs.Clients.{received, id_opened_of, is_turned_away, handed, repeated}
use Rattle.sng_history.specs.Clients.{note_by, notes_by, is_drained, client_by}
use Rattle.sng_history.specs.State.{State, around, is_known}
use Rattle.sng_history.specs.Verdicts.{entry}
use Rattle.sng_history.specs.Lawful.{fixed_for}
use Rattle.sng_history.specs.Steps.{newcomers_for, client_next, clients_next}
use Rattle.sng_history.specs.Good.{Each}
use Rattle.sng_history.proofs.Own.{each_map, each_append, each_mapped}

-- no more are open than may be
abbrev pub FewOpen : Client → Type 0
FewOpen x = IsOpenIds x.unreleased

few_if : (b : Bool) (x y : Client) → FewOpen x → FewOpen y → FewOpen (if b then x else y)
few_if true x y one two = one
few_if false x y one two = two

-- ---- before any note

few_confirmed : (r : TopicAck) (x : Client) → FewOpen x → FewOpen (confirmed_with r x)
few_confirmed r x few =
    few_if (r.code.0 == 0) (record (closed x) { ids = confirmed r.topic_id x.ids }) x few few

few_answered : (request : Option Request) (x : Client) → FewOpen x → FewOpen (answered_by request x)
few_answered (Some (ToConfirm r)) x few =
    few_if (is_confirming r x) (confirmed_with r x) x (few_confirmed r x few) few
few_answered (Some (ToAcknowledge r)) x few = few_if (is_acknowledging r x) (closed x) x few few
few_answered (Some (ToPing client)) x few = few_if (is_waking client x) (awake x) x few few
few_answered (Some (ToSleep duration)) x few = few_if (is_due_messages x.phase) (asleep duration x) x few few
few_answered (Some (ToRelease id)) x few =
    few_if (is_active x.phase) (publish_released id x) x (few_without id x.unreleased few) few
few_answered (Some ToLeave) x few = few
few_answered (Some (ToRegister r)) x few = few
few_answered (Some (ToPublish p)) x few = few
few_answered (Some (ToPublishOnce p)) x few = few
few_answered (Some (ToSubscribe r)) x few = few
few_answered (Some (ToUnsubscribe r)) x few = few
few_answered (Some (ToState statement)) x few = few
few_answered (Some (Untaken message)) x few = few
few_answered None x few = few

few_delivered : (c : Cause) (x : Client) → FewOpen x → FewOpen (delivered_by c x)
few_delivered (ByPacket p) x few = few
few_delivered (ByConnect from connect) x few = few
few_delivered (ByMessage from request) x few = few
few_delivered (BySource from p) x few = few
few_delivered (ByBroken from rule) x few = few
few_delivered ByUp x few = few
few_delivered ByDown x few = few
few_delivered ByTake x few = few
few_delivered (ByReplace policy) x few = few
few_delivered (ByTick clock) x few = few

few_start : (a : Around) (x : Client) → FewOpen x → FewOpen (start_by a x)
few_start a x few =
    let y : Client = record x { heard = a.clock } in
    few_if (is_author a.cause x) (answered_by (request_of a.cause) y) (delivered_by a.cause x)
    (few_answered (request_of a.cause) y few) (few_delivered a.cause x few)

-- ---- each note

few_cleaned : (clean : Bool) (x : Client) → FewOpen x → FewOpen (cleaned clean x)
few_cleaned true x few = none_open
few_cleaned false x few = few

few_opened : (will : Bool) (x : Client) → FewOpen x → FewOpen (opened will x)
few_opened true x few = few
few_opened false x few = few

few_entered : (clock : ℕ) (c : Cause) (x : Client) → FewOpen x → FewOpen (entered_by clock c x)
few_entered clock (ByConnect from connect) x few =
    let y : Client = record x { address = from; ids = []; duration = connect.duration; heard = clock } in
    few_opened connect.flags.will (cleaned connect.flags.clean y) (few_cleaned connect.flags.clean y few)
few_entered clock (ByMessage from request) x few = few
few_entered clock (BySource from source) x few = few
few_entered clock (ByBroken from rule) x few = few
few_entered clock (ByPacket packet) x few = few
few_entered clock ByUp x few = few
few_entered clock ByDown x few = few
few_entered clock ByTake x few = few
few_entered clock (ByReplace policy) x few = few
few_entered now (ByTick clock) x few = few

few_received : (id : Option ℕ) (outcome : Outcome) (x : Client) → FewOpen x → FewOpen (received id outcome x)
few_received (Some id) Allowed x few = few_admitted id x.unreleased few
few_received (Some id) (Denied rule) x few = few
few_received None outcome x few = few

few_subscribed : (r : Option TopicRequest) (filter : Option (List ℕ)) (outcome : Outcome) (x : Client)
    → FewOpen x
    → FewOpen (subscribed r filter outcome x)
few_subscribed None filter outcome x few = few
few_subscribed (Some r) None outcome x few = few
few_subscribed (Some r) (Some filter) Allowed x few = few
few_subscribed (Some r) (Some filter) (Denied rule) x few = few

few_unsubscribed : (filter : Option (List ℕ)) (outcome : Outcome) (x : Client) → FewOpen x
    → FewOpen (unsubscribed filter outcome x)
few_unsubscribed None outcome x few = few
few_unsubscribed (Some filter) Allowed x few = few
few_unsubscribed (Some filter) (Denied rule) x few = few

few_stated : (statement : Option Statement) (outcome : Outcome) (x : Client) → FewOpen x
    → FewOpen (stated_by statement outcome x)
few_stated None outcome x few = few
few_stated (Some statement) Allowed x few = few
few_stated (Some statement) (Denied rule) x few = few

few_handed : (a : Around) (name : List ℕ) (outcome : Outcome) (x : Client) → FewOpen x
    → FewOpen (handed a name outcome x)
few_handed a name Allowed x few = few
few_handed a name (Denied rule) x few =
    few_if (is_turned_away rule) x (record x { buffer = settle x.buffer }) few few

few_repeated : (clock : ℕ) (outcome : Outcome) (x : Client) → FewOpen x → FewOpen (repeated clock outcome x)
few_repeated clock Allowed x few = few
few_repeated clock (Denied rule) x few = few

few_note : (a : Around) (said : Decision) (x : Client) → FewOpen x → FewOpen (note_by a said x)
few_note a (note.Connect id outcome) x few =
    few_if (is_allowed outcome) (entered_by a.clock a.cause x) x (few_entered a.clock a.cause x few) few
few_note a (note.Publish whom name outcome) x few = few_received (id_opened_of a.cause) outcome x few
few_note a (note.Subscribe whom filter outcome) x few =
    few_subscribed (subscribe_of a.cause) filter outcome x few
few_note a (note.Unsubscribe whom filter outcome) x few = few_unsubscribed filter outcome x few
few_note a (note.Will whom name outcome) x few = few_stated (statement_of a.cause) outcome x few
few_note a (note.Hand id name outcome) x few = few_handed a name outcome x few
few_note a (note.Retry id name outcome) x few = few_repeated a.clock outcome x few
few_note a (note.Left id) x few = few
few_note a (note.Register whom name outcome) x few = few
few_note a (note.Announce id name) x few = few
few_note a (note.Forward whom name outcome) x few = few
few_note a (note.Again whom name outcome) x few = few
few_note a (note.End id filter outcome) x few = few
few_note a (note.Lost id) x few = few
few_note a note.Outbox x few = few
few_note a (note.Frame whom outcome) x few = few

few_notes : (a : Around) (notes : List Decision) (x : Client) → FewOpen x → FewOpen (notes_by a notes x)
few_notes a [] x few = few
few_notes a (said ∷ notes) x few = few_notes a notes (note_by a said x) (few_note a said x few)

-- ---- all clients

pub few_client : (a : Around) (notes : List Decision) (x : Client) → FewOpen x
    → FewOpen (client_by a notes x)
few_client a notes x few =
    let y = notes_by a notes (start_by a x) in
    let last : FewOpen y = few_notes a notes (start_by a x) (few_start a x few) in
    few_if (is_drained y) (record y { phase = Asleep }) y last last

few_new : (b : Bool) (id : List ℕ) → Each FewOpen (if b then blank id ∷ [] else [])
few_new true id = (none_open, tt)
few_new false id = tt

few_newcomers : (s : State) (c : Cause) → Each FewOpen (newcomers_for s c)
few_newcomers s (ByConnect from connect) =
    few_new (is_allowed (entry s connect) && not (is_known connect.client_id s.clients)) connect.client_id
few_newcomers s (ByMessage from request) = tt
few_newcomers s (BySource from p) = tt
few_newcomers s (ByBroken from rule) = tt
few_newcomers s (ByPacket p) = tt
few_newcomers s ByUp = tt
few_newcomers s ByDown = tt
few_newcomers s ByTake = tt
few_newcomers s (ByReplace policy) = tt
few_newcomers s (ByTick clock) = tt

pub few_open_next : (s : State) (c : Cause) → Each FewOpen s.clients → Each FewOpen (clients_next s c)
few_open_next s c few =
    let xs = s.clients ++ newcomers_for s c in
    each_mapped FewOpen (client_next s c) xs
    (each_map FewOpen (λ x. FewOpen (client_next s c x)) xs
    (λ x one. few_client (around s c) (fixed_for s c x) x one)
    (each_append FewOpen s.clients (newcomers_for s c) few (few_newcomers s c)))
