-- The notes of a row tell a client at most one name more.
use Rattle.std.proofs.Common.{◌≡◌, ℕ, Bool, true, false, List, [], ◌∷◌, ◌++◌, refl, sym, subst, if◌then◌else◌}
use Rattle.std.specs.Prelude.{◌==◌, ◌||◌, Option, Some, None, not}
use Rattle.std.specs.Str.{bytes_eq}
use Rattle.sng_grants.specs.Limits.{Limits}
use Rattle.sng_grants.specs.declared.policy.Policy.{Policy}
use Rattle.sng_fan.specs.declared.held.Held.{Held}
use Rattle.mqtt_frames.specs.declared.packet.Packet.{Packet}
use Rattle.sng_queue.specs.Messages.{Message}
use Rattle.sng_queue.specs.Buffers.{settle}
use Rattle.sng_queue.specs.declared.exchange.Exchange.{Exchange}
use Rattle.sng_queue.specs.declared.exchange.Exchange.TheVariants.{Announcing, Acknowledging}
use Rattle.sng_states.specs.States.{is_due_messages}
use Rattle.sng_frames.specs.declared.messages.acks.TopicAck.{TopicAck}
use Rattle.sng_frames.specs.declared.messages.connect.Connect.{Connect}
use Rattle.sng_outbox.specs.declared.item.Publication.{Publication}
use Rattle.sng_book.specs.Denials.{is_allowed}
use Rattle.sng_book.specs.declared.address.Address.{Address}
use Rattle.sng_book.specs.declared.decision.Decision.{Decision}
use Rattle.sng_book.specs.declared.decision.Decision.TheVariants as note
use Rattle.sng_book.specs.declared.decision.Who.TheVariants as who
use Rattle.sng_book.specs.declared.outcome.Denial.TheVariants.{Form, Peer}
use Rattle.sng_book.specs.declared.outcome.FormDenial.TheVariants.{NotSupported, OutOfTurn}
use Rattle.sng_book.specs.declared.outcome.PeerDenial.TheVariants.{BrokerRefused}
use Rattle.sng_book.specs.declared.outcome.Outcome.{Outcome}
use Rattle.sng_book.specs.declared.outcome.Outcome.TheVariants.{Allowed, Denied}
use Rattle.sng_history.specs.Causes.{Request, ToPing, ToLeave, ToSleep, ToRegister, ToPublish, ToSubscribe}
use Rattle.sng_history.specs.Causes.{ToUnsubscribe, ToConfirm, ToAcknowledge, ToState, Untaken, Cause}
use Rattle.sng_history.specs.Causes.{Statement, StatesTopic, StatesMessage, UpdatesTopic, UpdatesMessage}
use Rattle.sng_history.specs.Causes.{ByConnect, ByMessage, BySource, ByBroken, ByPacket, ByUp, ByDown, ByTake}
use Rattle.sng_history.specs.Causes.{ByReplace, ByTick}
use Rattle.sng_history.specs.Causes.{ToPublishOnce, ToRelease}
use Rattle.sng_history.specs.Arriving.{joins, turned_away}
use Rattle.sng_history.specs.Links.{Link}
use Rattle.sng_history.specs.Room.{room_in}
use Rattle.sng_history.specs.Ticking.{is_repeating, is_lost_at, will_of, testaments, all_placed}
use Rattle.sng_history.specs.Losing.{before, unplaced, will_dropped, lost_notes, message_open, judged_again}
use Rattle.sng_history.specs.Losing.{message_again, exchange_again, again_notes}
use Rattle.sng_history.specs.WillAsks.{statement_turn, statement_verdict, statement_ask, dialogue_goes_on}
use Rattle.sng_history.specs.WillAsks.{in_dialogue_notes, statement_follows, statement_notes}
use Rattle.sng_history.specs.Outgoing.{receive, handed_over}
use Rattle.sng_history.specs.Outgoing.{all_gone, refusals, out_of_turn, delivered_notes}
use Rattle.sng_history.specs.Clients.{Client, is_here, is_confirming, is_acknowledging, is_waking, awake}
use Rattle.sng_history.specs.Clients.{closed, confirmed_with, message_due, let_in, stated}
use Rattle.sng_history.specs.Notes.{notes_of}
use Rattle.sng_history.specs.State.{State, later}
use Rattle.sng_history.specs.Verdicts.{entry, ping_verdict, register_ask, publish_ask, subscribe_ask}
use Rattle.sng_history.specs.Verdicts.{unsubscribe_ask, coverage, is_active, is_repeat, publish_once_ask}
use Rattle.sng_history.specs.Answers.{denied_note}
use Rattle.sng_history.specs.Packets.{answer_of, refused_filter}
use Rattle.sng_history.specs.Standing.{holds}
use Rattle.sng_history.specs.Lawful.{confirmations, entering_notes, denial_of, woken_notes, fixed_to, end_of}
use Rattle.sng_history.specs.Lawful.{ends_under, refused_end, fixed_for}
use Rattle.sng_history.specs.Steps.{outs_by}
use Rattle.sng_history.specs.Good.{Each}
use Rattle.sng_laws.specs.ViewsClients.{is_among}
use Rattle.sng_history.proofs.Own.{same_means}
use Rattle.sng_history.proofs.Hands.{Every, every_append, every_if}
use Rattle.sng_history.proofs.ClientIds.{ids_of}
use Rattle.sng_promise.proofs.Names.OneToldMessages.{OneTold, none_told, one_told, Mute, told_behind}
use Rattle.sng_promise.proofs.Names.OneToldMessages.{told_mute}
use Rattle.sng_promise.proofs.Names.OneToldMessages.{told_if, told_either, denial_mute, hand_mute}
use Rattle.sng_promise.proofs.Names.OneToldMessages.{behind_told}
use Rattle.sng_promise.proofs.Names.OneToldMessages.{handed_told, gone_mute, refusal_mute, away_mute}

left_told : (id : List ℕ) (x : Client) → OneTold id (note.Left x.id ∷ all_gone x.id x.buffer.waiting)
left_told id x =
    behind_told id (note.Left x.id) (all_gone x.id x.buffer.waiting) (λ r names none. refl)
    (told_mute id (all_gone x.id x.buffer.waiting) (gone_mute id x.id x.buffer.waiting))

entering_told : (s : State) (from : Address) (connect : Connect) (x : Client) (id : List ℕ) (o : Outcome)
    → OneTold id (entering_notes s from connect x o)
entering_told s from connect x id Allowed =
    let y = let_in s.clock from connect x in
    told_either id connect.flags.clean (all_gone x.id x.buffer.waiting) (handed_over s.policy y)
    (told_mute id (all_gone x.id x.buffer.waiting) (gone_mute id x.id x.buffer.waiting))
    (handed_told id s.policy y)
entering_told s from connect x id (Denied rule) = none_told id

entry_told : (s : State) (from : Address) (connect : Connect) (x : Client) (id : List ℕ) (own here : Bool)
    (o : Outcome)
    → OneTold id (if own then note.Connect x.id o ∷ entering_notes s from connect x o
    else (if is_allowed o then (if here then note.Left x.id ∷ all_gone x.id x.buffer.waiting else [])
    else []))
entry_told s from connect x id true here o =
    behind_told id (note.Connect x.id o) (entering_notes s from connect x o) (λ r names none. rw none refl)
    (entering_told s from connect x id o)
entry_told s from connect x id false here o =
    let left = note.Left x.id ∷ all_gone x.id x.buffer.waiting in
    told_if id (is_allowed o) (if here then left else []) (told_if id here left (left_told id x))

confirmed_told : (id : List ℕ) (policy : Policy) (r : TopicAck) (x : Client)
    → OneTold id (confirmations policy r x)
confirmed_told id policy r x =
    let y : Client = record x { buffer = settle x.buffer } in
    let refused = refusals x.id r.code.0 x.buffer.waiting in
    told_either id (r.code.0 == 0) (handed_over policy (confirmed_with r x)) (refused ++ handed_over policy y)
    (handed_told id policy (confirmed_with r x))
    (told_behind id refused (handed_over policy y) (refusal_mute id x.id r.code.0 x.buffer.waiting)
    (handed_told id policy y))

turn_told : (id client : List ℕ) (b : Bool) (notes : List Decision) → OneTold id notes
    → OneTold id (if b then notes else out_of_turn client)
turn_told id client b notes told =
    told_either id b notes (out_of_turn client) told
    (one_told id (note.Frame (who.Client client) (Denied (Form OutOfTurn))))

-- a statement of a will tells none, and as the dialogue ends what waits is handed over, or gone
goes_on_told : (policy : Policy) (statement : Statement) (x : Client) (id : List ℕ) (o : Outcome)
    → OneTold id (dialogue_goes_on policy statement x o)
goes_on_told policy statement x id Allowed = handed_told id policy (stated statement x)
goes_on_told policy statement x id (Denied rule) = left_told id x

dialogue_told : (policy : Policy) (statement : Statement) (x : Client) (id : List ℕ)
    → OneTold id (in_dialogue_notes policy statement x)
dialogue_told policy statement x id =
    let o = statement_verdict policy statement x in
    told_if id (is_allowed (statement_turn statement x)) (dialogue_goes_on policy statement x o)
    (goes_on_told policy statement x id o)

follows_told : (policy : Policy) (statement : Statement) (x : Client) (id : List ℕ)
    → OneTold id (statement_follows policy statement x)
follows_told policy (StatesTopic topic) x id = dialogue_told policy (StatesTopic topic) x id
follows_told policy (StatesMessage message) x id = dialogue_told policy (StatesMessage message) x id
follows_told policy (UpdatesTopic topic) x id = none_told id
follows_told policy (UpdatesMessage message) x id = none_told id

statement_told : (policy : Policy) (statement : Statement) (x : Client) (id : List ℕ)
    → OneTold id (statement_notes policy statement x)
statement_told policy statement x id =
    behind_told id (statement_ask policy statement x) (statement_follows policy statement x)
    (λ r names none. refl)
    (follows_told policy statement x id)

request_told : (s : State) (request : Request) (x : Client) (id : List ℕ) → OneTold id (fixed_to s request x)
request_told s (ToPing client) x id =
    told_behind id (denial_of x.id (ping_verdict client x)) (woken_notes s.policy client x)
    (denial_mute id x.id (ping_verdict client x))
    (told_if id (is_waking client x) (handed_over s.policy (awake x)) (handed_told id s.policy (awake x)))
request_told s (ToSleep duration) x id =
    told_either id (is_due_messages x.phase) [] (out_of_turn x.id) (none_told id)
    (one_told id (note.Frame (who.Client x.id) (Denied (Form OutOfTurn))))
request_told s ToLeave x id = left_told id x
request_told s (ToRegister r) x id = one_told id (register_ask s.policy x r.name)
request_told s (ToPublish p) x id = one_told id (publish_ask s x p)
request_told s (ToPublishOnce p) x id =
    told_if id (not (is_repeat p x)) (publish_once_ask s x p ∷ []) (one_told id (publish_once_ask s x p))
request_told s (ToRelease n) x id =
    told_either id (is_active x.phase) [] (out_of_turn x.id) (none_told id)
    (one_told id (note.Frame (who.Client x.id) (Denied (Form OutOfTurn))))
request_told s (ToSubscribe r) x id = one_told id (subscribe_ask s x r)
request_told s (ToUnsubscribe r) x id = one_told id (unsubscribe_ask s.policy x r)
request_told s (ToConfirm r) x id =
    turn_told id x.id (is_confirming r x) (confirmations s.policy r x) (confirmed_told id s.policy r x)
request_told s (ToAcknowledge r) x id =
    turn_told id x.id (is_acknowledging r x) (handed_over s.policy (closed x))
    (handed_told id s.policy (closed x))
request_told s (ToState statement) x id = statement_told s.policy statement x id
request_told s (Untaken message) x id =
    one_told id (denied_note message (who.Client x.id) (Form NotSupported))

-- subscriptions end, of which no note tells an id
refused_mute : (id : List ℕ) (x : Client) (text : Option (List ℕ)) → Every (Mute id) (refused_end x text)
refused_mute id x None = tt
refused_mute id x (Some text) =
    every_if (Mute id) (holds text x) (note.End x.id text (Denied (Peer BrokerRefused)) ∷ [])
    (λ r names none. refl, tt)

end_mute : (id own text : List ℕ) (o : Outcome) → Every (Mute id) (end_of own text o)
end_mute id own text Allowed = tt
end_mute id own text (Denied rule) = (λ r names none. refl, tt)

ends_mute : (policy : Policy) (id own : List ℕ) (held : List Held)
    → Every (Mute id) (ends_under policy own held)
ends_mute policy id own [] = tt
ends_mute policy id own (h ∷ held) =
    let o = coverage policy own h.filter in
    every_append (Mute id) (end_of own h.filter o) (ends_under policy own held)
    (end_mute id own h.filter o) (ends_mute policy id own held)

packet_told : (s : State) (p : Packet) (x : Client) (id : List ℕ) → OneTold id (fixed_for s (ByPacket p) x)
packet_told s p x id =
    let due = message_due (answer_of p) x in
    let text = refused_filter s.link (answer_of p) in
    let y : Client = record x { buffer = joins due x.buffer } in
    told_behind id (refused_end x text) (delivered_notes s.policy due x) (refused_mute id x text)
    (told_behind id (turned_away x.id due x.buffer) (handed_over s.policy y) (away_mute id x.id due x.buffer)
    (handed_told id s.policy y))

-- a client is lost
unplaced_mute : (id client : List ℕ) (p : Publication) (o : Outcome) → Every (Mute id) (unplaced client p o)
unplaced_mute id client p Allowed = tt
unplaced_mute id client p (Denied rule) = (λ r names none. refl, tt)

dropped_mute : (limits : Limits) (id client : List ℕ) (link : Link) (ps : List Publication)
    → Every (Mute id) (will_dropped limits link client ps)
dropped_mute limits id client link [] = tt
dropped_mute limits id client link (p ∷ ps) = unplaced_mute id client p (room_in limits link p.qos)

lost_mute : (limits : Limits) (id : List ℕ) (link : Link) (x : Client) → Every (Mute id) (lost_notes limits link x)
lost_mute limits id link x = (
  λ r names none. refl,
  every_append (Mute id) (all_gone x.id x.buffer.waiting) (will_dropped limits link x.id (will_of x.id x.wills.will))
      (gone_mute id x.id x.buffer.waiting) (dropped_mute limits id x.id link (will_of x.id x.wills.will)),
)

-- what is open with it is sent again, or is over
judged_again_told : (id : List ℕ) (policy : Policy) (x : Client) (open_one : Exchange) (m : Message)
    (o : Outcome)
    → OneTold id (judged_again policy x open_one m o)
judged_again_told id policy x open_one m Allowed = one_told id (note.Retry x.id m.name Allowed)
judged_again_told id policy x (Announcing sent) m (Denied rule) =
    let y : Client = record x { buffer = settle x.buffer } in
    behind_told id (note.Hand x.id m.name (Denied rule)) (handed_over policy y)
    (hand_mute id x.id m.name (Denied rule))
    (handed_told id policy y)
judged_again_told id policy x (Acknowledging sent k one) m (Denied rule) =
    behind_told id (note.Retry x.id m.name (Denied rule)) (handed_over policy (closed x))
    (λ r names none. refl)
    (handed_told id policy (closed x))

message_again_told : (id : List ℕ) (policy : Policy) (x : Client) (open_one : Exchange) (m : Option Message)
    → OneTold id (message_again policy x open_one m)
message_again_told id policy x open_one None = none_told id
message_again_told id policy x open_one (Some m) =
    judged_again_told id policy x open_one m (receive policy x.id m.name)

exchange_again_told : (id : List ℕ) (policy : Policy) (x : Client) (e : Option Exchange)
    → OneTold id (exchange_again policy x e)
exchange_again_told id policy x None = none_told id
exchange_again_told id policy x (Some open_one) =
    message_again_told id policy x open_one (message_open x.buffer open_one)

tick_told : (s : State) (clock : ℕ) (x : Client) (id : List ℕ) → OneTold id (fixed_for s (ByTick clock) x)
tick_told s clock x id =
    let now = later s.clock clock in
    let link = all_placed s.policy.limits s.link (testaments now (before x.id s.clients)) in
    told_either id (is_lost_at now x) (lost_notes s.policy.limits link x) (again_notes s.policy now x)
    (told_mute id (lost_notes s.policy.limits link x) (lost_mute s.policy.limits id link x))
    (told_if id (is_repeating now x) (exchange_again s.policy x x.buffer.exchange)
    (exchange_again_told id s.policy x x.buffer.exchange))

row_told : (s : State) (c : Cause) (x : Client) (id : List ℕ) → OneTold id (fixed_for s c x)
row_told s (ByConnect from connect) x id =
    entry_told s from connect x id (bytes_eq connect.client_id x.id) (is_here x from) (entry s connect)
row_told s (ByMessage from request) x id =
    told_if id (is_here x from) (fixed_to s request x) (request_told s request x id)
row_told s (ByBroken from rule) x id =
    let said = note.Frame (who.Client x.id) (Denied rule) in
    told_if id (is_here x from) (said ∷ []) (one_told id said)
row_told s (BySource from p) x id = none_told id
row_told s (ByPacket p) x id = packet_told s p x id
row_told s ByUp x id = none_told id
row_told s ByDown x id = none_told id
row_told s ByTake x id = none_told id
row_told s (ByReplace policy) x id =
    told_mute id (ends_under policy x.id x.filters) (ends_mute policy id x.id x.filters)
row_told s (ByTick clock) x id = tick_told s clock x id

told_by : (s : State) (c : Cause) (id : List ℕ) (x : Client) (later b : Bool) → bytes_eq id x.id ≡ b
    → notes_of x.id (outs_by s c) ≡ fixed_for s c x → (b || later) ≡ true
    → (later ≡ true → OneTold id (notes_of id (outs_by s c))) → OneTold id (notes_of id (outs_by s c))
told_by s c id x later true is own known rest =
    subst (λ i. OneTold i (notes_of i (outs_by s c))) (sym (same_means id x.id is))
    (subst (OneTold x.id) (sym own) (row_told s c x x.id))
told_by s c id x later false is own known rest = rest known

pub notes_told : (s : State) (c : Cause) (id : List ℕ) (xs ys : List Client)
    → Each (λ x. notes_of x.id (outs_by s c) ≡ fixed_for s c x) (xs ++ ys) → is_among id (ids_of xs) ≡ true
    → OneTold id (notes_of id (outs_by s c))
notes_told s c id [] ys own known = absurd (let e = known in cc)
notes_told s c id (x ∷ xs) ys own known =
    told_by s c id x (is_among id (ids_of xs)) (bytes_eq id x.id) refl own.0 known
    (notes_told s c id xs ys own.1)
