-- Each note that a cause fixes of a client stands under the policy in force.
use Rattle.std.proofs.Common.{◌≡◌, inl, ℕ, Bool, true, false, List, [], ◌∷◌, ◌++◌, refl, if◌then◌else◌}
use Rattle.std.specs.Prelude.{Option, Some, None, not}
use Rattle.std.specs.Str.{bytes_eq}
use Rattle.sng_grants.specs.Limits.{Limits}
use Rattle.sng_states.specs.States.{is_due_messages}
use Rattle.sng_grants.specs.declared.policy.Policy.{Policy}
use Rattle.sng_fan.specs.declared.held.Held.{Held}
use Rattle.sng_frames.specs.declared.messages.connect.Connect.{Connect}
use Rattle.sng_frames.specs.declared.frame.SnFrame.{SnFrame}
use Rattle.sng_frames.specs.declared.frame.SnFrame.TheVariants as frame
use Rattle.sng_book.specs.Denials.{is_allowed}
use Rattle.sng_book.specs.declared.address.Address.{Address}
use Rattle.sng_book.specs.declared.decision.Decision.{Decision}
use Rattle.sng_book.specs.declared.decision.Decision.TheVariants as note
use Rattle.sng_book.specs.declared.decision.Who.{Who}
use Rattle.sng_book.specs.declared.decision.Who.TheVariants as who
use Rattle.sng_book.specs.declared.outcome.Denial.TheVariants.{Form, Peer}
use Rattle.sng_book.specs.declared.outcome.FormDenial.TheVariants.{NotSupported, NoSession, OutOfTurn}
use Rattle.sng_book.specs.declared.outcome.PeerDenial.TheVariants.{BrokerRefused}
use Rattle.sng_book.specs.declared.outcome.Outcome.{Outcome}
use Rattle.sng_book.specs.declared.outcome.Outcome.TheVariants.{Allowed, Denied}
use Rattle.sng_history.specs.Causes.{Request, ToPing, ToLeave, ToSleep, ToRegister, ToPublish, ToSubscribe}
use Rattle.sng_history.specs.Causes.{ToUnsubscribe, ToConfirm}
use Rattle.sng_history.specs.Causes.{ToAcknowledge, ToState, Untaken}
use Rattle.sng_history.specs.Causes.{Cause, ByConnect, ByMessage, BySource, ByBroken, ByPacket, ByUp, ByDown}
use Rattle.sng_history.specs.Causes.{ByTake, ByReplace, ByTick}
use Rattle.sng_history.specs.Causes.{Statement, StatesTopic, StatesMessage, UpdatesTopic, UpdatesMessage}
use Rattle.sng_history.specs.Causes.{ToPublishOnce, ToRelease}
use Rattle.sng_history.specs.Clients.{Client, is_here, let_in, closed, is_confirming, is_acknowledging}
use Rattle.sng_history.specs.Clients.{is_waking, awake, message_due}
use Rattle.sng_history.specs.Clients.{stated}
use Rattle.sng_history.specs.Standing.{holds}
use Rattle.sng_history.specs.State.{State, policy_by, later}
use Rattle.sng_history.specs.Packets.{answer_of, refused_filter}
use Rattle.sng_history.specs.Links.{Link}
use Rattle.sng_history.specs.Verdicts.{entry, is_active, names_other, is_repeat, publish_once_ask}
use Rattle.sng_history.specs.Verdicts.{ping_verdict, coverage}
use Rattle.sng_history.specs.Answers.{denied_note}
use Rattle.sng_history.specs.Ticking.{will_of, testaments, all_placed, is_lost_at}
use Rattle.sng_history.specs.Losing.{before, will_dropped, lost_notes, again_notes}
use Rattle.sng_history.specs.WillAsks.{statement_turn, statement_verdict, dialogue_goes_on, in_dialogue_notes}
use Rattle.sng_history.specs.WillAsks.{statement_follows}
use Rattle.sng_history.specs.Outgoing.{handed_over, all_gone, out_of_turn, delivered_notes}
use Rattle.sng_history.specs.Lawful.{denial_of, confirmations, woken_notes, entering_notes, fixed_to, end_of}
use Rattle.sng_history.specs.Lawful.{ends_under, refused_end}
use Rattle.sng_history.specs.Lawful.{fixed_for}
use Rattle.sng_laws.specs.LawsPromise.{is_of_form, Stands}
use Rattle.sng_history.proofs.Hands.{Every, every_append, every_if}
use Rattle.sng_promise.proofs.WantedFilters.HeldFilters.{AreFilters, OwnFilters}
use Rattle.sng_promise.proofs.InForce.PromiseAsks.{register_stands, publish_stands, subscribe_stands}
use Rattle.sng_promise.proofs.InForce.PromiseAsks.{unsubscribe_stands, publish_once_stands}
use Rattle.sng_promise.proofs.InForce.PromiseCovers.{Ends, ends}
use Rattle.sng_promise.proofs.InForce.PromiseWills.{statement_stands, every_will}
use Rattle.sng_promise.proofs.InForce.PromiseConnects.{connect_stands}
use Rattle.sng_promise.proofs.InForce.PromiseHands.{every_handed, every_gone, every_delivered}
use Rattle.sng_promise.proofs.InForce.PromiseHands.{every_confirmed}
use Rattle.sng_promise.proofs.InForce.PromiseHands.{every_again}

every_either : (policy : Policy) (b : Bool) (xs ys : List Decision) → Every (Stands policy) xs
    → Every (Stands policy) ys
    → Every (Stands policy) (if b then xs else ys)
every_either policy true xs ys one two = one
every_either policy false xs ys one two = two

-- ---- what is no ask

pub untaken_stands : (policy : Policy) (message : SnFrame) (whom : Who)
    → Stands policy (denied_note message whom (Form NotSupported))
untaken_stands policy (frame.Register r) whom = inl refl
untaken_stands policy (frame.Publish p) whom = inl refl
untaken_stands policy (frame.Subscribe r) whom = inl refl
untaken_stands policy (frame.Unsubscribe r) whom = refl
untaken_stands policy (frame.WillTopic topic) whom = inl refl
untaken_stands policy (frame.WillMessage message) whom = inl refl
untaken_stands policy (frame.WillTopicUpdate topic) whom = inl refl
untaken_stands policy (frame.WillMessageUpdate message) whom = inl refl
untaken_stands policy message whom = (refl, refl)

every_turn : (policy : Policy) (id : List ℕ) → Every (Stands policy) (out_of_turn id)
every_turn policy id = ((refl, refl), tt)

-- a PINGREQ that is denied
every_ping : (policy : Policy) (id : List ℕ) (other : Bool) (turn : Bool)
    → Every (Stands policy) (denial_of id
    (if other then Denied (Form NoSession) else (if turn then Allowed else Denied (Form OutOfTurn))))
every_ping policy id true turn = ((refl, refl), tt)
every_ping policy id false true = tt
every_ping policy id false false = ((refl, refl), tt)

every_pinged : (policy : Policy) (client : Option (List ℕ)) (x : Client)
    → Every (Stands policy) (denial_of x.id (ping_verdict client x))
every_pinged policy None x = every_ping policy x.id false (is_active x.phase)
every_pinged policy (Some id) x =
    every_ping policy x.id (names_other (Some id) x.id) (is_due_messages x.phase)

-- ---- a will

every_goes_on : (policy : Policy) (statement : Statement) (x : Client) (o : Outcome)
    → Every (Stands policy) (dialogue_goes_on policy statement x o)
every_goes_on policy statement x Allowed = every_handed policy (stated statement x)
every_goes_on policy statement x (Denied rule) = (tt, every_gone policy x.id x.buffer.waiting)

every_dialogue : (policy : Policy) (statement : Statement) (x : Client)
    → Every (Stands policy) (in_dialogue_notes policy statement x)
every_dialogue policy statement x =
    let o = statement_verdict policy statement x in
    every_if (Stands policy) (is_allowed (statement_turn statement x)) (dialogue_goes_on policy statement x o)
    (every_goes_on policy statement x o)

every_follows : (policy : Policy) (statement : Statement) (x : Client)
    → Every (Stands policy) (statement_follows policy statement x)
every_follows policy (StatesTopic topic) x = every_dialogue policy (StatesTopic topic) x
every_follows policy (StatesMessage message) x = every_dialogue policy (StatesMessage message) x
every_follows policy (UpdatesTopic topic) x = tt
every_follows policy (UpdatesMessage message) x = tt

-- ---- a message of the client

every_request : (s : State) (request : Request) (x : Client) → Every (Stands s.policy) (fixed_to s request x)
every_request s (ToPing client) x =
    every_append (Stands s.policy) (denial_of x.id (ping_verdict client x)) (woken_notes s.policy client x)
    (every_pinged s.policy client x)
    (every_if (Stands s.policy) (is_waking client x) (handed_over s.policy (awake x))
    (every_handed s.policy (awake x)))
every_request s (ToSleep duration) x =
    every_either s.policy (is_due_messages x.phase) [] (out_of_turn x.id) tt (every_turn s.policy x.id)
every_request s ToLeave x = (tt, every_gone s.policy x.id x.buffer.waiting)
every_request s (ToRegister r) x = (register_stands s.policy x r.name, tt)
every_request s (ToPublish p) x = (publish_stands s x p, tt)
every_request s (ToPublishOnce p) x =
    every_if (Stands s.policy) (not (is_repeat p x)) (publish_once_ask s x p ∷ [])
    (publish_once_stands s x p, tt)
every_request s (ToRelease n) x =
    every_either s.policy (is_active x.phase) [] (out_of_turn x.id) tt (every_turn s.policy x.id)
every_request s (ToSubscribe r) x = (subscribe_stands s x r, tt)
every_request s (ToUnsubscribe r) x = (unsubscribe_stands s.policy x r, tt)
every_request s (ToConfirm r) x =
    every_either s.policy (is_confirming r x) (confirmations s.policy r x) (out_of_turn x.id)
    (every_confirmed s.policy r x)
    (every_turn s.policy x.id)
every_request s (ToAcknowledge r) x =
    every_either s.policy (is_acknowledging r x) (handed_over s.policy (closed x)) (out_of_turn x.id)
    (every_handed s.policy (closed x))
    (every_turn s.policy x.id)
every_request s (ToState statement) x =
    (statement_stands s.policy statement x, every_follows s.policy statement x)
every_request s (Untaken message) x = (untaken_stands s.policy message (who.Client x.id), tt)

-- ---- a CONNECT

every_entering : (s : State) (from : Address) (connect : Connect) (x : Client) (outcome : Outcome)
    → Every (Stands s.policy) (entering_notes s from connect x outcome)
every_entering s from connect x Allowed =
    every_either s.policy connect.flags.clean (all_gone x.id x.buffer.waiting)
    (handed_over s.policy (let_in s.clock from connect x))
    (every_gone s.policy x.id x.buffer.waiting) (every_handed s.policy (let_in s.clock from connect x))
every_entering s from connect x (Denied rule) = tt

every_connect : (s : State) (from : Address) (connect : Connect) (x : Client)
    → Every (Stands s.policy) (fixed_for s (ByConnect from connect) x)
every_connect s from connect x =
    let gone : List Decision = note.Left x.id ∷ all_gone x.id x.buffer.waiting in
    let other : List Decision = if is_here x from then gone else [] in
    by_id (bytes_eq connect.client_id x.id) refl
    (every_if (Stands s.policy) (is_allowed (entry s connect)) other
    (every_if (Stands s.policy) (is_here x from) gone (tt, every_gone s.policy x.id x.buffer.waiting)))
  where
    by_id : (own : Bool) → bytes_eq connect.client_id x.id ≡ own
        → (let gone : List Decision = note.Left x.id ∷ all_gone x.id x.buffer.waiting in
        Every (Stands s.policy) (if is_allowed (entry s connect) then (if is_here x from then gone else [])
        else []))
        → (let gone : List Decision = note.Left x.id ∷ all_gone x.id x.buffer.waiting in
        let other : List Decision =
        if is_allowed (entry s connect) then (if is_here x from then gone else []) else [] in
        Every (Stands s.policy)
        (if own then note.Connect x.id (entry s connect) ∷ entering_notes s from connect x (entry s connect)
        else other))
    by_id true is every = (connect_stands s connect x is, every_entering s from connect x (entry s connect))
    by_id false is every = every

-- ---- ends

every_end : (policy : Policy) (id text : List ℕ) (outcome : Outcome) (notes : List Decision)
    → Ends policy id text outcome
    → Every (Stands policy) notes
    → Every (Stands policy) (end_of id text outcome ++ notes)
every_end policy id text Allowed notes may every = every
every_end policy id text (Denied rule) notes may every = (may, every)

every_ends : (policy : Policy) (id : List ℕ) (held : List Held) → AreFilters held
    → Every (Stands policy) (ends_under policy id held)
every_ends policy id [] are = tt
every_ends policy id (h ∷ held) are =
    every_end policy id h.filter (coverage policy id h.filter) (ends_under policy id held)
    (ends policy id h.filter are.0)
    (every_ends policy id held are.1)

every_refused : (policy : Policy) (x : Client) (text : Option (List ℕ))
    → Every (Stands policy) (refused_end x text)
every_refused policy x None = tt
every_refused policy x (Some text) =
    every_if (Stands policy) (holds text x) (note.End x.id text (Denied (Peer BrokerRefused)) ∷ []) (tt, tt)

-- ---- a tick

every_lost : (limits : Limits) (policy : Policy) (link : Link) (x : Client)
    → Every (Stands policy) (lost_notes limits link x)
every_lost limits policy link x = (
  tt,
  every_append (Stands policy) (all_gone x.id x.buffer.waiting)
      (will_dropped limits link x.id (will_of x.id x.wills.will))
      (every_gone policy x.id x.buffer.waiting) (every_will limits policy link x.id (will_of x.id x.wills.will)),
)

every_tick : (s : State) (clock : ℕ) (x : Client) → Every (Stands s.policy) (fixed_for s (ByTick clock) x)
every_tick s clock x =
    let now = later s.clock clock in
    let link = all_placed s.policy.limits s.link (testaments now (before x.id s.clients)) in
    every_either s.policy (is_lost_at now x) (lost_notes s.policy.limits link x) (again_notes s.policy now x)
    (every_lost s.policy.limits s.policy link x)
    (every_again s.policy now x)

-- ---- whatever the cause

-- what is no message breaks a rule of form
abbrev pub Broken : Cause → Type 0
Broken (ByBroken from rule) = is_of_form rule ≡ true
Broken (ByConnect from connect) = Unit {0}
Broken (ByMessage from request) = Unit {0}
Broken (BySource from p) = Unit {0}
Broken (ByPacket p) = Unit {0}
Broken ByUp = Unit {0}
Broken ByDown = Unit {0}
Broken ByTake = Unit {0}
Broken (ByReplace policy) = Unit {0}
Broken (ByTick clock) = Unit {0}

pub every_fixed : (s : State) (c : Cause) (x : Client) → Broken c → OwnFilters x
    → Every (Stands (policy_by c s.policy)) (fixed_for s c x)
every_fixed s (ByConnect from connect) x broken are = every_connect s from connect x
every_fixed s (ByMessage from request) x broken are =
    every_if (Stands s.policy) (is_here x from) (fixed_to s request x) (every_request s request x)
every_fixed s (BySource from p) x broken are = tt
every_fixed s (ByBroken from rule) x broken are =
    every_if (Stands s.policy) (is_here x from) (note.Frame (who.Client x.id) (Denied rule) ∷ [])
    ((refl, broken), tt)
every_fixed s (ByPacket p) x broken are =
    let text = refused_filter s.link (answer_of p) in
    let due = message_due (answer_of p) x in
    every_append (Stands s.policy) (refused_end x text) (delivered_notes s.policy due x)
    (every_refused s.policy x text)
    (every_delivered s.policy due x)
every_fixed s ByUp x broken are = tt
every_fixed s ByDown x broken are = tt
every_fixed s ByTake x broken are = tt
every_fixed s (ByReplace policy) x broken are = every_ends policy x.id x.filters are
every_fixed s (ByTick clock) x broken are = every_tick s clock x
