-- No client is lost but with a tick of the clock.
use Rattle.std.proofs.Common.{◌≡◌, ℕ, Bool, true, false, List, [], ◌∷◌, ◌++◌, refl, ap, ◌∙◌, if◌then◌else◌}
use Rattle.std.proofs.Common.{Ok, Err}
use Rattle.std.specs.Prelude.{◌||◌, Option, Some, None, not}
use Rattle.std.specs.Str.{bytes_eq}
use Rattle.std.specs.declared.result.Result.{Result}
use Rattle.sng_grants.specs.declared.policy.Policy.{Policy}
use Rattle.sng_fan.specs.declared.held.Held.{Held}
use Rattle.sng_frames.specs.declared.fault.FrameFault.{FrameFault}
use Rattle.sng_frames.specs.declared.messages.connect.Connect.{Connect}
use Rattle.sng_frames.specs.declared.messages.publish.Publish.{Publish}
use Rattle.sng_frames.specs.declared.qos.FrameQos.{FrameQos}
use Rattle.sng_frames.specs.declared.qos.FrameQos.TheVariants as qos
use Rattle.sng_frames.specs.declared.frame.SnFrame.{SnFrame}
use Rattle.sng_frames.specs.declared.frame.SnFrame.TheVariants as frame
use Rattle.sng_book.specs.Denials.{is_allowed}
use Rattle.sng_book.specs.declared.address.Address.{Address}
use Rattle.sng_book.specs.declared.decision.Decision.{Decision}
use Rattle.sng_book.specs.declared.decision.Decision.TheVariants as note
use Rattle.sng_book.specs.declared.decision.Who.{Who}
use Rattle.sng_book.specs.declared.decision.Who.TheVariants as who
use Rattle.sng_book.specs.declared.outcome.Denial.TheVariants.{Form, Peer}
use Rattle.sng_book.specs.declared.outcome.FormDenial.TheVariants.{NotSupported}
use Rattle.sng_book.specs.declared.outcome.PeerDenial.TheVariants.{BrokerRefused}
use Rattle.sng_book.specs.declared.outcome.Outcome.{Outcome}
use Rattle.sng_book.specs.declared.outcome.Outcome.TheVariants.{Allowed, Denied}
use Rattle.sng_book.specs.declared.out.Out.{Out}
use Rattle.sng_book.specs.declared.out.Out.TheVariants.{Send, Wire, Note}
use Rattle.sng_states.specs.States.{is_due_messages}
use Rattle.sng_history.specs.Causes.{Request, ToPing, ToLeave, ToSleep, ToRegister, ToPublish, ToSubscribe}
use Rattle.sng_history.specs.Causes.{ToUnsubscribe, ToConfirm, ToAcknowledge, ToState, Untaken}
use Rattle.sng_history.specs.Causes.{Cause, ByConnect, ByMessage, BySource, ByBroken, ByPacket, ByUp, ByDown}
use Rattle.sng_history.specs.Causes.{ByTake, ByReplace, ByTick}
use Rattle.sng_history.specs.Causes.{datagram_cause, publish_cause, disconnect_cause}
use Rattle.sng_history.specs.Causes.{ToPublishOnce, ToRelease}
use Rattle.sng_history.specs.Packets.{answer_of, refused_filter}
use Rattle.sng_history.specs.Notes.{is_of}
use Rattle.sng_history.specs.Clients.{Client, is_here, let_in, closed, is_confirming, is_acknowledging}
use Rattle.sng_history.specs.Clients.{message_due}
use Rattle.sng_history.specs.Standing.{holds}
use Rattle.sng_history.specs.State.{State}
use Rattle.sng_history.specs.Verdicts.{entry, ping_verdict, coverage, is_active, is_repeat, publish_once_ask}
use Rattle.sng_history.specs.Answers.{denied_note}
use Rattle.sng_history.specs.Outgoing.{handed_over, all_gone, out_of_turn, delivered_notes}
use Rattle.sng_history.specs.Lawful.{denial_of, woken_notes, confirmations, entering_notes, fixed_to, end_of}
use Rattle.sng_history.specs.Lawful.{ends_under, refused_end, fixed_for}
use Rattle.sng_history.specs.Steps.{outs_by}
use Rattle.sng_laws.specs.LawsLost.{says_lost, is_lost_in}
use Rattle.sng_history.proofs.Asks.{of_register, of_publish, of_subscribe, of_unsubscribe, of_publish_once}
use Rattle.sng_history.proofs.Hands.{Every, OfMessages, every_append, every_if, every_handed, every_gone}
use Rattle.sng_history.proofs.Hands.{every_confirmation, every_delivered, every_woken}
use Rattle.sng_history.proofs.Statements.{OfStatement, every_statement}
use Rattle.sng_promise.proofs.InForce.EachNote.{EachNote, Beside}
use Rattle.sng_promise.proofs.InForce.EachNoteRow.{note_row}

-- ---- notes that lose nobody

abbrev Unlosing : Decision → Type 0
Unlosing said = (id : List ℕ) → says_lost id said ≡ false

unlosing_foreign : (said : Decision) → ((id : List ℕ) → is_of id said ≡ false) → Unlosing said
unlosing_foreign (note.Lost client) none = none
unlosing_foreign said none = λ id. refl

unlosing_beside : Beside Unlosing
unlosing_beside = record { foreign = unlosing_foreign; entry = λ client o id. refl }

unlosing_messages : (client : List ℕ) → OfMessages Unlosing client
unlosing_messages client = record { announces = λ name id. refl; hands = λ name o id. refl }

unlosing_statement : (client : List ℕ) → OfStatement Unlosing client
unlosing_statement client =
    record { states = λ name o id. refl; leaves = λ id. refl; messages = unlosing_messages client }

every_either : (b : Bool) (xs ys : List Decision) → Every Unlosing xs → Every Unlosing ys
    → Every Unlosing (if b then xs else ys)
every_either true xs ys one two = one
every_either false xs ys one two = two

every_denial : (client : List ℕ) (o : Outcome) → Every Unlosing (denial_of client o)
every_denial client Allowed = tt
every_denial client (Denied rule) = (λ id. refl, tt)

untaken_unlosing : (message : SnFrame) (whom : Who) → Unlosing (denied_note message whom (Form NotSupported))
untaken_unlosing (frame.Register r) whom = λ id. refl
untaken_unlosing (frame.Publish p) whom = λ id. refl
untaken_unlosing (frame.Subscribe r) whom = λ id. refl
untaken_unlosing (frame.Unsubscribe r) whom = λ id. refl
untaken_unlosing (frame.WillTopic topic) whom = λ id. refl
untaken_unlosing (frame.WillMessage message) whom = λ id. refl
untaken_unlosing (frame.WillTopicUpdate topic) whom = λ id. refl
untaken_unlosing (frame.WillMessageUpdate message) whom = λ id. refl
untaken_unlosing message whom = λ id. refl

every_request : (s : State) (request : Request) (x : Client) → Every Unlosing (fixed_to s request x)
every_request s (ToPing client) x =
    every_append Unlosing (denial_of x.id (ping_verdict client x)) (woken_notes s.policy client x)
    (every_denial x.id (ping_verdict client x))
    (every_woken Unlosing s.policy client x (unlosing_messages x.id))
every_request s (ToSleep duration) x =
    every_either (is_due_messages x.phase) [] (out_of_turn x.id) tt (λ id. refl, tt)
every_request s ToLeave x = (λ id. refl, every_gone Unlosing x.id x.buffer.waiting (unlosing_messages x.id))
every_request s (ToRegister r) x = (of_register Unlosing s.policy x r.name (λ name o id. refl), tt)
every_request s (ToPublish p) x = (of_publish Unlosing s x p (λ name o id. refl), tt)
every_request s (ToPublishOnce p) x =
    every_either (not (is_repeat p x)) (publish_once_ask s x p ∷ []) []
    (of_publish_once Unlosing s x p (λ name o id. refl), tt) tt
every_request s (ToRelease n) x =
    every_either (is_active x.phase) [] (out_of_turn x.id) tt (λ id. refl, tt)
every_request s (ToSubscribe r) x = (of_subscribe Unlosing s x r (λ filter o id. refl), tt)
every_request s (ToUnsubscribe r) x = (of_unsubscribe Unlosing s.policy x r (λ filter o id. refl), tt)
every_request s (ToConfirm r) x =
    every_either (is_confirming r x) (confirmations s.policy r x) (out_of_turn x.id)
    (every_confirmation Unlosing s.policy r x (unlosing_messages x.id)) (λ id. refl, tt)
every_request s (ToAcknowledge r) x =
    every_either (is_acknowledging r x) (handed_over s.policy (closed x)) (out_of_turn x.id)
    (every_handed Unlosing s.policy (closed x) (unlosing_messages x.id)) (λ id. refl, tt)
every_request s (ToState statement) x =
    every_statement Unlosing s.policy statement x (unlosing_statement x.id)
every_request s (Untaken message) x = (untaken_unlosing message (who.Client x.id), tt)

every_entering : (s : State) (from : Address) (connect : Connect) (x : Client) (o : Outcome)
    → Every Unlosing (entering_notes s from connect x o)
every_entering s from connect x Allowed =
    let y = let_in s.clock from connect x in
    every_either connect.flags.clean (all_gone x.id x.buffer.waiting) (handed_over s.policy y)
    (every_gone Unlosing x.id x.buffer.waiting (unlosing_messages x.id))
    (every_handed Unlosing s.policy y (unlosing_messages y.id))
every_entering s from connect x (Denied rule) = tt

every_connect : (s : State) (from : Address) (connect : Connect) (x : Client)
    → Every Unlosing (fixed_for s (ByConnect from connect) x)
every_connect s from connect x =
    let o = entry s connect in
    let leaves : List Decision = note.Left x.id ∷ all_gone x.id x.buffer.waiting in
    let other : List Decision = if is_here x from then leaves else [] in
    every_either (bytes_eq connect.client_id x.id) (note.Connect x.id o ∷ entering_notes s from connect x o)
    (if is_allowed o then other else [])
    (λ id. refl, every_entering s from connect x o)
    (every_if Unlosing (is_allowed o) other
    (every_if Unlosing (is_here x from) leaves
    (λ id. refl, every_gone Unlosing x.id x.buffer.waiting (unlosing_messages x.id))))

every_end : (client filter : List ℕ) (o : Outcome) (notes : List Decision) → Every Unlosing notes
    → Every Unlosing (end_of client filter o ++ notes)
every_end client filter Allowed notes every = every
every_end client filter (Denied rule) notes every = (λ id. refl, every)

every_ends : (policy : Policy) (client : List ℕ) (held : List Held)
    → Every Unlosing (ends_under policy client held)
every_ends policy client [] = tt
every_ends policy client (h ∷ held) =
    every_end client h.filter (coverage policy client h.filter) (ends_under policy client held)
    (every_ends policy client held)

every_refused : (x : Client) (filter : Option (List ℕ)) → Every Unlosing (refused_end x filter)
every_refused x None = tt
every_refused x (Some filter) =
    every_if Unlosing (holds filter x) (note.End x.id filter (Denied (Peer BrokerRefused)) ∷ [])
    (λ id. refl, tt)

abbrev pub is_tick : Cause → Bool
is_tick (ByTick clock) = true
is_tick (ByConnect from connect) = false
is_tick (ByMessage from request) = false
is_tick (BySource from p) = false
is_tick (ByBroken from rule) = false
is_tick (ByPacket p) = false
is_tick ByUp = false
is_tick ByDown = false
is_tick ByTake = false
is_tick (ByReplace policy) = false

every_fixed : (s : State) (c : Cause) (x : Client) → is_tick c ≡ false → Every Unlosing (fixed_for s c x)
every_fixed s (ByConnect from connect) x not_tick = every_connect s from connect x
every_fixed s (ByMessage from request) x not_tick =
    every_if Unlosing (is_here x from) (fixed_to s request x) (every_request s request x)
every_fixed s (BySource from p) x not_tick = tt
every_fixed s (ByBroken from rule) x not_tick =
    every_if Unlosing (is_here x from) (note.Frame (who.Client x.id) (Denied rule) ∷ []) (λ id. refl, tt)
every_fixed s (ByPacket p) x not_tick =
    let text = refused_filter s.link (answer_of p) in
    let due = message_due (answer_of p) x in
    every_append Unlosing (refused_end x text) (delivered_notes s.policy due x) (every_refused x text)
    (every_delivered Unlosing s.policy due x (unlosing_messages x.id))
every_fixed s ByUp x not_tick = tt
every_fixed s ByDown x not_tick = tt
every_fixed s ByTake x not_tick = tt
every_fixed s (ByReplace policy) x not_tick = every_ends policy x.id x.filters
every_fixed s (ByTick clock) x not_tick = absurd cc

-- ---- a row that is no tick

unlost : (id : List ℕ) (outs : List Out) → EachNote Unlosing outs → is_lost_in id outs ≡ false
unlost id [] each = refl
unlost id (Note said ∷ outs) each = ap (λ b. b || is_lost_in id outs) (each.0 id) ∙ unlost id outs each.1
unlost id (Send to datagram ∷ outs) each = unlost id outs each
unlost id (Wire packet ∷ outs) each = unlost id outs each

pub none_lost : (s : State) (c : Cause) (id : List ℕ) → is_tick c ≡ false
    → is_lost_in id (outs_by s c) ≡ false
none_lost s c id not_tick =
    unlost id (outs_by s c) (note_row Unlosing s c unlosing_beside (λ x. every_fixed s c x not_tick))

publish_no_tick : (from : Address) (p : Publish) (q : FrameQos) → is_tick (publish_cause from p q) ≡ false
publish_no_tick from p qos.WithoutSession = refl
publish_no_tick from p qos.AtMostOnce = refl
publish_no_tick from p qos.AtLeastOnce = refl
publish_no_tick from p qos.ExactlyOnce = refl

disconnect_no_tick : (from : Address) (duration : Option ℕ) → is_tick (disconnect_cause from duration) ≡ false
disconnect_no_tick from None = refl
disconnect_no_tick from (Some duration) = refl

pub datagram_no_tick : (from : Address) (read : Result SnFrame FrameFault)
    → is_tick (datagram_cause from read) ≡ false
datagram_no_tick from (Ok (frame.Publish p)) = publish_no_tick from p p.flags.qos
datagram_no_tick from (Ok (frame.Disconnect duration)) = disconnect_no_tick from duration
datagram_no_tick from (Ok message) = refl
datagram_no_tick from (Err broke) = refl
