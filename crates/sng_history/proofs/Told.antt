-- The notes that a cause fixes of a client speak of that client.
use Rattle.std.proofs.Common.{ℕ, Bool, true, false, List, [], ◌∷◌, ◌++◌, refl, subst}
use Rattle.std.specs.Prelude.{◌≡◌, if◌then◌else◌, not, Option, Some, None}
use Rattle.sng_grants.specs.declared.policy.Policy.{Policy}
use Rattle.sng_fan.specs.declared.held.Held.{Held}
use Rattle.std.specs.Str.{bytes_eq}
use Rattle.sng_states.specs.States.{is_due_messages, is_active}
use Rattle.sng_queue.specs.Messages.{Message}
use Rattle.sng_frames.specs.declared.messages.connect.Connect.{Connect}
use Rattle.sng_frames.specs.declared.frame.SnFrame.{SnFrame}
use Rattle.sng_frames.specs.declared.frame.SnFrame.TheVariants as frame
use Rattle.sng_book.specs.declared.address.Address.{Address}
use Rattle.sng_book.specs.Denials.{is_allowed}
use Rattle.sng_book.specs.declared.decision.Decision.{Decision}
use Rattle.sng_book.specs.declared.decision.Decision.TheVariants as note
use Rattle.sng_book.specs.declared.decision.Who.TheVariants as who
use Rattle.sng_book.specs.declared.outcome.Denial.{Denial}
use Rattle.sng_book.specs.declared.outcome.Denial.TheVariants.{Form, Peer}
use Rattle.sng_book.specs.declared.outcome.FormDenial.TheVariants.{NotSupported, OutOfTurn}
use Rattle.sng_book.specs.declared.outcome.PeerDenial.TheVariants.{BrokerRefused}
use Rattle.sng_book.specs.declared.outcome.Outcome.{Outcome}
use Rattle.sng_book.specs.declared.outcome.Outcome.TheVariants.{Allowed, Denied}
use Rattle.sng_history.specs.Causes.{Request, ToPing, ToLeave, ToSleep, ToRegister, ToPublish, ToSubscribe}
use Rattle.sng_history.specs.Causes.{ToUnsubscribe, ToConfirm, ToAcknowledge, ToState, Untaken, Cause}
use Rattle.sng_history.specs.Causes.{ByConnect, ByMessage, BySource, ByBroken, ByPacket, ByUp, ByDown, ByTake}
use Rattle.sng_history.specs.Causes.{ByReplace, ByTick}
use Rattle.sng_history.specs.Causes.{ToPublishOnce, ToRelease}
use Rattle.sng_history.specs.Clients.{Client, is_here, let_in, closed, is_confirming, is_acknowledging}
use Rattle.sng_history.specs.Clients.{message_due}
use Rattle.sng_history.specs.State.{State, later}
use Rattle.sng_history.specs.Packets.{answer_of, refused_filter}
use Rattle.sng_history.specs.Standing.{holds}
use Rattle.sng_history.specs.Verdicts.{entry, ping_verdict, coverage, is_repeat, publish_once_ask}
use Rattle.sng_history.specs.Answers.{denied_note}
use Rattle.sng_history.specs.Outgoing.{handed_over, all_gone, out_of_turn, delivered_notes}
use Rattle.sng_history.specs.Lawful.{denial_of, confirmations, woken_notes, entering_notes, fixed_to, end_of}
use Rattle.sng_history.specs.Lawful.{ends_under, refused_end, fixed_for}
use Rattle.sng_history.proofs.Spelled.{About, AllAbout}
use Rattle.sng_history.proofs.Hands.{OfMessages, every_append, every_if, every_handed, every_gone}
use Rattle.sng_history.proofs.Hands.{every_woken, every_delivered, every_confirmation}
use Rattle.sng_history.proofs.Statements.{OfStatement, OfLost, every_statement, every_tick}
use Rattle.sng_history.proofs.Kept.{let_in_id}
use Rattle.sng_history.proofs.Asks.{of_publish_once}
use Rattle.sng_history.proofs.Asks.{of_register, of_publish, of_subscribe, of_unsubscribe}

about_denied : (c : List ℕ) (message : SnFrame) (rule : Denial)
    → About c (denied_note message (who.Client c) rule)
about_denied c (frame.Connect connect) rule = record { of = λ d. refl; stays = refl }
about_denied c (frame.ConnectAck code) rule = record { of = λ d. refl; stays = refl }
about_denied c frame.WillTopicRequest rule = record { of = λ d. refl; stays = refl }
about_denied c (frame.WillTopic topic) rule = record { of = λ d. refl; stays = refl }
about_denied c frame.WillMessageRequest rule = record { of = λ d. refl; stays = refl }
about_denied c (frame.WillMessage message) rule = record { of = λ d. refl; stays = refl }
about_denied c (frame.Register register) rule = record { of = λ d. refl; stays = refl }
about_denied c (frame.RegisterAck answer) rule = record { of = λ d. refl; stays = refl }
about_denied c (frame.Publish p) rule = record { of = λ d. refl; stays = refl }
about_denied c (frame.PublishAck answer) rule = record { of = λ d. refl; stays = refl }
about_denied c (frame.PublishComplete id) rule = record { of = λ d. refl; stays = refl }
about_denied c (frame.PublishReceived id) rule = record { of = λ d. refl; stays = refl }
about_denied c (frame.PublishRelease id) rule = record { of = λ d. refl; stays = refl }
about_denied c (frame.Subscribe request) rule = record { of = λ d. refl; stays = refl }
about_denied c (frame.SubscribeAck answer) rule = record { of = λ d. refl; stays = refl }
about_denied c (frame.Unsubscribe request) rule = record { of = λ d. refl; stays = refl }
about_denied c (frame.UnsubscribeAck id) rule = record { of = λ d. refl; stays = refl }
about_denied c (frame.PingRequest client) rule = record { of = λ d. refl; stays = refl }
about_denied c frame.PingResponse rule = record { of = λ d. refl; stays = refl }
about_denied c (frame.Disconnect duration) rule = record { of = λ d. refl; stays = refl }
about_denied c (frame.WillTopicUpdate topic) rule = record { of = λ d. refl; stays = refl }
about_denied c (frame.WillTopicResponse code) rule = record { of = λ d. refl; stays = refl }
about_denied c (frame.WillMessageUpdate message) rule = record { of = λ d. refl; stays = refl }
about_denied c (frame.WillMessageResponse code) rule = record { of = λ d. refl; stays = refl }

about_left : (c : List ℕ) → About c (note.Left c)
about_left c = record { of = λ d. refl; stays = refl }

about_frame : (c : List ℕ) (outcome : Outcome) → About c (note.Frame (who.Client c) outcome)
about_frame c outcome = record { of = λ d. refl; stays = refl }

about_connect : (c : List ℕ) (outcome : Outcome) → About c (note.Connect c outcome)
about_connect c outcome = record { of = λ d. refl; stays = refl }

about_ended : (c filter : List ℕ) (rule : Denial) → About c (note.End c filter (Denied rule))
about_ended c filter rule = record { of = λ d. refl; stays = refl }

about_end : (c filter : List ℕ) (outcome : Outcome) (notes : List Decision) → AllAbout c notes
    → AllAbout c (end_of c filter outcome ++ notes)
about_end c filter Allowed notes about = about
about_end c filter (Denied rule) notes about = (about_ended c filter rule, about)

about_denial : (c : List ℕ) (outcome : Outcome) → AllAbout c (denial_of c outcome)
about_denial c Allowed = tt
about_denial c (Denied rule) = (about_frame c (Denied rule), tt)

about_if : (b : Bool) (c : List ℕ) (notes : List Decision) → AllAbout c notes
    → AllAbout c (if b then notes else [])
about_if b c notes about = every_if (About c) b notes about

about_entry : (same : Bool) (c : List ℕ) (outcome : Outcome) (enters leaves : List Decision) (b : Bool)
    → AllAbout c enters → AllAbout c leaves
    → AllAbout c (if same then note.Connect c outcome ∷ enters
    else (if is_allowed outcome then (if b then leaves else []) else []))
about_entry true c outcome enters leaves b own other = (about_connect c outcome, own)
about_entry false c outcome enters leaves b own other =
    about_if (is_allowed outcome) c (if b then leaves else []) (about_if b c leaves other)

about_ends : (policy : Policy) (c : List ℕ) (held : List Held) → AllAbout c (ends_under policy c held)
about_ends policy c [] = tt
about_ends policy c (h ∷ held) =
    about_end c h.filter (coverage policy c h.filter) (ends_under policy c held) (about_ends policy c held)

about_refused : (x : Client) (filter : Option (List ℕ)) → AllAbout x.id (refused_end x filter)
about_refused x None = tt
about_refused x (Some filter) =
    about_if (holds filter x) x.id (note.End x.id filter (Denied (Peer BrokerRefused)) ∷ [])
    (about_ended x.id filter (Peer BrokerRefused), tt)

-- ---- what waits for the client

about_messages : (c : List ℕ) → OfMessages (About c) c
about_messages c = record {
  announces = λ name. record { of = λ d. refl; stays = refl };
  hands = λ name outcome. record { of = λ d. refl; stays = refl };
}

about_gone : (c : List ℕ) (waiting : List Message) → AllAbout c (all_gone c waiting)
about_gone c waiting = every_gone (About c) c waiting (about_messages c)

about_handed : (policy : Policy) (c : List ℕ) (x : Client) → x.id ≡ c → AllAbout c (handed_over policy x)
about_handed policy c x same =
    subst (λ id. AllAbout id (handed_over policy x)) same
    (every_handed (About x.id) policy x (about_messages x.id))

-- ---- a REGACK or PUBACK

about_out : (c : List ℕ) → AllAbout c (out_of_turn c)
about_out c = (about_frame c (Denied (Form OutOfTurn)), tt)

about_either : (b : Bool) (c : List ℕ) (xs ys : List Decision) → AllAbout c xs → AllAbout c ys
    → AllAbout c (if b then xs else ys)
about_either true c xs ys one two = one
about_either false c xs ys one two = two

-- ---- a statement of a will, and a client that is lost

about_statement : (c : List ℕ) → OfStatement (About c) c
about_statement c = record {
  states = λ name outcome. record { of = λ d. refl; stays = refl };
  leaves = about_left c;
  messages = about_messages c;
}

about_lost : (c : List ℕ) → OfLost (About c) c
about_lost c = record {
  loses = record { of = λ d. refl; stays = refl };
  drops = λ name rule. record { of = λ d. refl; stays = refl };
  messages = about_messages c;
}

-- ---- a CONNECT that is accepted

about_entering : (s : State) (from : Address) (connect : Connect) (x : Client) (outcome : Outcome)
    → AllAbout x.id (entering_notes s from connect x outcome)
about_entering s from connect x Allowed =
    let y = let_in s.clock from connect x in
    about_either connect.flags.clean x.id (all_gone x.id x.buffer.waiting) (handed_over s.policy y)
    (about_gone x.id x.buffer.waiting) (about_handed s.policy x.id y (let_in_id s.clock from connect x))
about_entering s from connect x (Denied rule) = tt

-- ---- each request, and each cause

told_to : (s : State) (request : Request) (x : Client) → AllAbout x.id (fixed_to s request x)
told_to s (ToPing client) x =
    let verdict = ping_verdict client x in
    every_append (About x.id) (denial_of x.id verdict) (woken_notes s.policy client x)
    (about_denial x.id verdict) (every_woken (About x.id) s.policy client x (about_messages x.id))
told_to s (ToSleep duration) x =
    about_either (is_due_messages x.phase) x.id [] (out_of_turn x.id) tt (about_out x.id)
told_to s ToLeave x = (about_left x.id, about_gone x.id x.buffer.waiting)
told_to s (ToRegister r) x =
    (of_register (About x.id) s.policy x r.name (λ name o. record { of = λ d. refl; stays = refl }), tt)
told_to s (ToPublish p) x =
    (of_publish (About x.id) s x p (λ name o. record { of = λ d. refl; stays = refl }), tt)
told_to s (ToPublishOnce p) x =
    about_if (not (is_repeat p x)) x.id (publish_once_ask s x p ∷ [])
    (of_publish_once (About x.id) s x p (λ name o. record { of = λ d. refl; stays = refl }), tt)
told_to s (ToRelease id) x =
    about_either (is_active x.phase) x.id [] (out_of_turn x.id) tt (about_out x.id)
told_to s (ToSubscribe r) x =
    (of_subscribe (About x.id) s x r (λ filter o. record { of = λ d. refl; stays = refl }), tt)
told_to s (ToUnsubscribe r) x =
    (of_unsubscribe (About x.id) s.policy x r (λ filter o. record { of = λ d. refl; stays = refl }), tt)
told_to s (ToConfirm r) x =
    about_either (is_confirming r x) x.id (confirmations s.policy r x) (out_of_turn x.id)
    (every_confirmation (About x.id) s.policy r x (about_messages x.id)) (about_out x.id)
told_to s (ToAcknowledge r) x =
    about_either (is_acknowledging r x) x.id (handed_over s.policy (closed x)) (out_of_turn x.id)
    (about_handed s.policy x.id (closed x) refl) (about_out x.id)
told_to s (ToState statement) x = every_statement (About x.id) s.policy statement x (about_statement x.id)
told_to s (Untaken message) x = (about_denied x.id message (Form NotSupported), tt)

pub tells : (s : State) (c : Cause) (x : Client) → AllAbout x.id (fixed_for s c x)
tells s (ByConnect from connect) x =
    about_entry (bytes_eq connect.client_id x.id) x.id (entry s connect)
    (entering_notes s from connect x (entry s connect))
    (note.Left x.id ∷ all_gone x.id x.buffer.waiting) (is_here x from)
    (about_entering s from connect x (entry s connect)) (about_left x.id, about_gone x.id x.buffer.waiting)
tells s (ByMessage from request) x =
    about_if (is_here x from) x.id (fixed_to s request x) (told_to s request x)
tells s (ByBroken from rule) x =
    about_if (is_here x from) x.id (note.Frame (who.Client x.id) (Denied rule) ∷ [])
    (about_frame x.id (Denied rule), tt)
tells s (ByPacket p) x =
    let due = message_due (answer_of p) x in
    let refused = refused_filter s.link (answer_of p) in
    every_append (About x.id) (refused_end x refused) (delivered_notes s.policy due x)
    (about_refused x refused) (every_delivered (About x.id) s.policy due x (about_messages x.id))
tells s (ByReplace policy) x = about_ends policy x.id x.filters
tells s (BySource from p) x = tt
tells s ByUp x = tt
tells s ByDown x = tt
tells s ByTake x = tt
tells s (ByTick clock) x =
    every_tick (About x.id) s.policy s.link (later s.clock clock) s.clients x (about_lost x.id)
    (λ name outcome. record { of = λ d. refl; stays = refl })
