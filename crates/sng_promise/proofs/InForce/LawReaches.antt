-- No PUBLISH and no REGISTER goes to a client but at once behind a note that lets it go.
use Rattle.std.proofs.Common.{◌≡◌, ℕ, Bool, true, false, List, [], ◌∷◌, ◌++◌, refl, sym, if◌then◌else◌}
use Rattle.std.specs.Prelude.{slice_get, Option, Some, None}
use Rattle.std.specs.List.{flat_map, list_any}
use Rattle.sng_states.specs.States.{is_due_messages}
use Rattle.sng_queue.specs.Messages.{Message}
use Rattle.sng_queue.specs.Buffers.{Buffer}
use Rattle.sng_queue.specs.declared.exchange.Exchange.{Exchange}
use Rattle.sng_queue.specs.declared.exchange.Exchange.TheVariants.{Announcing, Acknowledging}
use Rattle.sng_queue.specs.declared.exchange.Sending.{Sending}
use Rattle.sng_frames.specs.Writing.{written}
use Rattle.sng_frames.specs.declared.messages.publish.Publish.{Publish}
use Rattle.sng_frames.specs.declared.qos.FrameQos.{FrameQos}
use Rattle.sng_frames.specs.declared.qos.FrameQos.TheVariants as qos
use Rattle.sng_frames.specs.declared.frame.SnFrame.{SnFrame}
use Rattle.sng_frames.specs.declared.frame.SnFrame.TheVariants as frame
use Rattle.sng_frames.specs.declared.return_code.ReturnCode.{ReturnCode}
use Rattle.sng_frames.specs.declared.return_code.TheConstants.ReturnCode.{ACCEPTED}
use Rattle.sng_book.specs.declared.address.Address.{Address}
use Rattle.sng_book.specs.declared.decision.Decision.{Decision}
use Rattle.sng_book.specs.declared.decision.Decision.TheVariants as note
use Rattle.sng_book.specs.declared.outcome.Denial.{Denial}
use Rattle.sng_book.specs.declared.outcome.Denial.TheVariants.{Form}
use Rattle.sng_book.specs.declared.outcome.FormDenial.TheVariants.{NoSession, OutOfTurn}
use Rattle.sng_book.specs.declared.outcome.Outcome.{Outcome}
use Rattle.sng_book.specs.declared.outcome.Outcome.TheVariants.{Allowed, Denied}
use Rattle.sng_book.specs.declared.out.Out.{Out}
use Rattle.sng_book.specs.declared.out.Out.TheVariants.{Send, Wire, Note}
use Rattle.sng_history.specs.Causes.{Request, ToPing, ToLeave, ToSleep, ToRegister, ToPublish, ToSubscribe}
use Rattle.sng_history.specs.Causes.{ToUnsubscribe, ToConfirm}
use Rattle.sng_history.specs.Causes.{ToAcknowledge, ToState, Untaken}
use Rattle.sng_history.specs.Causes.{Cause, request_of, Statement, StatesTopic, StatesMessage, UpdatesTopic}
use Rattle.sng_history.specs.Causes.{UpdatesMessage}
use Rattle.sng_history.specs.Causes.{ToPublishOnce, ToRelease}
use Rattle.sng_history.specs.Handing.{Known, known_as, front, handed_outs, announced_again, repeated_outs}
use Rattle.sng_history.specs.Clients.{Around, Client, is_author, is_drained, start_by, note_by, notes_by}
use Rattle.sng_history.specs.Standing.{Release, is_release, drop_notes}
use Rattle.sng_history.specs.Verdicts.{is_active, ping_verdict, is_repeat}
use Rattle.sng_history.specs.Answers.{code_of, refusal, sent_to, puback, connack, pong, dismissed}
use Rattle.sng_history.specs.Answers.{statement_answer}
use Rattle.sng_history.specs.Answers.{dialogue_ended, statement_refused, pubrec, pubcomp}
use Rattle.sng_history.specs.Whole.{takes_leave, farewell, denied_to, denied_by, granted_to, granted_by}
use Rattle.sng_history.specs.Whole.{replied, dropped_with}
use Rattle.sng_history.specs.Whole.{handed_frames, repeated_frames, frames_of, spell, pong_by, answer_to}
use Rattle.sng_history.specs.Whole.{answer, drained_outs, part}
use Rattle.sng_laws.specs.LawsReached.{carries_topic, lets_reach, Reaches}

-- ---- outs behind outs

pub after_note : (b : Bool) (outs : List Out) → Reaches false outs → Reaches b outs
after_note b [] calm = tt
after_note b (Note said ∷ outs) calm = calm
after_note b (Send to datagram ∷ outs) calm =
    (λ carries. absurd (let e : false ≡ true = calm.0 carries in cc), calm.1)
after_note b (Wire packet ∷ outs) calm = calm

pub reach_both : (b : Bool) (xs ys : List Out) → Reaches b xs → Reaches false ys → Reaches b (xs ++ ys)
reach_both b [] ys one two = after_note b ys two
reach_both b (Note said ∷ xs) ys one two = reach_both (lets_reach said) xs ys one two
reach_both b (Send to datagram ∷ xs) ys one two = (one.0, reach_both false xs ys one.1 two)
reach_both b (Wire packet ∷ xs) ys one two = reach_both false xs ys one two

pub reach_if : (b : Bool) (xs ys : List Out) → Reaches false xs → Reaches false ys
    → Reaches false (if b then xs else ys)
reach_if true xs ys one two = one
reach_if false xs ys one two = two

pub reach_flat : (f : Client → List Out) (xs : List Client) → ((x : Client) → Reaches false (f x))
    → Reaches false (flat_map f xs)
reach_flat f [] each = tt
reach_flat f (x ∷ xs) each = reach_both false (f x) (flat_map f xs) (each x) (reach_flat f xs each)

-- ---- a frame that carries no topic

not_true : (b : Bool) → b ≡ false → b ≡ true → false ≡ true
not_true true is bad = sym is
not_true false is bad = bad

-- it is sent wherever it may be
pub calm : (to : Address) (message : SnFrame) → carries_topic (written message) ≡ false
    → Reaches false (Send to (written message) ∷ [])
calm to message is = (λ carries. not_true (carries_topic (written message)) is carries, tt)

refusal_reach : (to : Address) (message : SnFrame) (code : ReturnCode)
    → Reaches false (sent_to to (refusal message code))
refusal_reach to (frame.Register r) code =
    calm to (frame.RegisterAck (record { topic_id = 0; msg_id = r.msg_id; code = code })) refl
refusal_reach to (frame.Publish p) code =
    calm to (frame.PublishAck (record { topic_id = p.topic_id; msg_id = p.msg_id; code = code })) refl
refusal_reach to (frame.Subscribe r) code = (λ carries. carries, tt)
refusal_reach to (frame.Unsubscribe r) code = calm to (frame.UnsubscribeAck r.msg_id) refl
refusal_reach to (frame.WillTopicUpdate topic) code = calm to (frame.WillTopicResponse code) refl
refusal_reach to (frame.WillMessageUpdate message) code = calm to (frame.WillMessageResponse code) refl
refusal_reach to _ code = tt

pub dismissed_reach : (to : Address) → Reaches false (dismissed to ∷ [])
dismissed_reach to = calm to (frame.Disconnect None) refl

pub pong_reach : (to : Address) → Reaches false (pong to ∷ [])
pong_reach to = calm to frame.PingResponse refl

pub connack_reach : (to : Address) (code : ReturnCode) → Reaches false (connack to code ∷ [])
connack_reach to code = calm to (frame.ConnectAck code) refl

-- ---- what answers a message

farewell_reach : (request : Option Request) (to : Address) → Reaches false (farewell request to)
farewell_reach None to = tt
farewell_reach (Some request) to =
    reach_if (takes_leave request) (dismissed to ∷ []) [] (dismissed_reach to) tt

ping_reach : (to : Address) (client : Option (List ℕ)) (rule : Denial)
    → Reaches false (denied_to (ToPing client) to rule)
ping_reach to client (Form NoSession) = dismissed_reach to
ping_reach to client _ = tt

ended_reach : (to : Address) (rule : Denial) → Reaches false (dialogue_ended to rule)
ended_reach to (Form OutOfTurn) = tt
ended_reach to rule = connack_reach to (code_of rule)

stated_reach : (statement : Statement) (to : Address) (rule : Denial)
    → Reaches false (statement_refused statement to rule)
stated_reach (StatesTopic topic) to rule = ended_reach to rule
stated_reach (StatesMessage message) to rule = ended_reach to rule
stated_reach (UpdatesTopic topic) to rule = refusal_reach to (frame.WillTopicUpdate topic) (code_of rule)
stated_reach (UpdatesMessage message) to rule =
    refusal_reach to (frame.WillMessageUpdate message) (code_of rule)

denied_reach : (request : Request) (to : Address) (rule : Denial) → Reaches false (denied_to request to rule)
denied_reach (ToPing client) to rule = ping_reach to client rule
denied_reach ToLeave to rule = tt
denied_reach (ToSleep duration) to rule = tt
denied_reach (ToRegister r) to rule = refusal_reach to (frame.Register r) (code_of rule)
denied_reach (ToPublish p) to rule = refusal_reach to (frame.Publish p) (code_of rule)
denied_reach (ToPublishOnce p) to rule = refusal_reach to (frame.Publish p) (code_of rule)
denied_reach (ToRelease n) to rule = tt
denied_reach (ToSubscribe r) to rule = refusal_reach to (frame.Subscribe r) (code_of rule)
denied_reach (ToUnsubscribe r) to rule = refusal_reach to (frame.Unsubscribe r) (code_of rule)
denied_reach (ToConfirm r) to rule = tt
denied_reach (ToAcknowledge r) to rule = tt
denied_reach (ToState statement) to rule = stated_reach statement to rule
denied_reach (Untaken message) to rule = refusal_reach to message (code_of rule)

puback_reach : (to : Address) (p : Publish) (q : FrameQos) → Reaches false (puback to p q)
puback_reach to p qos.AtLeastOnce =
    calm to (frame.PublishAck (record { topic_id = p.topic_id; msg_id = p.msg_id; code = ACCEPTED })) refl
puback_reach to p qos.AtMostOnce = tt
puback_reach to p qos.ExactlyOnce = tt
puback_reach to p qos.WithoutSession = tt

pubrec_reach : (to : Address) (n : ℕ) → Reaches false (pubrec to n ∷ [])
pubrec_reach to n = calm to (frame.PublishReceived n) refl

pubcomp_reach : (to : Address) (n : ℕ) → Reaches false (pubcomp to n ∷ [])
pubcomp_reach to n = calm to (frame.PublishComplete n) refl

statement_reach : (statement : Statement) (to : Address) → Reaches false (statement_answer statement to ∷ [])
statement_reach (StatesTopic None) to = connack_reach to ACCEPTED
statement_reach (StatesTopic (Some topic)) to = calm to frame.WillMessageRequest refl
statement_reach (StatesMessage message) to = connack_reach to ACCEPTED
statement_reach (UpdatesTopic topic) to = calm to (frame.WillTopicResponse ACCEPTED) refl
statement_reach (UpdatesMessage message) to = calm to (frame.WillMessageResponse ACCEPTED) refl

granted_reach : (request : Request) (x : Client) (name : Option (List ℕ))
    → Reaches false (granted_to request x name)
granted_reach (ToRegister r) x (Some name) = (λ carries. carries, tt)
granted_reach (ToRegister r) x None = tt
granted_reach (ToPublish p) x name = puback_reach x.address p p.flags.qos
granted_reach (ToPublishOnce p) x name = pubrec_reach x.address p.msg_id
granted_reach (ToRelease n) x name = tt
granted_reach (ToSubscribe r) x (Some text) = (λ carries. carries, tt)
granted_reach (ToSubscribe r) x None = tt
granted_reach (ToUnsubscribe r) x name = calm x.address (frame.UnsubscribeAck r.msg_id) refl
granted_reach (ToPing client) x name = tt
granted_reach ToLeave x name = tt
granted_reach (ToSleep duration) x name = tt
granted_reach (ToConfirm r) x name = tt
granted_reach (ToAcknowledge r) x name = tt
granted_reach (ToState statement) x name = statement_reach statement x.address
granted_reach (Untaken message) x name = tt

replied_by : (request : Option Request) (x : Client) (name : Option (List ℕ)) (outcome : Outcome)
    → Reaches false (granted_by request x name)
    × ((rule : Denial) → Reaches false (denied_by request x.address rule))
replied_by None x name outcome = (tt, λ rule. tt)
replied_by (Some request) x name outcome =
    (granted_reach request x name, λ rule. denied_reach request x.address rule)

replied_reach : (c : Cause) (x : Client) (name : Option (List ℕ)) (outcome : Outcome)
    → Reaches false (replied c x name outcome)
replied_reach c x name Allowed = (replied_by (request_of c) x name Allowed).0
replied_reach c x name (Denied rule) = (replied_by (request_of c) x name (Denied rule)).1 rule

-- ---- an item that was dropped

drop_reach : (b : Bool) → Reaches false (if b then Note note.Outbox ∷ [] else [])
drop_reach true = tt
drop_reach false = tt

dropped_reach : (dropped : List Release) (client : List ℕ) (text : Option (List ℕ))
    → Reaches false (dropped_with dropped client text)
dropped_reach dropped client None = tt
dropped_reach dropped client (Some text) = drop_reach (list_any (is_release client text) dropped)

pub drops_reach : (dropped : List Release) → Reaches false (drop_notes dropped)
drops_reach [] = tt
drops_reach (r ∷ dropped) = drops_reach dropped

-- ---- what lets a message go

handed_out_reach : (to : Address) (number : ℕ) (m : Option Message) (known : Option Known)
    → Reaches true (handed_outs to number m known)
handed_out_reach to number None known = tt
handed_out_reach to number (Some m) None = tt
handed_out_reach to number (Some m) (Some known) = (λ carries. refl, tt)

handed_reach : (a : Around) (x : Client) (name : List ℕ) (outcome : Outcome)
    → Reaches (lets_reach (note.Hand x.id name outcome)) (handed_frames a x name outcome)
handed_reach a x name Allowed =
    handed_out_reach x.address x.number (front x.buffer) (known_as a.policy x.ids name)
handed_reach a x name (Denied rule) = tt

announced_reach : (to : Address) (sent : Sending) (m : Option Message)
    → Reaches true (announced_again to sent m)
announced_reach to sent None = tt
announced_reach to sent (Some m) = (λ carries. refl, tt)

repeated_out_reach : (to : Address) (b : Buffer) (open_one : Option Exchange)
    → Reaches true (repeated_outs to b open_one)
repeated_out_reach to b None = tt
repeated_out_reach to b (Some (Announcing sent)) = announced_reach to sent (slice_get b.waiting 0)
repeated_out_reach to b (Some (Acknowledging sent k m)) = (λ carries. refl, tt)

repeated_reach : (x : Client) (name : List ℕ) (outcome : Outcome)
    → Reaches (lets_reach (note.Retry x.id name outcome)) (repeated_frames x outcome)
repeated_reach x name Allowed = repeated_out_reach x.address x.buffer x.buffer.exchange
repeated_reach x name (Denied rule) = tt

frames_reach : (a : Around) (dropped : List Release) (x : Client) (said : Decision)
    → Reaches (lets_reach said) (frames_of a dropped x said)
frames_reach a dropped x (note.Left id) = farewell_reach (request_of a.cause) x.address
frames_reach a dropped x (note.Register whom name outcome) = replied_reach a.cause x name outcome
frames_reach a dropped x (note.Publish whom name outcome) = replied_reach a.cause x name outcome
frames_reach a dropped x (note.Subscribe whom text outcome) = replied_reach a.cause x text outcome
frames_reach a dropped x (note.Unsubscribe whom text outcome) =
    reach_both false (dropped_with dropped x.id text) (replied a.cause x text outcome)
    (dropped_reach dropped x.id text)
    (replied_reach a.cause x text outcome)
frames_reach a dropped x (note.Will whom name outcome) = replied_reach a.cause x name outcome
frames_reach a dropped x (note.Frame whom outcome) = replied_reach a.cause x None outcome
frames_reach a dropped x (note.End id text outcome) = dropped_reach dropped x.id (Some text)
frames_reach a dropped x (note.Announce id name) = (λ carries. refl, tt)
frames_reach a dropped x (note.Hand id name outcome) = handed_reach a x name outcome
frames_reach a dropped x (note.Retry id name outcome) = repeated_reach x name outcome
frames_reach a dropped x (note.Connect id outcome) = tt
frames_reach a dropped x (note.Forward whom name outcome) = tt
frames_reach a dropped x (note.Again whom name outcome) = tt
frames_reach a dropped x (note.Lost id) = tt
frames_reach a dropped x note.Outbox = tt

-- ---- the part of a client

pub spell_reach : (a : Around) (dropped : List Release) (x : Client) (notes : List Decision)
    → Reaches false (spell a dropped x notes)
spell_reach a dropped x [] = tt
spell_reach a dropped x (said ∷ notes) =
    let y = note_by a said x in
    reach_both (lets_reach said) (frames_of a dropped x said) (spell a dropped y notes)
    (frames_reach a dropped x said)
    (spell_reach a dropped y notes)

pong_if : (o : Outcome) (to : Address) → Reaches false (pong_by o to)
pong_if Allowed to = pong_reach to
pong_if (Denied rule) to = tt

answer_to_reach : (request : Request) (x : Client) → Reaches false (answer_to request x)
answer_to_reach (ToPing client) x =
    let verdict = ping_verdict client x in
    reach_if (is_active x.phase) (pong_by verdict x.address) [] (pong_if verdict x.address) tt
answer_to_reach (ToSleep duration) x =
    reach_if (is_due_messages x.phase) (dismissed x.address ∷ []) [] (dismissed_reach x.address) tt
answer_to_reach ToLeave x = tt
answer_to_reach (ToRegister r) x = tt
answer_to_reach (ToPublish p) x = tt
answer_to_reach (ToPublishOnce p) x =
    reach_if (is_repeat p x) (pubrec x.address p.msg_id ∷ []) [] (pubrec_reach x.address p.msg_id) tt
answer_to_reach (ToRelease n) x =
    reach_if (is_active x.phase) (pubcomp x.address n ∷ []) [] (pubcomp_reach x.address n) tt
answer_to_reach (ToSubscribe r) x = tt
answer_to_reach (ToUnsubscribe r) x = tt
answer_to_reach (ToConfirm r) x = tt
answer_to_reach (ToAcknowledge r) x = tt
answer_to_reach (ToState statement) x = tt
answer_to_reach (Untaken message) x = tt

answer_reach : (request : Option Request) (x : Client) → Reaches false (answer request x)
answer_reach None x = tt
answer_reach (Some request) x = answer_to_reach request x

pub part_reach : (a : Around) (dropped : List Release) (notes : List Decision) (x : Client)
    → Reaches false (part a dropped notes x)
part_reach a dropped notes x =
    let own = answer (request_of a.cause) x in
    let y = start_by a x in
    let z = notes_by a notes y in
    reach_both false (if is_author a.cause x then own else []) (spell a dropped y notes ++ drained_outs z)
    (reach_if (is_author a.cause x) own [] (answer_reach (request_of a.cause) x) tt)
    (reach_both false (spell a dropped y notes) (drained_outs z) (spell_reach a dropped y notes)
    (reach_if (is_drained z) (pong z.address ∷ []) [] (pong_reach z.address) tt))
