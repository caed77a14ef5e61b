-- What a row lets out for clients beside their notes is sent to them, so it brings no packet for the broker;
-- only that an UNSUBSCRIBE was dropped is noted among it.
use Rattle.std.proofs.Common.{◌≡◌, ℕ, Bool, true, false, List, [], ◌∷◌, ◌++◌, refl}
use Rattle.std.proofs.Common.{if◌then◌else◌}
use Rattle.std.specs.Prelude.{slice_get, Option, Some, None}
use Rattle.std.specs.List.{list_any}
use Rattle.sng_frames.specs.declared.messages.publish.Publish.{Publish}
use Rattle.sng_frames.specs.declared.qos.FrameQos.{FrameQos}
use Rattle.sng_frames.specs.declared.qos.FrameQos.TheVariants as qos
use Rattle.sng_frames.specs.declared.frame.SnFrame.{SnFrame}
use Rattle.sng_frames.specs.declared.frame.SnFrame.TheVariants as frame
use Rattle.sng_states.specs.States.{is_due_messages}
use Rattle.sng_queue.specs.Messages.{Message}
use Rattle.sng_queue.specs.Buffers.{Buffer}
use Rattle.sng_queue.specs.declared.exchange.Exchange.{Exchange}
use Rattle.sng_queue.specs.declared.exchange.Exchange.TheVariants.{Announcing, Acknowledging}
use Rattle.sng_queue.specs.declared.exchange.Sending.{Sending}
use Rattle.sng_book.specs.declared.address.Address.{Address}
use Rattle.sng_book.specs.declared.decision.Decision.{Decision}
use Rattle.sng_book.specs.declared.decision.Decision.TheVariants as note
use Rattle.sng_book.specs.declared.outcome.Denial.{Denial}
use Rattle.sng_book.specs.declared.outcome.Denial.TheVariants.{Form}
use Rattle.sng_book.specs.declared.outcome.FormDenial.TheVariants.{NoSession, OutOfTurn}
use Rattle.sng_book.specs.declared.outcome.Outcome.{Outcome}
use Rattle.sng_book.specs.declared.outcome.Outcome.TheVariants.{Allowed, Denied}
use Rattle.sng_book.specs.declared.out.Out.{Out}
use Rattle.sng_book.specs.declared.out.Out.TheVariants.{Send, Wire, Note}
use Rattle.sng_history.specs.Causes.{Statement, StatesTopic, StatesMessage, UpdatesTopic, UpdatesMessage}
use Rattle.sng_history.specs.Causes.{Request, ToPing, ToLeave, ToSleep, ToRegister, ToPublish, ToSubscribe}
use Rattle.sng_history.specs.Causes.{ToUnsubscribe, ToConfirm, ToAcknowledge, ToState, Untaken, Cause}
use Rattle.sng_history.specs.Causes.{request_of}
use Rattle.sng_history.specs.Causes.{ToPublishOnce, ToRelease}
use Rattle.sng_history.specs.Handing.{Known, known_as, front, handed_outs, announced_again, repeated_outs}
use Rattle.sng_history.specs.Clients.{Around, Client, is_drained}
use Rattle.sng_history.specs.Standing.{Release, is_release, drop_notes}
use Rattle.sng_history.specs.Verdicts.{is_active, ping_verdict, is_repeat}
use Rattle.sng_history.specs.Answers.{pubrec, pubcomp}
use Rattle.sng_history.specs.Answers.{refusal, code_of, sent_to, puback, dismissed, statement_answer}
use Rattle.sng_history.specs.Answers.{dialogue_ended, statement_refused, pong}
use Rattle.sng_history.specs.Whole.{takes_leave, farewell, denied_to, denied_by, granted_to, granted_by}
use Rattle.sng_history.specs.Whole.{replied, dropped_with, handed_frames, repeated_frames, frames_of}
use Rattle.sng_history.specs.Whole.{pong_by, answer_to, answer, drained_outs}

-- ---- frames

-- each of these is sent to a client, or notes that an item was dropped
abbrev pub AllSent : List Out → Type 0
AllSent [] = Unit {0}
AllSent (Send to datagram ∷ outs) = AllSent outs
AllSent (Note said ∷ outs) = (said ≡ note.Outbox) × AllSent outs
AllSent (Wire packet ∷ outs) = ⊥

both_sent : (xs ys : List Out) → AllSent xs → AllSent ys → AllSent (xs ++ ys)
both_sent [] ys one two = two
both_sent (Send to datagram ∷ xs) ys one two = both_sent xs ys one two
both_sent (Note said ∷ xs) ys one two = (one.0, both_sent xs ys one.1 two)
both_sent (Wire packet ∷ xs) ys one two = absurd one

refused_sent : (to : Address) (o : Option SnFrame) → AllSent (sent_to to o)
refused_sent to None = tt
refused_sent to (Some message) = tt

if_sent : (b : Bool) (outs : List Out) → AllSent outs → AllSent (if b then outs else [])
if_sent true outs sent = sent
if_sent false outs sent = tt

leave_sent : (b : Bool) (to : Address) → AllSent (if b then dismissed to ∷ [] else [])
leave_sent true to = tt
leave_sent false to = tt

farewell_sent : (request : Option Request) (to : Address) → AllSent (farewell request to)
farewell_sent None to = tt
farewell_sent (Some request) to = leave_sent (takes_leave request) to

ping_sent : (to : Address) (client : Option (List ℕ)) (rule : Denial)
    → AllSent (denied_to (ToPing client) to rule)
ping_sent to client (Form NoSession) = tt
ping_sent to client _ = tt

ended_sent : (to : Address) (rule : Denial) → AllSent (dialogue_ended to rule)
ended_sent to (Form OutOfTurn) = tt
ended_sent to _ = tt

statement_refused_sent : (statement : Statement) (to : Address) (rule : Denial)
    → AllSent (statement_refused statement to rule)
statement_refused_sent (StatesTopic topic) to rule = ended_sent to rule
statement_refused_sent (StatesMessage message) to rule = ended_sent to rule
statement_refused_sent (UpdatesTopic topic) to rule =
    refused_sent to (refusal (frame.WillTopicUpdate topic) (code_of rule))
statement_refused_sent (UpdatesMessage message) to rule =
    refused_sent to (refusal (frame.WillMessageUpdate message) (code_of rule))

denied_to_sent : (request : Request) (to : Address) (rule : Denial) → AllSent (denied_to request to rule)
denied_to_sent (ToPing client) to rule = ping_sent to client rule
denied_to_sent ToLeave to rule = tt
denied_to_sent (ToSleep duration) to rule = tt
denied_to_sent (ToRegister r) to rule = refused_sent to (refusal (frame.Register r) (code_of rule))
denied_to_sent (ToPublish p) to rule = refused_sent to (refusal (frame.Publish p) (code_of rule))
denied_to_sent (ToPublishOnce p) to rule = refused_sent to (refusal (frame.Publish p) (code_of rule))
denied_to_sent (ToRelease id) to rule = tt
denied_to_sent (ToSubscribe r) to rule = refused_sent to (refusal (frame.Subscribe r) (code_of rule))
denied_to_sent (ToUnsubscribe r) to rule = refused_sent to (refusal (frame.Unsubscribe r) (code_of rule))
denied_to_sent (ToConfirm r) to rule = tt
denied_to_sent (ToAcknowledge r) to rule = tt
denied_to_sent (ToState statement) to rule = statement_refused_sent statement to rule
denied_to_sent (Untaken message) to rule = refused_sent to (refusal message (code_of rule))

denied_sent : (request : Option Request) (to : Address) (rule : Denial) → AllSent (denied_by request to rule)
denied_sent None to rule = tt
denied_sent (Some request) to rule = denied_to_sent request to rule

puback_sent : (to : Address) (p : Publish) (q : FrameQos) → AllSent (puback to p q)
puback_sent to p qos.AtLeastOnce = tt
puback_sent to p qos.AtMostOnce = tt
puback_sent to p qos.ExactlyOnce = tt
puback_sent to p qos.WithoutSession = tt

statement_sent : (statement : Statement) (to : Address) → AllSent (statement_answer statement to ∷ [])
statement_sent (StatesTopic None) to = tt
statement_sent (StatesTopic (Some topic)) to = tt
statement_sent (StatesMessage message) to = tt
statement_sent (UpdatesTopic topic) to = tt
statement_sent (UpdatesMessage message) to = tt

granted_to_sent : (request : Request) (x : Client) (name : Option (List ℕ))
    → AllSent (granted_to request x name)
granted_to_sent (ToPing client) x name = tt
granted_to_sent ToLeave x name = tt
granted_to_sent (ToSleep duration) x name = tt
granted_to_sent (ToRegister r) x (Some name) = tt
granted_to_sent (ToRegister r) x None = tt
granted_to_sent (ToPublish p) x name = puback_sent x.address p p.flags.qos
granted_to_sent (ToPublishOnce p) x name = tt
granted_to_sent (ToRelease id) x name = tt
granted_to_sent (ToSubscribe r) x (Some filter) = tt
granted_to_sent (ToSubscribe r) x None = tt
granted_to_sent (ToUnsubscribe r) x filter = tt
granted_to_sent (ToConfirm r) x name = tt
granted_to_sent (ToAcknowledge r) x name = tt
granted_to_sent (ToState statement) x name = statement_sent statement x.address
granted_to_sent (Untaken message) x name = tt

granted_sent : (request : Option Request) (x : Client) (name : Option (List ℕ))
    → AllSent (granted_by request x name)
granted_sent None x name = tt
granted_sent (Some request) x name = granted_to_sent request x name

replied_sent : (c : Cause) (x : Client) (name : Option (List ℕ)) (outcome : Outcome)
    → AllSent (replied c x name outcome)
replied_sent c x name Allowed = granted_sent (request_of c) x name
replied_sent c x name (Denied rule) = denied_sent (request_of c) x.address rule

drop_sent : (b : Bool) → AllSent (if b then Note note.Outbox ∷ [] else [])
drop_sent true = (refl, tt)
drop_sent false = tt

dropped_sent : (dropped : List Release) (client : List ℕ) (filter : Option (List ℕ))
    → AllSent (dropped_with dropped client filter)
dropped_sent dropped client None = tt
dropped_sent dropped client (Some filter) = drop_sent (list_any (is_release client filter) dropped)

pub drops_sent : (dropped : List Release) → AllSent (drop_notes dropped)
drops_sent [] = tt
drops_sent (r ∷ dropped) = (refl, drops_sent dropped)

handed_out_sent : (to : Address) (number : ℕ) (m : Option Message) (known : Option Known)
    → AllSent (handed_outs to number m known)
handed_out_sent to number None known = tt
handed_out_sent to number (Some m) None = tt
handed_out_sent to number (Some m) (Some known) = tt

handed_sent : (a : Around) (x : Client) (name : List ℕ) (outcome : Outcome)
    → AllSent (handed_frames a x name outcome)
handed_sent a x name Allowed =
    handed_out_sent x.address x.number (front x.buffer) (known_as a.policy x.ids name)
handed_sent a x name (Denied rule) = tt

announced_again_sent : (to : Address) (sent : Sending) (m : Option Message)
    → AllSent (announced_again to sent m)
announced_again_sent to sent None = tt
announced_again_sent to sent (Some m) = tt

repeated_out_sent : (to : Address) (b : Buffer) (open_ones : Option Exchange)
    → AllSent (repeated_outs to b open_ones)
repeated_out_sent to b None = tt
repeated_out_sent to b (Some (Announcing sent)) = announced_again_sent to sent (slice_get b.waiting 0)
repeated_out_sent to b (Some (Acknowledging sent k m)) = tt

repeated_sent : (x : Client) (outcome : Outcome) → AllSent (repeated_frames x outcome)
repeated_sent x Allowed = repeated_out_sent x.address x.buffer x.buffer.exchange
repeated_sent x (Denied rule) = tt

pub frames_sent : (a : Around) (dropped : List Release) (x : Client) (said : Decision)
    → AllSent (frames_of a dropped x said)
frames_sent a dropped x (note.Left id) = farewell_sent (request_of a.cause) x.address
frames_sent a dropped x (note.Register who name outcome) = replied_sent a.cause x name outcome
frames_sent a dropped x (note.Publish who name outcome) = replied_sent a.cause x name outcome
frames_sent a dropped x (note.Subscribe who filter outcome) = replied_sent a.cause x filter outcome
frames_sent a dropped x (note.Unsubscribe who filter outcome) =
    both_sent (dropped_with dropped x.id filter) (replied a.cause x filter outcome)
    (dropped_sent dropped x.id filter) (replied_sent a.cause x filter outcome)
frames_sent a dropped x (note.Will who name outcome) = replied_sent a.cause x name outcome
frames_sent a dropped x (note.Frame who outcome) = replied_sent a.cause x None outcome
frames_sent a dropped x (note.End id filter outcome) = dropped_sent dropped x.id (Some filter)
frames_sent a dropped x (note.Announce id name) = tt
frames_sent a dropped x (note.Hand id name outcome) = handed_sent a x name outcome
frames_sent a dropped x (note.Connect id outcome) = tt
frames_sent a dropped x (note.Retry id name outcome) = repeated_sent x outcome
frames_sent a dropped x (note.Forward who name outcome) = tt
frames_sent a dropped x (note.Again who name outcome) = tt
frames_sent a dropped x (note.Lost id) = tt
frames_sent a dropped x note.Outbox = tt

pong_sent : (o : Outcome) (to : Address) → AllSent (pong_by o to)
pong_sent Allowed to = tt
pong_sent (Denied rule) to = tt

answer_to_sent : (request : Request) (x : Client) → AllSent (answer_to request x)
answer_to_sent (ToPing client) x =
    let verdict = ping_verdict client x in
    if_sent (is_active x.phase) (pong_by verdict x.address) (pong_sent verdict x.address)
answer_to_sent ToLeave x = tt
answer_to_sent (ToSleep duration) x = leave_sent (is_due_messages x.phase) x.address
answer_to_sent (ToRegister r) x = tt
answer_to_sent (ToPublish p) x = tt
answer_to_sent (ToPublishOnce p) x = if_sent (is_repeat p x) (pubrec x.address p.msg_id ∷ []) tt
answer_to_sent (ToRelease id) x = if_sent (is_active x.phase) (pubcomp x.address id ∷ []) tt
answer_to_sent (ToSubscribe r) x = tt
answer_to_sent (ToUnsubscribe r) x = tt
answer_to_sent (ToConfirm r) x = tt
answer_to_sent (ToAcknowledge r) x = tt
answer_to_sent (ToState statement) x = tt
answer_to_sent (Untaken message) x = tt

pub answer_sent : (request : Option Request) (x : Client) → AllSent (answer request x)
answer_sent None x = tt
answer_sent (Some request) x = answer_to_sent request x

pub drained_sent : (x : Client) → AllSent (drained_outs x)
drained_sent x = if_sent (is_drained x) (pong x.address ∷ []) tt
