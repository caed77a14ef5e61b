-- What is let out for a client is sent to where it is.
use Rattle.std.proofs.Common.{◌≡◌, ℕ, Bool, true, false, List, [], ◌∷◌, ◌++◌, refl, ◌∙◌, subst, if◌then◌else◌}
use Rattle.std.specs.Prelude.{slice_get, Option, Some, None}
use Rattle.std.specs.List.{list_any}
use Rattle.sng_frames.specs.declared.messages.publish.Publish.{Publish}
use Rattle.sng_frames.specs.declared.qos.FrameQos.{FrameQos}
use Rattle.sng_frames.specs.declared.qos.FrameQos.TheVariants as qos
use Rattle.sng_frames.specs.declared.frame.SnFrame.{SnFrame}
use Rattle.sng_frames.specs.declared.frame.SnFrame.TheVariants as frame
use Rattle.sng_states.specs.States.{is_due_messages}
use Rattle.sng_queue.specs.Messages.{Message}
use Rattle.sng_queue.specs.Buffers.{Buffer}
use Rattle.sng_queue.specs.declared.exchange.Exchange.{Exchange}
use Rattle.sng_queue.specs.declared.exchange.Exchange.TheVariants.{Announcing, Acknowledging}
use Rattle.sng_queue.specs.declared.exchange.Sending.{Sending}
use Rattle.sng_book.specs.declared.address.Address.{Address}
use Rattle.sng_book.specs.declared.decision.Decision.{Decision}
use Rattle.sng_book.specs.declared.decision.Decision.TheVariants as note
use Rattle.sng_book.specs.declared.outcome.Denial.{Denial}
use Rattle.sng_book.specs.declared.outcome.Denial.TheVariants.{Form}
use Rattle.sng_book.specs.declared.outcome.FormDenial.TheVariants.{NoSession, OutOfTurn}
use Rattle.sng_book.specs.declared.outcome.Outcome.{Outcome}
use Rattle.sng_book.specs.declared.outcome.Outcome.TheVariants.{Allowed, Denied}
use Rattle.sng_book.specs.declared.out.Out.{Out}
use Rattle.sng_book.specs.declared.out.Out.TheVariants.{Send, Wire, Note}
use Rattle.sng_history.specs.Causes.{Statement, StatesTopic, StatesMessage, UpdatesTopic, UpdatesMessage}
use Rattle.sng_history.specs.Causes.{Request, ToPing, ToLeave, ToSleep, ToRegister, ToPublish, ToSubscribe}
use Rattle.sng_history.specs.Causes.{ToUnsubscribe, ToConfirm, ToAcknowledge, ToState, Untaken, Cause}
use Rattle.sng_history.specs.Causes.{request_of}
use Rattle.sng_history.specs.Causes.{ToPublishOnce, ToRelease}
use Rattle.sng_history.specs.Handing.{Known, known_as, front, handed_outs, announced_again, repeated_outs}
use Rattle.sng_history.specs.Clients.{Around, Client, is_author, start_by, note_by, notes_by, is_drained}
use Rattle.sng_history.specs.Standing.{Release, is_release, drop_note, drop_notes}
use Rattle.sng_history.specs.Verdicts.{is_active, ping_verdict, is_repeat}
use Rattle.sng_history.specs.Answers.{refusal, code_of, sent_to, puback, dismissed, statement_answer}
use Rattle.sng_history.specs.Answers.{dialogue_ended, statement_refused, pong, pubrec, pubcomp}
use Rattle.sng_history.specs.Whole.{takes_leave, farewell, denied_to, denied_by, granted_to, granted_by}
use Rattle.sng_history.specs.Whole.{replied, dropped_with, handed_frames, repeated_frames, frames_of}
use Rattle.sng_history.specs.Whole.{spell, pong_by, answer_to, answer, drained_outs, part, stranger_to}
use Rattle.sng_history.proofs.Steady.{start_lasts}
use Rattle.sng_history.proofs.Hands.{Every}

-- ---- frames

-- what is sent among these is sent to the place
abbrev pub AllTo : Address → List Out → Type 0
AllTo place [] = Unit {0}
AllTo place (Send to datagram ∷ outs) = (to ≡ place) × AllTo place outs
AllTo place (Note said ∷ outs) = AllTo place outs
AllTo place (Wire packet ∷ outs) = AllTo place outs

pub both_to : (place : Address) (xs ys : List Out) → AllTo place xs → AllTo place ys → AllTo place (xs ++ ys)
both_to place [] ys one two = two
both_to place (Send to datagram ∷ xs) ys one two = (one.0, both_to place xs ys one.1 two)
both_to place (Note said ∷ xs) ys one two = both_to place xs ys one two
both_to place (Wire packet ∷ xs) ys one two = both_to place xs ys one two

pub if_to : (place : Address) (b : Bool) (outs : List Out) → AllTo place outs
    → AllTo place (if b then outs else [])
if_to place true outs all = all
if_to place false outs all = tt

refused_to : (place : Address) (o : Option SnFrame) → AllTo place (sent_to place o)
refused_to place None = tt
refused_to place (Some message) = (refl, tt)

farewell_to : (request : Option Request) (place : Address) → AllTo place (farewell request place)
farewell_to None place = tt
farewell_to (Some request) place = if_to place (takes_leave request) (dismissed place ∷ []) (refl, tt)

ping_to : (place : Address) (client : Option (List ℕ)) (rule : Denial)
    → AllTo place (denied_to (ToPing client) place rule)
ping_to place client (Form NoSession) = (refl, tt)
ping_to place client _ = tt

ended_to : (place : Address) (rule : Denial) → AllTo place (dialogue_ended place rule)
ended_to place (Form OutOfTurn) = tt
ended_to place _ = (refl, tt)

statement_refused_to : (statement : Statement) (place : Address) (rule : Denial)
    → AllTo place (statement_refused statement place rule)
statement_refused_to (StatesTopic topic) place rule = ended_to place rule
statement_refused_to (StatesMessage message) place rule = ended_to place rule
statement_refused_to (UpdatesTopic topic) place rule =
    refused_to place (refusal (frame.WillTopicUpdate topic) (code_of rule))
statement_refused_to (UpdatesMessage message) place rule =
    refused_to place (refusal (frame.WillMessageUpdate message) (code_of rule))

denial_to : (request : Request) (place : Address) (rule : Denial) → AllTo place (denied_to request place rule)
denial_to (ToPing client) place rule = ping_to place client rule
denial_to ToLeave place rule = tt
denial_to (ToSleep duration) place rule = tt
denial_to (ToRegister r) place rule = refused_to place (refusal (frame.Register r) (code_of rule))
denial_to (ToPublish p) place rule = refused_to place (refusal (frame.Publish p) (code_of rule))
denial_to (ToPublishOnce p) place rule = refused_to place (refusal (frame.Publish p) (code_of rule))
denial_to (ToRelease n) place rule = tt
denial_to (ToSubscribe r) place rule = refused_to place (refusal (frame.Subscribe r) (code_of rule))
denial_to (ToUnsubscribe r) place rule = refused_to place (refusal (frame.Unsubscribe r) (code_of rule))
denial_to (ToConfirm r) place rule = tt
denial_to (ToAcknowledge r) place rule = tt
denial_to (ToState statement) place rule = statement_refused_to statement place rule
denial_to (Untaken message) place rule = refused_to place (refusal message (code_of rule))

denied_place : (request : Option Request) (place : Address) (rule : Denial)
    → AllTo place (denied_by request place rule)
denied_place None place rule = tt
denied_place (Some request) place rule = denial_to request place rule

puback_to : (place : Address) (p : Publish) (q : FrameQos) → AllTo place (puback place p q)
puback_to place p qos.AtLeastOnce = (refl, tt)
puback_to place p qos.AtMostOnce = tt
puback_to place p qos.ExactlyOnce = tt
puback_to place p qos.WithoutSession = tt

statement_to : (statement : Statement) (place : Address) → AllTo place (statement_answer statement place ∷ [])
statement_to (StatesTopic None) place = (refl, tt)
statement_to (StatesTopic (Some topic)) place = (refl, tt)
statement_to (StatesMessage message) place = (refl, tt)
statement_to (UpdatesTopic topic) place = (refl, tt)
statement_to (UpdatesMessage message) place = (refl, tt)

grant_to : (request : Request) (x : Client) (name : Option (List ℕ))
    → AllTo x.address (granted_to request x name)
grant_to (ToPing client) x name = tt
grant_to ToLeave x name = tt
grant_to (ToSleep duration) x name = tt
grant_to (ToRegister r) x (Some name) = (refl, tt)
grant_to (ToRegister r) x None = tt
grant_to (ToPublish p) x name = puback_to x.address p p.flags.qos
grant_to (ToPublishOnce p) x name = (refl, tt)
grant_to (ToRelease n) x name = tt
grant_to (ToSubscribe r) x (Some filter) = (refl, tt)
grant_to (ToSubscribe r) x None = tt
grant_to (ToUnsubscribe r) x filter = (refl, tt)
grant_to (ToConfirm r) x name = tt
grant_to (ToAcknowledge r) x name = tt
grant_to (ToState statement) x name = statement_to statement x.address
grant_to (Untaken message) x name = tt

granted_place : (request : Option Request) (x : Client) (name : Option (List ℕ))
    → AllTo x.address (granted_by request x name)
granted_place None x name = tt
granted_place (Some request) x name = grant_to request x name

replied_to : (c : Cause) (x : Client) (name : Option (List ℕ)) (outcome : Outcome)
    → AllTo x.address (replied c x name outcome)
replied_to c x name Allowed = granted_place (request_of c) x name
replied_to c x name (Denied rule) = denied_place (request_of c) x.address rule

drop_to : (place : Address) (dropped : List Release) (client filter : List ℕ)
    → AllTo place (drop_note dropped client filter)
drop_to place dropped client filter =
    if_to place (list_any (is_release client filter) dropped) (Note note.Outbox ∷ []) tt

dropped_to : (place : Address) (dropped : List Release) (client : List ℕ) (filter : Option (List ℕ))
    → AllTo place (dropped_with dropped client filter)
dropped_to place dropped client None = tt
dropped_to place dropped client (Some filter) = drop_to place dropped client filter

pub drops_to : (place : Address) (dropped : List Release) → AllTo place (drop_notes dropped)
drops_to place [] = tt
drops_to place (r ∷ dropped) = drops_to place dropped

handed_out_to : (place : Address) (number : ℕ) (m : Option Message) (known : Option Known)
    → AllTo place (handed_outs place number m known)
handed_out_to place number None known = tt
handed_out_to place number (Some m) None = tt
handed_out_to place number (Some m) (Some known) = (refl, tt)

handed_to : (a : Around) (x : Client) (name : List ℕ) (outcome : Outcome)
    → AllTo x.address (handed_frames a x name outcome)
handed_to a x name Allowed = handed_out_to x.address x.number (front x.buffer) (known_as a.policy x.ids name)
handed_to a x name (Denied rule) = tt

announced_again_to : (place : Address) (sent : Sending) (m : Option Message)
    → AllTo place (announced_again place sent m)
announced_again_to place sent None = tt
announced_again_to place sent (Some m) = (refl, tt)

repeated_out_to : (place : Address) (b : Buffer) (open_ones : Option Exchange)
    → AllTo place (repeated_outs place b open_ones)
repeated_out_to place b None = tt
repeated_out_to place b (Some (Announcing sent)) = announced_again_to place sent (slice_get b.waiting 0)
repeated_out_to place b (Some (Acknowledging sent k m)) = (refl, tt)

repeated_to : (x : Client) (outcome : Outcome) → AllTo x.address (repeated_frames x outcome)
repeated_to x Allowed = repeated_out_to x.address x.buffer x.buffer.exchange
repeated_to x (Denied rule) = tt

frames_to : (a : Around) (dropped : List Release) (x : Client) (said : Decision)
    → AllTo x.address (frames_of a dropped x said)
frames_to a dropped x (note.Left id) = farewell_to (request_of a.cause) x.address
frames_to a dropped x (note.Register who name outcome) = replied_to a.cause x name outcome
frames_to a dropped x (note.Publish who name outcome) = replied_to a.cause x name outcome
frames_to a dropped x (note.Subscribe who filter outcome) = replied_to a.cause x filter outcome
frames_to a dropped x (note.Unsubscribe who filter outcome) =
    both_to x.address (dropped_with dropped x.id filter) (replied a.cause x filter outcome)
    (dropped_to x.address dropped x.id filter)
    (replied_to a.cause x filter outcome)
frames_to a dropped x (note.Will who name outcome) = replied_to a.cause x name outcome
frames_to a dropped x (note.Frame who outcome) = replied_to a.cause x None outcome
frames_to a dropped x (note.End id filter outcome) = drop_to x.address dropped x.id filter
frames_to a dropped x (note.Announce id name) = (refl, tt)
frames_to a dropped x (note.Hand id name outcome) = handed_to a x name outcome
frames_to a dropped x (note.Connect id outcome) = tt
frames_to a dropped x (note.Retry id name outcome) = repeated_to x outcome
frames_to a dropped x (note.Forward who name outcome) = tt
frames_to a dropped x (note.Again who name outcome) = tt
frames_to a dropped x (note.Lost id) = tt
frames_to a dropped x note.Outbox = tt

-- ---- the part of a client

-- no note brings the client elsewhere
abbrev pub Stayed : Around → List Decision → Type 0
Stayed a notes = Every (λ said. (x : Client) → (note_by a said x).address ≡ x.address) notes

pub spell_to : (a : Around) (dropped : List Release) (x : Client) (notes : List Decision) → Stayed a notes
    → AllTo x.address (spell a dropped x notes)
spell_to a dropped x [] stayed = tt
spell_to a dropped x (said ∷ notes) stayed =
    let y = note_by a said x in
    both_to x.address (frames_of a dropped x said) (spell a dropped y notes) (frames_to a dropped x said)
    (subst (λ place. AllTo place (spell a dropped y notes)) (stayed.0 x)
    (spell_to a dropped y notes stayed.1))

pub stayed_at : (a : Around) (notes : List Decision) (x : Client) → Stayed a notes
    → (notes_by a notes x).address ≡ x.address
stayed_at a [] x stayed = refl
stayed_at a (said ∷ notes) x stayed = stayed_at a notes (note_by a said x) stayed.1 ∙ stayed.0 x

pong_to : (o : Outcome) (place : Address) → AllTo place (pong_by o place)
pong_to Allowed place = (refl, tt)
pong_to (Denied rule) place = tt

message_to : (request : Request) (x : Client) → AllTo x.address (answer_to request x)
message_to (ToPing client) x =
    let verdict = ping_verdict client x in
    if_to x.address (is_active x.phase) (pong_by verdict x.address) (pong_to verdict x.address)
message_to ToLeave x = tt
message_to (ToSleep duration) x =
    if_to x.address (is_due_messages x.phase) (dismissed x.address ∷ []) (refl, tt)
message_to (ToRegister r) x = tt
message_to (ToPublish p) x = tt
message_to (ToPublishOnce p) x =
    if_to x.address (is_repeat p x) (pubrec x.address p.msg_id ∷ []) (refl, tt)
message_to (ToRelease n) x = if_to x.address (is_active x.phase) (pubcomp x.address n ∷ []) (refl, tt)
message_to (ToSubscribe r) x = tt
message_to (ToUnsubscribe r) x = tt
message_to (ToConfirm r) x = tt
message_to (ToAcknowledge r) x = tt
message_to (ToState statement) x = tt
message_to (Untaken message) x = tt

answered_to : (request : Option Request) (x : Client) → AllTo x.address (answer request x)
answered_to None x = tt
answered_to (Some request) x = message_to request x

drained_to : (x : Client) → AllTo x.address (drained_outs x)
drained_to x = if_to x.address (is_drained x) (pong x.address ∷ []) (refl, tt)

-- all of it goes to where the client is
pub part_to : (a : Around) (dropped : List Release) (notes : List Decision) (x : Client) → Stayed a notes
    → AllTo x.address (part a dropped notes x)
part_to a dropped notes x stayed =
    let y = start_by a x in
    let z = notes_by a notes y in
    let here : y.address ≡ x.address = (start_lasts a x).address in
    let first = answer (request_of a.cause) x in
    both_to x.address (if is_author a.cause x then first else []) (spell a dropped y notes ++ drained_outs z)
    (if_to x.address (is_author a.cause x) first (answered_to (request_of a.cause) x))
    (both_to x.address (spell a dropped y notes) (drained_outs z)
    (subst (λ place. AllTo place (spell a dropped y notes)) here (spell_to a dropped y notes stayed))
    (subst (λ place. AllTo place (drained_outs z)) (stayed_at a notes y stayed ∙ here) (drained_to z)))

-- ---- the answer where nobody is

pub stranger_goes : (from : Address) (request : Request) → AllTo from (stranger_to from request)
stranger_goes from (ToPing client) = (refl, tt)
stranger_goes from ToLeave = (refl, tt)
stranger_goes from (ToSleep duration) = (refl, tt)
stranger_goes from (ToRegister r) = (refl, tt)
stranger_goes from (ToPublish p) = (refl, tt)
stranger_goes from (ToPublishOnce p) = (refl, tt)
stranger_goes from (ToRelease n) = (refl, tt)
stranger_goes from (ToSubscribe r) = (refl, tt)
stranger_goes from (ToUnsubscribe r) = (refl, tt)
stranger_goes from (ToConfirm r) = (refl, tt)
stranger_goes from (ToAcknowledge r) = (refl, tt)
stranger_goes from (ToState statement) = (refl, tt)
stranger_goes from (Untaken message) = tt
