-- No answer to a client but that to a PINGREQ is PINGRESP, and none but that to a PUBREL is PUBCOMP.
use Rattle.std.proofs.Common.{◌≡◌, ℕ, Bool, true, false, List, [], ◌∷◌, ◌++◌, refl, ap, ◌∙◌, if◌then◌else◌, length}
use Rattle.std.specs.Prelude.{Option, Some, None, nat_lt, ◌==◌, ◌+◌}
use Rattle.std.specs.List.{list_any}
use Rattle.sng_frames.specs.declared.messages.publish.Publish.{Publish}
use Rattle.sng_frames.specs.declared.qos.FrameQos.{FrameQos}
use Rattle.sng_frames.specs.declared.qos.FrameQos.TheVariants as qos
use Rattle.sng_frames.specs.declared.frame.SnFrame.{SnFrame}
use Rattle.sng_frames.specs.declared.frame.SnFrame.TheVariants as frame
use Rattle.sng_book.specs.declared.address.Address.{Address}
use Rattle.sng_book.specs.declared.decision.Decision.TheVariants as note
use Rattle.sng_book.specs.declared.outcome.Denial.{Denial}
use Rattle.sng_book.specs.declared.outcome.Denial.TheVariants.{Form}
use Rattle.sng_book.specs.declared.outcome.FormDenial.TheVariants.{NoSession, OutOfTurn}
use Rattle.sng_book.specs.declared.outcome.Outcome.{Outcome}
use Rattle.sng_book.specs.declared.outcome.Outcome.TheVariants.{Allowed, Denied}
use Rattle.sng_book.specs.declared.out.Out.{Out}
use Rattle.sng_book.specs.declared.out.Out.TheVariants.{Send, Wire, Note}
use Rattle.sng_history.specs.Causes.{Statement, StatesTopic, StatesMessage, UpdatesTopic, UpdatesMessage}
use Rattle.sng_history.specs.Causes.{Request, ToPing, ToLeave, ToSleep, ToRegister, ToPublish, ToSubscribe}
use Rattle.sng_history.specs.Causes.{ToUnsubscribe, ToConfirm}
use Rattle.sng_history.specs.Causes.{ToAcknowledge, ToState, Untaken, Cause, request_of}
use Rattle.sng_history.specs.Causes.{ToPublishOnce, ToRelease}
use Rattle.sng_history.specs.Clients.{Client, same_address}
use Rattle.sng_history.specs.Standing.{Release, is_release, drop_notes}
use Rattle.sng_history.specs.Answers.{refusal, code_of, sent_to, puback, dismissed, statement_answer}
use Rattle.sng_history.specs.Answers.{dialogue_ended, statement_refused, pubrec}
use Rattle.sng_history.specs.Answers.{no_flags, connack, flags_of, id_given}
use Rattle.sng_history.specs.Whole.{takes_leave, farewell, denied_to, denied_by, granted_to, granted_by}
use Rattle.sng_history.specs.Whole.{replied, dropped_with}
use Rattle.sng_history.specs.Whole.{part}
use Rattle.sng_laws.specs.ViewsClients.{is_ponged}
use Rattle.sng_laws.specs.ViewsLink.{sends_in}
use Rattle.sng_laws.specs.LawsReached.{type_octet, is_type}
use Rattle.sng_frames.specs.Writing.{written, number_then, part_of}
use Rattle.sng_frames.specs.declared.return_code.ReturnCode.{ReturnCode}
use Rattle.sng_frames.specs.declared.return_code.TheConstants.ReturnCode.{ACCEPTED}
use Rattle.std.specs.Str.{bytes_eq}
use Rattle.sng_ids.specs.Ids.{id_for}
use Rattle.sng_frames.specs.Grammar.{type_of}
use Rattle.sng_frames.specs.MessageTypes.{octet_of}
use Rattle.sng_frames.specs.declared.limits.TheConstants.{MAX_SHORT_LENGTH}
use Rattle.sng_history.specs.Requests.{granted}
use Rattle.sng_history.proofs.Booleans.{and_no}
use Rattle.sng_promise.proofs.InForce.PromiseRefuses.{type_written}

-- ---- a frame is read by its type

framed_by : (kind : ℕ) (part : List ℕ) (long : Bool) → (kind == 23) ≡ false
    → bytes_eq (if long then 1 ∷ number_then (length part + 4) (kind ∷ part)
    else (length part + 2) ∷ kind ∷ part) (2 ∷ 23 ∷ []) ≡ false
framed_by kind part true other = refl
framed_by kind part false other = rw other (and_no (length part + 2 == 2))

-- these bytes are no PINGRESP, and no PUBCOMP
abbrev pub Unlike : List ℕ → Type 0
Unlike datagram =
    (bytes_eq datagram (written frame.PingResponse) ≡ false) × (is_type 14 (type_octet datagram) ≡ false)

pub unlike : (message : SnFrame) → (octet_of (type_of message) == 23) ≡ false
    → (octet_of (type_of message) == 14) ≡ false → Unlike (written message)
unlike message other release = (
  framed_by (octet_of (type_of message)) (part_of message)
      (nat_lt MAX_SHORT_LENGTH (length (part_of message) + 2)) other,
  ap (is_type 14) (type_written (octet_of (type_of message)) (part_of message)) ∙ release,
)

-- ---- outs among which it is not

abbrev pub NoPong : List Out → Type 0
NoPong [] = Unit {0}
NoPong (Send to datagram ∷ outs) = Unlike datagram × NoPong outs
NoPong (Note said ∷ outs) = NoPong outs
NoPong (Wire packet ∷ outs) = NoPong outs

pub none_pongs : (place : Address) (outs : List Out) → NoPong outs → is_ponged (Some place) outs ≡ false
none_pongs place [] none = refl
none_pongs place (Send to datagram ∷ outs) none =
    rw (none.0.0, and_no (same_address place to)) (none_pongs place outs none.1)
none_pongs place (Note said ∷ outs) none = none_pongs place outs none
none_pongs place (Wire packet ∷ outs) none = none_pongs place outs none

pub both_none : (xs ys : List Out) → NoPong xs → NoPong ys → NoPong (xs ++ ys)
both_none [] ys one two = two
both_none (Send to datagram ∷ xs) ys one two = (one.0, both_none xs ys one.1 two)
both_none (Note said ∷ xs) ys one two = both_none xs ys one two
both_none (Wire packet ∷ xs) ys one two = both_none xs ys one two

pub none_if : (b : Bool) (outs : List Out) → NoPong outs → NoPong (if b then outs else [])
none_if true outs none = none
none_if false outs none = tt

pub none_sends : (outs : List Out) → sends_in outs ≡ [] → NoPong outs
none_sends [] none = tt
none_sends (Send to datagram ∷ outs) none = absurd (let e = none in cc)
none_sends (Note said ∷ outs) none = none_sends outs none
none_sends (Wire packet ∷ outs) none = none_sends outs none

-- ---- answers

pub dismissed_none : (to : Address) → NoPong (dismissed to ∷ [])
dismissed_none to = (unlike (frame.Disconnect None) refl refl, tt)

pub farewell_none : (request : Option Request) (to : Address) → NoPong (farewell request to)
farewell_none None to = tt
farewell_none (Some request) to = none_if (takes_leave request) (dismissed to ∷ []) (dismissed_none to)

pub connack_none : (to : Address) (code : ReturnCode) → NoPong (connack to code ∷ [])
connack_none to code = (unlike (frame.ConnectAck code) refl refl, tt)

refused_none : (to : Address) (message : SnFrame) (code : ReturnCode)
    → NoPong (sent_to to (refusal message code))
refused_none to (frame.Register r) code =
    (unlike (frame.RegisterAck (record { topic_id = 0; msg_id = r.msg_id; code = code })) refl refl, tt)
refused_none to (frame.Publish p) code =
    (unlike (frame.PublishAck (record { topic_id = p.topic_id; msg_id = p.msg_id; code = code })) refl refl, tt)
refused_none to (frame.Subscribe r) code = (
  unlike (frame.SubscribeAck (record {
    flags = no_flags;
    topic_id = 0;
    msg_id = r.msg_id;
    code = code;
  })) refl refl,
  tt,
)
refused_none to (frame.Unsubscribe r) code = (unlike (frame.UnsubscribeAck r.msg_id) refl refl, tt)
refused_none to (frame.WillTopicUpdate topic) code = (unlike (frame.WillTopicResponse code) refl refl, tt)
refused_none to (frame.WillMessageUpdate message) code = (unlike (frame.WillMessageResponse code) refl refl, tt)
refused_none to message code = tt

ping_none : (to : Address) (client : Option (List ℕ)) (rule : Denial)
    → NoPong (denied_to (ToPing client) to rule)
ping_none to client (Form NoSession) = dismissed_none to
ping_none to client _ = tt

ended_none : (to : Address) (rule : Denial) → NoPong (dialogue_ended to rule)
ended_none to (Form OutOfTurn) = tt
ended_none to rule = connack_none to (code_of rule)

statement_refused_none : (statement : Statement) (to : Address) (rule : Denial)
    → NoPong (statement_refused statement to rule)
statement_refused_none (StatesTopic topic) to rule = ended_none to rule
statement_refused_none (StatesMessage message) to rule = ended_none to rule
statement_refused_none (UpdatesTopic topic) to rule =
    refused_none to (frame.WillTopicUpdate topic) (code_of rule)
statement_refused_none (UpdatesMessage message) to rule =
    refused_none to (frame.WillMessageUpdate message) (code_of rule)

denied_to_none : (request : Request) (to : Address) (rule : Denial) → NoPong (denied_to request to rule)
denied_to_none (ToPing client) to rule = ping_none to client rule
denied_to_none ToLeave to rule = tt
denied_to_none (ToSleep duration) to rule = tt
denied_to_none (ToRegister r) to rule = refused_none to (frame.Register r) (code_of rule)
denied_to_none (ToPublish p) to rule = refused_none to (frame.Publish p) (code_of rule)
denied_to_none (ToPublishOnce p) to rule = refused_none to (frame.Publish p) (code_of rule)
denied_to_none (ToRelease n) to rule = tt
denied_to_none (ToSubscribe r) to rule = refused_none to (frame.Subscribe r) (code_of rule)
denied_to_none (ToUnsubscribe r) to rule = refused_none to (frame.Unsubscribe r) (code_of rule)
denied_to_none (ToConfirm r) to rule = tt
denied_to_none (ToAcknowledge r) to rule = tt
denied_to_none (ToState statement) to rule = statement_refused_none statement to rule
denied_to_none (Untaken message) to rule = refused_none to message (code_of rule)

denied_none : (request : Option Request) (to : Address) (rule : Denial) → NoPong (denied_by request to rule)
denied_none None to rule = tt
denied_none (Some request) to rule = denied_to_none request to rule

puback_none : (to : Address) (p : Publish) (q : FrameQos) → NoPong (puback to p q)
puback_none to p qos.AtLeastOnce = (
  unlike (frame.PublishAck (record { topic_id = p.topic_id; msg_id = p.msg_id; code = ACCEPTED })) refl refl,
  tt,
)
puback_none to p qos.AtMostOnce = tt
puback_none to p qos.ExactlyOnce = tt
puback_none to p qos.WithoutSession = tt

pub pubrec_none : (to : Address) (n : ℕ) → NoPong (pubrec to n ∷ [])
pubrec_none to n = (unlike (frame.PublishReceived n) refl refl, tt)

statement_none : (statement : Statement) (to : Address) → NoPong (statement_answer statement to ∷ [])
statement_none (StatesTopic None) to = connack_none to ACCEPTED
statement_none (StatesTopic (Some topic)) to = (unlike frame.WillMessageRequest refl refl, tt)
statement_none (StatesMessage message) to = connack_none to ACCEPTED
statement_none (UpdatesTopic topic) to = (unlike (frame.WillTopicResponse ACCEPTED) refl refl, tt)
statement_none (UpdatesMessage message) to = (unlike (frame.WillMessageResponse ACCEPTED) refl refl, tt)

granted_to_none : (request : Request) (x : Client) (name : Option (List ℕ))
    → NoPong (granted_to request x name)
granted_to_none (ToPing client) x name = tt
granted_to_none ToLeave x name = tt
granted_to_none (ToSleep duration) x name = tt
granted_to_none (ToRegister r) x (Some name) = (
  unlike (frame.RegisterAck (record {
    topic_id = id_for name x.ids;
    msg_id = r.msg_id;
    code = ACCEPTED;
  })) refl refl,
  tt,
)
granted_to_none (ToRegister r) x None = tt
granted_to_none (ToPublish p) x name = puback_none x.address p p.flags.qos
granted_to_none (ToPublishOnce p) x name = pubrec_none x.address p.msg_id
granted_to_none (ToRelease n) x name = tt
granted_to_none (ToSubscribe r) x (Some filter) =
    let topic_id = id_given r.flags.id_type r.topic x.ids filter in (
      unlike
          (frame.SubscribeAck
          (record {
            flags = flags_of (granted r.flags.qos);
            topic_id = topic_id;
            msg_id = r.msg_id;
            code = ACCEPTED;
          })) refl refl,
      tt,
    )
granted_to_none (ToSubscribe r) x None = tt
granted_to_none (ToUnsubscribe r) x filter = (unlike (frame.UnsubscribeAck r.msg_id) refl refl, tt)
granted_to_none (ToConfirm r) x name = tt
granted_to_none (ToAcknowledge r) x name = tt
granted_to_none (ToState statement) x name = statement_none statement x.address
granted_to_none (Untaken message) x name = tt

granted_none : (request : Option Request) (x : Client) (name : Option (List ℕ))
    → NoPong (granted_by request x name)
granted_none None x name = tt
granted_none (Some request) x name = granted_to_none request x name

pub replied_none : (c : Cause) (x : Client) (name : Option (List ℕ)) (outcome : Outcome)
    → NoPong (replied c x name outcome)
replied_none c x name Allowed = granted_none (request_of c) x name
replied_none c x name (Denied rule) = denied_none (request_of c) x.address rule

pub dropped_none : (dropped : List Release) (client : List ℕ) (filter : Option (List ℕ))
    → NoPong (dropped_with dropped client filter)
dropped_none dropped client None = tt
dropped_none dropped client (Some filter) =
    none_if (list_any (is_release client filter) dropped) (Note note.Outbox ∷ []) tt

pub drops_none : (dropped : List Release) → NoPong (drop_notes dropped)
drops_none [] = tt
drops_none (r ∷ dropped) = drops_none dropped
