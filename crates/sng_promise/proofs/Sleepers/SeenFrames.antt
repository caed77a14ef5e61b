-- No frame that follows a note of a client is PINGRESP: it answers a PINGREQ, or tells an awake client that
-- nothing is left (MQTT-SN 1.2, 6.11 and 6.14).
use Rattle.std.proofs.Common.{ℕ, true, List, [], ◌∷◌, refl}
use Rattle.std.specs.Prelude.{slice_get, Option, Some, None}
use Rattle.sng_frames.specs.declared.frame.SnFrame.TheVariants as frame
use Rattle.sng_queue.specs.Messages.{Message}
use Rattle.sng_queue.specs.Buffers.{Buffer}
use Rattle.sng_queue.specs.declared.exchange.Exchange.{Exchange}
use Rattle.sng_queue.specs.declared.exchange.Exchange.TheVariants.{Announcing, Acknowledging}
use Rattle.sng_queue.specs.declared.exchange.Sending.{Sending}
use Rattle.sng_book.specs.declared.address.Address.{Address}
use Rattle.sng_book.specs.declared.decision.Decision.{Decision}
use Rattle.sng_book.specs.declared.decision.Decision.TheVariants as note
use Rattle.sng_book.specs.declared.outcome.Outcome.{Outcome}
use Rattle.sng_book.specs.declared.outcome.Outcome.TheVariants.{Allowed, Denied}
use Rattle.sng_history.specs.Causes.{Request, ToPing, ToLeave, ToSleep, ToRegister, ToPublish, ToSubscribe}
use Rattle.sng_history.specs.Causes.{ToUnsubscribe, ToConfirm}
use Rattle.sng_history.specs.Causes.{ToAcknowledge, ToState, Untaken, request_of}
use Rattle.sng_history.specs.Causes.{ToPublishOnce, ToRelease}
use Rattle.sng_history.specs.Handing.{Known, known_as, front, handed_outs, announced_again, repeated_outs}
use Rattle.sng_history.specs.Handing.{publish_flags, msg_id_of}
use Rattle.sng_history.specs.Handing.{number_after}
use Rattle.sng_history.specs.Clients.{Around, Client, note_by}
use Rattle.sng_history.specs.Standing.{Release}
use Rattle.sng_history.specs.Whole.{replied, dropped_with}
use Rattle.sng_history.specs.Whole.{handed_frames, repeated_frames, frames_of, stranger_to}
use Rattle.sng_history.specs.Whole.{spell}
use Rattle.sng_ids.specs.Ids.{id_for}
use Rattle.sng_frames.specs.declared.flags.Flags.{Flags}
use Rattle.sng_promise.proofs.Sleepers.SeenFramesAnswers.{unlike, NoPong, both_none, dismissed_none}
use Rattle.sng_promise.proofs.Sleepers.SeenFramesAnswers.{farewell_none}
use Rattle.sng_promise.proofs.Sleepers.SeenFramesAnswers.{replied_none, dropped_none}

-- ---- messages for the client

handed_out_none : (to : Address) (number : ℕ) (m : Option Message) (known : Option Known)
    → NoPong (handed_outs to number m known)
handed_out_none to number None known = tt
handed_out_none to number (Some m) None = tt
handed_out_none to number (Some m) (Some known) = (
  unlike
      (frame.Publish
      (record {
        flags = publish_flags m known.kind;
        topic_id = known.id;
        msg_id = msg_id_of m.qos number;
        payload = m.payload;
      })) refl refl,
  tt,
)

handed_none : (a : Around) (x : Client) (name : List ℕ) (outcome : Outcome)
    → NoPong (handed_frames a x name outcome)
handed_none a x name Allowed =
    handed_out_none x.address x.number (front x.buffer) (known_as a.policy x.ids name)
handed_none a x name (Denied rule) = tt

announced_again_none : (to : Address) (sent : Sending) (m : Option Message)
    → NoPong (announced_again to sent m)
announced_again_none to sent None = tt
announced_again_none to sent (Some m) = (
  unlike (frame.Register (record { topic_id = sent.topic_id; msg_id = sent.msg_id; name = m.name })) refl refl,
  tt,
)

repeated_out_none : (to : Address) (b : Buffer) (open_one : Option Exchange)
    → NoPong (repeated_outs to b open_one)
repeated_out_none to b None = tt
repeated_out_none to b (Some (Announcing sent)) = announced_again_none to sent (slice_get b.waiting 0)
repeated_out_none to b (Some (Acknowledging sent k m)) =
    let flags : Flags = record (publish_flags m k) { dup = true } in (
      unlike (frame.Publish (record {
        flags = flags;
        topic_id = sent.topic_id;
        msg_id = sent.msg_id;
        payload = m.payload;
      })) refl refl,
      tt,
    )

repeated_none : (x : Client) (outcome : Outcome) → NoPong (repeated_frames x outcome)
repeated_none x Allowed = repeated_out_none x.address x.buffer x.buffer.exchange
repeated_none x (Denied rule) = tt

-- ---- each note

frames_none : (a : Around) (dropped : List Release) (x : Client) (said : Decision)
    → NoPong (frames_of a dropped x said)
frames_none a dropped x (note.Left id) = farewell_none (request_of a.cause) x.address
frames_none a dropped x (note.Register who name outcome) = replied_none a.cause x name outcome
frames_none a dropped x (note.Publish who name outcome) = replied_none a.cause x name outcome
frames_none a dropped x (note.Subscribe who filter outcome) = replied_none a.cause x filter outcome
frames_none a dropped x (note.Unsubscribe who filter outcome) =
    both_none (dropped_with dropped x.id filter) (replied a.cause x filter outcome)
    (dropped_none dropped x.id filter)
    (replied_none a.cause x filter outcome)
frames_none a dropped x (note.Will who name outcome) = replied_none a.cause x name outcome
frames_none a dropped x (note.Frame who outcome) = replied_none a.cause x None outcome
frames_none a dropped x (note.End id filter outcome) = dropped_none dropped x.id (Some filter)
frames_none a dropped x (note.Announce id name) = (
  unlike (frame.Register (record {
    topic_id = id_for name x.ids;
    msg_id = number_after x.number;
    name = name;
  })) refl refl,
  tt,
)
frames_none a dropped x (note.Hand id name outcome) = handed_none a x name outcome
frames_none a dropped x (note.Connect id outcome) = tt
frames_none a dropped x (note.Retry id name outcome) = repeated_none x outcome
frames_none a dropped x (note.Forward who name outcome) = tt
frames_none a dropped x (note.Again who name outcome) = tt
frames_none a dropped x (note.Lost id) = tt
frames_none a dropped x note.Outbox = tt

pub spell_none : (a : Around) (dropped : List Release) (x : Client) (notes : List Decision)
    → NoPong (spell a dropped x notes)
spell_none a dropped x [] = tt
spell_none a dropped x (said ∷ notes) =
    both_none (frames_of a dropped x said) (spell a dropped (note_by a said x) notes)
    (frames_none a dropped x said)
    (spell_none a dropped (note_by a said x) notes)

-- ---- where no client is

pub stranger_none : (from : Address) (request : Request) → NoPong (stranger_to from request)
stranger_none from (Untaken message) = tt
stranger_none from (ToPing client) = dismissed_none from
stranger_none from ToLeave = dismissed_none from
stranger_none from (ToSleep duration) = dismissed_none from
stranger_none from (ToRegister r) = dismissed_none from
stranger_none from (ToPublish p) = dismissed_none from
stranger_none from (ToPublishOnce p) = dismissed_none from
stranger_none from (ToRelease n) = dismissed_none from
stranger_none from (ToSubscribe r) = dismissed_none from
stranger_none from (ToUnsubscribe r) = dismissed_none from
stranger_none from (ToConfirm r) = dismissed_none from
stranger_none from (ToAcknowledge r) = dismissed_none from
stranger_none from (ToState statement) = dismissed_none from
