-- What a client did not answer in time is sent again, or is over (MQTT-SN 1.2, 6.13), with no notes.
use Rattle.std.specs.Prelude.{ℕ, List, [], ◌∷◌, Option, Some, None}
use Rattle.sng_grants.specs.declared.policy.Policy.{Policy}
use Rattle.sng_queue.specs.Messages.{Message}
use Rattle.sng_queue.specs.declared.kind.TopicIdKind.{TopicIdKind}
use Rattle.sng_queue.specs.declared.exchange.Exchange.{Exchange}
use Rattle.sng_queue.specs.declared.exchange.Exchange.TheVariants.{Announcing, Acknowledging}
use Rattle.sng_queue.specs.declared.exchange.Sending.{Sending}
use Rattle.sng_frames.specs.Writing.{written}
use Rattle.sng_frames.specs.declared.frame.SnFrame.TheVariants as frame
use Rattle.sng_book.specs.declared.address.Address.{Address}
use Rattle.sng_book.specs.declared.decision.Decision.TheVariants as note
use Rattle.sng_book.specs.declared.outcome.Outcome.{Outcome}
use Rattle.sng_book.specs.declared.outcome.Outcome.TheVariants.{Allowed, Denied}
use Rattle.sng_book.specs.declared.out.Out.{Out}
use Rattle.sng_book.specs.declared.out.Out.TheVariants.{Send, Note}
use Rattle.sng_history.specs.Clients.{Client}
use Rattle.sng_history.specs.Handing.{handed_again}
use Rattle.sng_history.specs.Outgoing.{receive}
use Rattle.sng_sessions.specs.Handed.{handed_by}
use Rattle.sng_sessions.specs.Moving.{moved_at}
use Rattle.sng_sessions.specs.Sleeping.{changed}
use Rattle.sng_sessions.specs.declared.sleeping.Change.TheVariants.{Repeats, Closes, Drains}
use Rattle.sng_turns.specs.Serving.{over_plan, serving_outs}
use Rattle.sng_turns.specs.declared.again.Retried.{Retried}
use Rattle.sng_turns.specs.declared.again.Retried.TheVariants.{Nothing, Sent, Over}

-- ---- an announcement

abbrev pub register_again : Address → Sending → List ℕ → Out
register_again to sent name =
    Send to (written (frame.Register
    (record { topic_id = sent.topic_id; msg_id = sent.msg_id; name = name })))

-- its message is judged so
abbrev pub announced_by : Policy → Client → Sending → Message → Outcome → List Out
announced_by policy x sent m Allowed =
    Note (note.Retry x.id m.name Allowed) ∷ register_again x.address sent m.name ∷ []
announced_by policy x sent m (Denied rule) =
    Note (note.Hand x.id m.name (Denied rule)) ∷ serving_outs policy x.phase 0 1 x

abbrev pub announced_to : Policy → Client → Outcome → Retried
announced_to policy x Allowed = Sent
announced_to policy x (Denied rule) = Over (over_plan policy 0 1 x)

-- it is about the front
abbrev pub announced_outs : Policy → Client → Sending → List Message → List Out
announced_outs policy x sent [] = []
announced_outs policy x sent (m ∷ waiting) = announced_by policy x sent m (receive policy x.id m.name)

abbrev pub announced_comes : Policy → Client → List Message → Retried
announced_comes policy x [] = Nothing
announced_comes policy x (m ∷ waiting) = announced_to policy x (receive policy x.id m.name)

-- ---- a message that was handed over

abbrev pub handed_outs_by : Policy → Client → Sending → TopicIdKind → Message → Outcome → List Out
handed_outs_by policy x sent k m Allowed =
    Note (note.Retry x.id m.name Allowed) ∷ handed_again x.address sent k m ∷ []
handed_outs_by policy x sent k m (Denied rule) =
    Note (note.Retry x.id m.name (Denied rule)) ∷ serving_outs policy x.phase 0 0 x

abbrev pub handed_to : Policy → Client → Outcome → Retried
handed_to policy x Allowed = Sent
handed_to policy x (Denied rule) = Over (over_plan policy 0 0 x)

abbrev pub handed_again_outs : Policy → Client → Sending → TopicIdKind → Message → List Out
handed_again_outs policy x sent k m = handed_outs_by policy x sent k m (receive policy x.id m.name)

abbrev pub handed_again_comes : Policy → Client → Message → Retried
handed_again_comes policy x m = handed_to policy x (receive policy x.id m.name)

-- ---- what is open

abbrev pub exchange_outs : Policy → Client → Option Exchange → List Out
exchange_outs policy x None = []
exchange_outs policy x (Some (Announcing sent)) = announced_outs policy x sent x.buffer.waiting
exchange_outs policy x (Some (Acknowledging sent k m)) = handed_again_outs policy x sent k m

abbrev pub exchange_comes : Policy → Client → Option Exchange → Retried
exchange_comes policy x None = Nothing
exchange_comes policy x (Some (Announcing sent)) = announced_comes policy x x.buffer.waiting
exchange_comes policy x (Some (Acknowledging sent k m)) = handed_again_comes policy x m

-- ---- what came of it is carried out

abbrev pub retried_clients : ℕ → ℕ → Retried → List Client → List Client
retried_clients clock place Nothing xs = xs
retried_clients clock place Sent xs = moved_at place (changed clock Repeats) xs
retried_clients clock place (Over handed) xs =
    moved_at place (changed clock Drains)
    (moved_at place (handed_by clock handed) (moved_at place (changed clock Closes) xs))
