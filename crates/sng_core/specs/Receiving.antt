-- What a PUBLISH at QoS 2 and a PUBREL let out and lead to, with no notes (MQTT-SN 1.2, 6.6; MQTT 3.1.1,
-- 4.3.3).
use Rattle.std.specs.Prelude.{ℕ, List, [], ◌∷◌, if◌then◌else◌, Option, Some, None}
use Rattle.sng_states.specs.States.{is_active}
use Rattle.sng_frames.specs.declared.frame.SnFrame.TheVariants as frame
use Rattle.sng_frames.specs.declared.messages.publish.Publish.{Publish}
use Rattle.sng_outbox.specs.declared.item.Item.{Item}
use Rattle.sng_outbox.specs.declared.item.Publication.{Publication}
use Rattle.sng_book.specs.declared.address.Address.{Address}
use Rattle.sng_book.specs.declared.decision.Decision.TheVariants as note
use Rattle.sng_book.specs.declared.decision.Who.TheVariants as who
use Rattle.sng_book.specs.declared.outcome.Denial.TheVariants.{Form}
use Rattle.sng_book.specs.declared.outcome.FormDenial.TheVariants.{OutOfTurn}
use Rattle.sng_book.specs.declared.outcome.Outcome.{Outcome}
use Rattle.sng_book.specs.declared.outcome.Outcome.TheVariants.{Allowed, Denied}
use Rattle.sng_book.specs.declared.out.Out.{Out}
use Rattle.sng_book.specs.declared.out.Out.TheVariants.{Note}
use Rattle.sng_history.specs.Clients.{Client}
use Rattle.sng_history.specs.State.{State}
use Rattle.sng_history.specs.Verdicts.{is_repeat, once_room}
use Rattle.sng_history.specs.Answers.{refused, pubrec, pubcomp}
use Rattle.sng_sessions.specs.Moving.{moved_at}
use Rattle.sng_sessions.specs.Sleeping.{received_at}
use Rattle.sng_core.specs.declared.verdict.Judged.{Judged}
use Rattle.sng_core.specs.Forms.{client_at, heard_at, joined, broken_outs, publish_judged, publication_by}
use Rattle.sng_core.specs.Forms.{items_of}

-- ---- one that is no repeat

-- how it comes out in this state
abbrev pub once_judged : State → Publish → Client → Judged
once_judged s p x = publish_judged s.policy (once_room s x p) x p.flags.id_type p.topic_id

-- the PUBREC, or the PUBACK where it is denied
abbrev pub once_reply : Address → Publish → Outcome → List Out
once_reply to p Allowed = pubrec to p.msg_id ∷ []
once_reply to p (Denied rule) = refused to (frame.Publish p) rule

abbrev pub once_noted : Publish → Client → Judged → List Out
once_noted p x j = Note (note.Publish (who.Client x.id) j.name j.outcome) ∷ once_reply x.address p j.outcome

-- what joins what waits, where it was allowed
abbrev pub once_asked : Publish → Client → Judged → Option Publication
once_asked p x j = publication_by x.id p j.name j.outcome

-- the client is heard, and its MsgId is open where the publish joins what waits
abbrev pub once_moved : ℕ → Publish → Option Publication → Client → Client
once_moved clock p None x = heard_at clock x
once_moved clock p (Some publication) x = received_at clock p.msg_id x

abbrev pub first_outs : State → Publish → Client → List Out
first_outs s p x = once_noted p x (once_judged s p x)

abbrev pub first_items : State → Publish → Client → List Item
first_items s p x = items_of (once_asked p x (once_judged s p x))

abbrev pub first_moved : State → Publish → Client → Client
first_moved s p x = once_moved s.clock p (once_asked p x (once_judged s p x)) x

-- the state after that of the client at the place
abbrev pub first_next : State → Publish → ℕ → State
first_next s p place =
    record (joined s (first_items s p (client_at s.clients place)))
    { clients = moved_at place (first_moved s p) s.clients }

-- ---- each at QoS 2

-- one that repeats what was received is answered alone, and its client is heard
abbrev pub once_outs : State → Publish → Client → List Out
once_outs s p x = if is_repeat p x then pubrec x.address p.msg_id ∷ [] else first_outs s p x

abbrev pub repeat_next : State → ℕ → State
repeat_next s place = record s { clients = moved_at place (heard_at s.clock) s.clients }

-- the state after the PUBLISH of the client at this place, or of nobody
abbrev pub once_next : State → Publish → Option ℕ → State
once_next s p None = s
once_next s p (Some place) =
    if is_repeat p (client_at s.clients place) then repeat_next s place else first_next s p place

-- ---- a PUBREL

abbrev pub released_outs : ℕ → Client → List Out
released_outs msg_id x =
    if is_active x.phase then pubcomp x.address msg_id ∷ [] else broken_outs (Form OutOfTurn) x
