-- What the rows show of a client's will: the topic and the message that it stated last, and how far the
-- dialogue about it has come (MQTT-SN 1.2, 6.3 and 6.4).
use Rattle.std.specs.Prelude.{ℕ, ◌&&◌, List, [], ◌∷◌, if◌then◌else◌, Option, Some, None}
use Rattle.std.specs.Option.{option_map}
use Rattle.std.specs.Str.{bytes_eq}
use Rattle.sng_text.specs.declared.qos.Qos.{Qos}
use Rattle.sng_text.specs.declared.qos.Qos.TheVariants.{AtMostOnce, AtLeastOnce}
use Rattle.sng_states.specs.declared.state.ClientState.{ClientState}
use Rattle.sng_states.specs.declared.state.ClientState.TheVariants.{Dialogue}
use Rattle.sng_states.specs.declared.state.ClientState.TheVariants.{Lost}
use Rattle.sng_wills.specs.declared.will.Stage.{Stage}
use Rattle.sng_wills.specs.declared.will.Stage.TheVariants.{Closed, TopicAwaited, MessageAwaited}
use Rattle.sng_wills.specs.declared.will.StatedTopic.{StatedTopic}
use Rattle.sng_wills.specs.declared.will.Will.{Will}
use Rattle.sng_frames.specs.declared.qos.FrameQos.{FrameQos}
use Rattle.sng_frames.specs.declared.qos.FrameQos.TheVariants as qos
use Rattle.sng_frames.specs.declared.messages.connect.Connect.{Connect}
use Rattle.sng_frames.specs.declared.messages.will.WillTopic.{WillTopic}
use Rattle.sng_book.specs.Denials.{is_allowed}
use Rattle.sng_book.specs.declared.decision.Decision.{Decision}
use Rattle.sng_book.specs.declared.decision.Decision.TheVariants as note
use Rattle.sng_book.specs.declared.out.Out.{Out}
use Rattle.sng_book.specs.declared.out.Out.TheVariants.{Send, Wire, Note}
use Rattle.sng_book.specs.declared.row.Row.{Row}
use Rattle.sng_history.specs.Causes.{Statement, StatesTopic, StatesMessage, UpdatesTopic, UpdatesMessage}
use Rattle.sng_laws.specs.ViewsMessages.{Message, message_at, statement_in, connect_in}
use Rattle.sng_laws.specs.ViewsClients.{speaks_of}

-- what a client stated of its will: the topic whose message is awaited in the dialogue; and since the will
-- was deleted last, the last topic, where there is one, and the last message, else the empty one
pub record Stating : Type 0 where
  pub awaited : Option StatedTopic
  pub topic : Option StatedTopic
  pub message : List ℕ

abbrev pub nothing_stated : Stating
nothing_stated = record { awaited = None; topic = None; message = [] }

-- QoS 2 is kept as 1, and the bits of QoS -1 as 0
abbrev pub qos_kept : FrameQos → Qos
qos_kept qos.AtMostOnce = AtMostOnce
qos_kept qos.AtLeastOnce = AtLeastOnce
qos_kept qos.ExactlyOnce = AtLeastOnce
qos_kept qos.WithoutSession = AtMostOnce

-- a topic with the QoS and the Retain of its Flags
abbrev pub topic_kept : WillTopic → StatedTopic
topic_kept w = record { topic = w.topic; qos = qos_kept w.flags.qos; retain = w.flags.retain }

abbrev pub or_else : Option StatedTopic → Option StatedTopic → Option StatedTopic
or_else None before = before
or_else (Some topic) before = Some topic

-- a statement that is allowed: a WILLTOPIC counts once its message comes, and one without a topic deletes the
-- will, as does such a WILLTOPICUPD
abbrev pub stating_with : Option Statement → Stating → Stating
stating_with None now = now
stating_with (Some (StatesTopic None)) now = nothing_stated
stating_with (Some (StatesTopic (Some w))) now = record now { awaited = Some (topic_kept w) }
stating_with (Some (StatesMessage message)) now =
    record { awaited = None; topic = or_else now.awaited now.topic; message = message }
stating_with (Some (UpdatesTopic None)) now = nothing_stated
stating_with (Some (UpdatesTopic (Some w))) now = record now { topic = Some (topic_kept w) }
stating_with (Some (UpdatesMessage message)) now = record now { message = message }

abbrev pub breaks_off : Stating → Stating
breaks_off now = record now { awaited = None }

-- a CONNECT that is accepted begins anew, and a clean one deletes the will
abbrev pub stating_anew : Option Connect → Stating → Stating
stating_anew None now = breaks_off now
stating_anew (Some connect) now = if connect.flags.clean then nothing_stated else breaks_off now

-- as a client leaves or is lost the dialogue breaks off
abbrev pub stating_by : Option Message → List ℕ → Decision → Stating → Stating
stating_by m id (note.Connect client outcome) now =
    if bytes_eq id client && is_allowed outcome then stating_anew (connect_in m) now else now
stating_by m id (note.Will whom name outcome) now =
    if speaks_of id whom && is_allowed outcome then stating_with (statement_in m) now else now
stating_by m id (note.Left client) now = if bytes_eq id client then breaks_off now else now
stating_by m id (note.Lost client) now = if bytes_eq id client then breaks_off now else now
stating_by m id other now = now

abbrev pub stating_after : Option Message → List ℕ → List Out → Stating → Stating
stating_after m id [] now = now
stating_after m id (Note said ∷ outs) now = stating_after m id outs (stating_by m id said now)
stating_after m id (Send to datagram ∷ outs) now = stating_after m id outs now
stating_after m id (Wire packet ∷ outs) now = stating_after m id outs now

abbrev pub stating_of : List ℕ → List Row → Stating
stating_of id [] = nothing_stated
stating_of id (row ∷ earlier) = stating_after (message_at row.event) id row.outs (stating_of id earlier)

-- the will of a topic and a message
abbrev pub will_with : List ℕ → StatedTopic → Will
will_with message stated =
    record { topic = stated.topic; payload = message; qos = stated.qos; retain = stated.retain }

-- a client's will is the last topic that it stated, with the last message
abbrev pub will_of : List ℕ → List Row → Option Will
will_of id h = option_map (will_with (stating_of id h).message) (stating_of id h).topic

-- how far the dialogue has come: in its state a topic is awaited, or the message of one
abbrev pub stage_shown : Option ClientState → Option StatedTopic → Stage
stage_shown (Some Dialogue) None = TopicAwaited
stage_shown (Some Dialogue) (Some stated) = MessageAwaited stated
stage_shown other awaited = Closed
