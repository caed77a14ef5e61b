-- What a client states of its will, once it is allowed, and what that does to the client (MQTT-SN 1.2, 6.3
-- and 6.4); and how a CONNECT opens the dialogue about it.
use Rattle.std.specs.Prelude.{ℕ, Bool, unwrap_or, if◌then◌else◌}
use Rattle.sng_states.specs.States.{has_session}
use Rattle.sng_states.specs.declared.state.ClientState.{ClientState}
use Rattle.sng_states.specs.declared.state.ClientState.TheVariants.{Dialogue, Active}
use Rattle.sng_wills.specs.Wills.{Wills, after_topic, after_message, after_topic_update, after_message_update}
use Rattle.sng_wills.specs.declared.will.Stage.TheVariants.{Closed, TopicAwaited}
use Rattle.sng_history.specs.Clients.{Client, no_will}
use Rattle.sng_sessions.specs.declared.wills.Stating.{Stating}
use Rattle.sng_sessions.specs.declared.wills.Stating.TheVariants.{NoWill, Topic, Message, Deletion, NewTopic}
use Rattle.sng_sessions.specs.declared.wills.Stating.TheVariants.{NewMessage}

-- a CONNECT with Will opens a dialogue
abbrev pub phase_opened : Bool → ClientState
phase_opened will = if will then Dialogue else Active

-- a clean session has no will yet
abbrev pub wills_kept : Bool → Wills → Wills
wills_kept clean wills = if clean then no_will else record wills { stage = Closed }

abbrev pub wills_opened : Bool → Bool → Wills → Wills
wills_opened clean will wills =
    if will then record (wills_kept clean wills) { stage = TopicAwaited } else wills_kept clean wills

-- the dialogue is over, where there is a session
abbrev pub phase_over : ClientState → ClientState
phase_over phase = if has_session phase then Active else phase

abbrev pub phase_stated : Stating → ClientState → ClientState
phase_stated NoWill phase = phase_over phase
phase_stated (Message message) phase = phase_over phase
phase_stated (Topic stated) phase = phase
phase_stated Deletion phase = phase
phase_stated (NewTopic stated) phase = phase
phase_stated (NewMessage message) phase = phase

-- what is out of turn changes nothing
abbrev pub wills_stated : Stating → Wills → Wills
wills_stated NoWill wills = no_will
wills_stated Deletion wills = no_will
wills_stated (Topic stated) wills = unwrap_or (after_topic stated wills) wills
wills_stated (Message message) wills = unwrap_or (after_message message wills) wills
wills_stated (NewTopic stated) wills = unwrap_or (after_topic_update stated wills) wills
wills_stated (NewMessage message) wills = unwrap_or (after_message_update message wills) wills

-- the client is heard, and its will is as it states
abbrev pub stating_at : ℕ → Stating → Client → Client
stating_at clock stating x =
    record x { heard = clock; phase = phase_stated stating x.phase; wills = wills_stated stating x.wills }
