-- The table of a client's states: for each cue the states in which it has a place, and the state that it
-- leads to (MQTT-SN 1.2, 6.14).
use Rattle.std.specs.Prelude.{Bool, true, false, None, Some, if◌then◌else◌}
use Rattle.std.specs.declared.option.Option.{Option}
use Rattle.sng_states.specs.declared.state.ClientState.{ClientState}
use Rattle.sng_states.specs.declared.state.ClientState.TheVariants.{Dialogue, Active, Asleep, Awake}
use Rattle.sng_states.specs.declared.state.ClientState.TheVariants.{Disconnected, Lost}
use Rattle.sng_states.specs.declared.state.Cue.{Cue}
use Rattle.sng_states.specs.declared.state.Cue.TheVariants.{Connect, ConnectWill, WillDone, WillDenied, Sleep}
use Rattle.sng_states.specs.declared.state.Cue.TheVariants.{Wake, Drained, Leave, Lapse}

-- the dialogue about a will is open
abbrev pub in_dialogue : ClientState → Bool
in_dialogue Dialogue = true
in_dialogue _ = false

-- it is connected, and neither is a dialogue open nor does it sleep
abbrev pub is_active : ClientState → Bool
is_active Active = true
is_active Dialogue = false
is_active Asleep = false
is_active Awake = false
is_active Disconnected = false
is_active Lost = false

abbrev pub is_asleep : ClientState → Bool
is_asleep Asleep = true
is_asleep _ = false

abbrev pub is_awake : ClientState → Bool
is_awake Awake = true
is_awake _ = false

-- the gateway holds a session with the client at its address
abbrev pub has_session : ClientState → Bool
has_session Disconnected = false
has_session Lost = false
has_session _ = true

-- the broker's messages for the client wait for it: there is a session, and no dialogue is open
abbrev pub is_due_messages : ClientState → Bool
is_due_messages Active = true
is_due_messages Asleep = true
is_due_messages Awake = true
is_due_messages _ = false

-- messages that wait are handed over
abbrev pub takes_messages : ClientState → Bool
takes_messages Active = true
takes_messages Awake = true
takes_messages _ = false

-- the cue has a place in the state
abbrev pub has_place : Cue → ClientState → Bool
has_place Connect state = true
has_place ConnectWill state = true
has_place WillDone state = in_dialogue state
has_place WillDenied state = in_dialogue state
has_place Sleep state = is_due_messages state
has_place Wake state = is_asleep state
has_place Drained state = is_awake state
has_place Leave state = has_session state
has_place Lapse state = has_session state

-- the state to which the cue leads, whatever the state before
abbrev pub to : Cue → ClientState
to Connect = Active
to ConnectWill = Dialogue
to WillDone = Active
to WillDenied = Disconnected
to Sleep = Asleep
to Wake = Awake
to Drained = Asleep
to Leave = Disconnected
to Lapse = Lost

-- the state after the cue; a cue without a place in the state leads nowhere
abbrev pub next : ClientState → Cue → Option ClientState
next state cue = if has_place cue state then Some (to cue) else None
