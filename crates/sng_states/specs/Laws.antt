-- What is right of the table of states.
use Rattle.std.specs.Prelude.{◌≡◌, Bool, true, false, None, Some}
use Rattle.sng_states.specs.States.{next, has_session, is_due_messages, takes_messages}
use Rattle.sng_states.specs.declared.state.ClientState.{ClientState}
use Rattle.sng_states.specs.declared.state.ClientState.TheVariants.{Asleep, Awake}
use Rattle.sng_states.specs.declared.state.Cue.{Cue}
use Rattle.sng_states.specs.declared.state.Cue.TheVariants.{Connect, ConnectWill, Sleep, Wake, Drained}

-- an allowed CONNECT, with a will or without
abbrev pub is_connect : Cue → Bool
is_connect Connect = true
is_connect ConnectWill = true
is_connect _ = false

-- who has no session gets one by a CONNECT, and nothing else moves it
abbrev pub SessionsBeginByConnect : Type 0
SessionsBeginByConnect =
    (state : ClientState) (cue : Cue)
    → has_session state ≡ false → is_connect cue ≡ false → next state cue ≡ None

-- who is awake was asleep and has just asked for what waits
abbrev pub WakingIsFromSleep : Type 0
WakingIsFromSleep =
    (state : ClientState) (cue : Cue) → next state cue ≡ Some Awake → (state ≡ Asleep) × (cue ≡ Wake)

-- messages are handed over only to a client that is due them, and that has a session
abbrev pub MessagesNeedASession : Type 0
MessagesNeedASession =
    (state : ClientState)
    → (takes_messages state ≡ true → is_due_messages state ≡ true)
    × (is_due_messages state ≡ true → has_session state ≡ true)

-- the cues of sleep
abbrev pub is_of_sleep : Cue → Bool
is_of_sleep Sleep = true
is_of_sleep Wake = true
is_of_sleep Drained = true
is_of_sleep _ = false

-- who falls asleep, wakes up or has got all that waited was due messages and still is
abbrev pub SleepKeepsMessages : Type 0
SleepKeepsMessages =
    (state after : ClientState) (cue : Cue)
    → is_of_sleep cue ≡ true
    → next state cue ≡ Some after
    → (is_due_messages state ≡ true) × (is_due_messages after ≡ true)
