-- What a client is served, with no notes: all that may leave of what waits for it, and PINGRESP where it is
-- awake and nothing is left (MQTT-SN 1.2, 6.10 and 6.14).
use Rattle.std.specs.Prelude.{ℕ, ◌&&◌, not, List, [], ◌∷◌, ◌++◌, drop, if◌then◌else◌}
use Rattle.sng_grants.specs.declared.policy.Policy.{Policy}
use Rattle.sng_states.specs.States.{is_awake}
use Rattle.sng_states.specs.declared.state.ClientState.{ClientState}
use Rattle.sng_book.specs.declared.address.Address.{Address}
use Rattle.sng_book.specs.declared.out.Out.{Out}
use Rattle.sng_history.specs.Answers.{pong}
use Rattle.sng_history.specs.Clients.{Client}
use Rattle.sng_sessions.specs.declared.handing.Handed.{Handed}
use Rattle.sng_turns.specs.declared.serve.Settled.{Settled}
use Rattle.sng_turns.specs.declared.serve.Settled.TheVariants.{Nothing, Id, Front}
use Rattle.sng_turns.specs.HandingOver.{is_open, hand_outs, hand_plan}

-- what is settled before: the id that was confirmed (0 is none), and so many of those that wait
abbrev pub more_by : Settled → ℕ
more_by Nothing = 0
more_by (Id id) = id
more_by Front = 0

abbrev pub first_by : Settled → ℕ
first_by Nothing = 0
first_by (Id id) = 0
first_by Front = 1

-- the hand-over to a client, once it has confirmed the id (0 is none), of what waits from this place on
abbrev pub over_outs : Policy → ℕ → ℕ → Client → List Out
over_outs policy more first x =
    hand_outs policy x.id x.address x.ids more x.number (drop first x.buffer.waiting)

abbrev pub over_plan : Policy → ℕ → ℕ → Client → Handed
over_plan policy more first x = hand_plan policy x.id x.ids more first (drop first x.buffer.waiting)

-- where no exchange begins nothing is left
abbrev pub told_left : ClientState → Address → Handed → List Out
told_left phase to h = if is_awake phase && not (is_open h.opens) then pong to ∷ [] else []

abbrev pub serving_outs : Policy → ClientState → ℕ → ℕ → Client → List Out
serving_outs policy phase more first x =
    over_outs policy more first x ++ told_left phase x.address (over_plan policy more first x)
