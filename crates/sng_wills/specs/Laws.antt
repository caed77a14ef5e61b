-- What is right of a client's will.
use Rattle.std.specs.Prelude.{◌≡◌, ℕ, List, None}
use Rattle.std.specs.Option.{option_map}
use Rattle.sng_wills.specs.declared.will.StatedTopic.{StatedTopic}
use Rattle.sng_wills.specs.Wills.{Wills, will_of, after_topic, after_message}
use Rattle.sng_wills.specs.Stated.{Action, Stop, after, after_all, last_topic, last_message}

-- whatever happened to the dialogue, the will is the last topic with the last message
abbrev pub WillsAreWhatWasStatedLast : Type 0
WillsAreWhatWasStatedLast =
    (actions : List Action)
    → (after_all actions).will
    ≡ option_map (λ stated. will_of stated (last_message actions)) (last_topic actions)

-- a dialogue that was stopped, as the client left or was lost, leaves the will, and no WILLTOPIC or WILLMSG
-- goes on with it
abbrev pub StoppedDialoguesStateNothing : Type 0
StoppedDialoguesStateNothing =
    (wills : Wills)
    → ((after Stop wills).will ≡ wills.will)
    × ((stated : StatedTopic) → after_topic stated (after Stop wills) ≡ None)
    × ((message : List ℕ) → after_message message (after Stop wills) ≡ None)
