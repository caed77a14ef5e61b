-- A client's will as what it stated last, without stages (MQTT-SN 1.2, 6.2 and 6.4).
use Rattle.std.specs.Prelude.{ℕ, List, [], ◌∷◌, Some, None, unwrap_or, is_some, ◌&&◌, if◌then◌else◌}
use Rattle.std.specs.declared.option.Option.{Option}
use Rattle.sng_wills.specs.declared.will.StatedTopic.{StatedTopic}
use Rattle.sng_wills.specs.declared.will.Stage.{Stage}
use Rattle.sng_wills.specs.declared.will.Stage.TheVariants.{Closed, TopicAwaited, MessageAwaited}
use Rattle.sng_wills.specs.Wills.{Wills, is_closed, after_topic, after_message, after_topic_update}
use Rattle.sng_wills.specs.Wills.{after_message_update}

-- what happens to a dialogue
pub data Action : Type 0 where
  Start : Action
  Stop : Action
  Clear : Action
  Topic : StatedTopic → Action
  Message : List ℕ → Action
  UpdateTopic : StatedTopic → Action
  UpdateMessage : List ℕ → Action

-- the dialogue after an action; a frame out of turn changes nothing
abbrev pub after : Action → Wills → Wills
after Start wills = record wills { stage = TopicAwaited }
after Stop wills = record wills { stage = Closed }
after Clear wills = record { stage = Closed; will = None }
after (Topic stated) wills = unwrap_or (after_topic stated wills) wills
after (Message message) wills = unwrap_or (after_message message wills) wills
after (UpdateTopic stated) wills = unwrap_or (after_topic_update stated wills) wills
after (UpdateMessage message) wills = unwrap_or (after_message_update message wills) wills

-- the dialogue after actions, of which the newest stands first
abbrev pub after_all : List Action → Wills
after_all [] = record { stage = Closed; will = None }
after_all (action ∷ earlier) = after action (after_all earlier)

-- the topic of which a dialogue awaits the message
abbrev pub awaited_topic : Stage → Option StatedTopic
awaited_topic (MessageAwaited stated) = Some stated
awaited_topic _ = None

-- the first of the two that there is
abbrev pub later : Option StatedTopic → Option StatedTopic → Option StatedTopic
later None earlier = earlier
later (Some stated) earlier = Some stated

-- the last topic since the last deletion: one of a WILLTOPIC counts once the message of its dialogue came
abbrev pub last_topic : List Action → Option StatedTopic
last_topic [] = None
last_topic (Clear ∷ earlier) = None
last_topic (Message message ∷ earlier) = later (awaited_topic (after_all earlier).stage) (last_topic earlier)
last_topic (UpdateTopic stated ∷ earlier) =
    if is_closed (after_all earlier).stage then Some stated else last_topic earlier
last_topic (_ ∷ earlier) = last_topic earlier

-- the last message since the last deletion, or else the empty one
abbrev pub last_message : List Action → List ℕ
last_message [] = []
last_message (Clear ∷ earlier) = []
last_message (Message message ∷ earlier) =
    if is_some (awaited_topic (after_all earlier).stage) then message else last_message earlier
last_message (UpdateMessage message ∷ earlier) =
    if is_closed (after_all earlier).stage && is_some (last_topic earlier)
    then message
    else last_message earlier
last_message (_ ∷ earlier) = last_message earlier
