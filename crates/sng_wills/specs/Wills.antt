-- The dialogue about a will: how far it has come, and the will that stands meanwhile (MQTT-SN 1.2, 6.2 and
-- 6.4).
use Rattle.std.specs.Prelude.{ℕ, Bool, true, false, List, [], Some, None, Ok, Err, if◌then◌else◌}
use Rattle.std.specs.declared.option.Option.{Option}
use Rattle.std.specs.declared.result.Result.{Result}
use Rattle.std.specs.Option.{option_map}
use Rattle.sng_text.specs.declared.qos.Qos.{Qos}
use Rattle.sng_wills.specs.declared.will.Will.{Will}
use Rattle.sng_wills.specs.declared.will.StatedTopic.{StatedTopic}
use Rattle.sng_wills.specs.declared.will.Stage.{Stage}
use Rattle.sng_wills.specs.declared.will.Stage.TheVariants.{Closed, TopicAwaited, MessageAwaited}
use Rattle.sng_wills.specs.declared.fault.WillFault.{WillFault}
use Rattle.sng_wills.specs.declared.fault.WillFault.TheVariants.{OutOfTurn}

-- how far the dialogue has come, and the will, where there is one
pub record Wills : Type 0 where
  pub stage : Stage
  pub will : Option Will

-- what a WILLTOPIC or a WILLTOPICUPD states
abbrev pub stated_topic : List ℕ → Qos → Bool → StatedTopic
stated_topic topic qos retain = record { topic = topic; qos = qos; retain = retain }

-- the will of a stated topic and a message
abbrev pub will_of : StatedTopic → List ℕ → Will
will_of stated message =
    record { topic = stated.topic; payload = message; qos = stated.qos; retain = stated.retain }

-- the will's message, which is empty where there is no will
abbrev pub message_of : Option Will → List ℕ
message_of None = []
message_of (Some will) = will.payload

-- no dialogue is open
abbrev pub is_closed : Stage → Bool
is_closed Closed = true
is_closed _ = false

-- where a topic is awaited and this one is stated, a message is awaited next
abbrev pub topic_stated : StatedTopic → Stage → Option Stage
topic_stated stated TopicAwaited = Some (MessageAwaited stated)
topic_stated stated _ = None

-- where a message is awaited and this one comes, the will is of it and the topic that was stated
abbrev pub message_stated : List ℕ → Stage → Option Will
message_stated message (MessageAwaited stated) = Some (will_of stated message)
message_stated message _ = None

-- after a WILLTOPIC; the will stays. None where it is out of turn
abbrev pub after_topic : StatedTopic → Wills → Option Wills
after_topic stated wills =
    option_map (λ stage. record wills { stage = stage }) (topic_stated stated wills.stage)

-- after a WILLMSG, which sets the will and closes the dialogue. None where it is out of turn
abbrev pub after_message : List ℕ → Wills → Option Wills
after_message message wills =
    option_map (λ will. record { stage = Closed; will = Some will }) (message_stated message wills.stage)

-- after a WILLTOPICUPD, which replaces all but the message. None where a dialogue is open
abbrev pub after_topic_update : StatedTopic → Wills → Option Wills
after_topic_update stated wills =
    if is_closed wills.stage
    then Some (record wills { will = Some (will_of stated (message_of wills.will)) })
    else None

-- after a WILLMSGUPD, which replaces the will's message. None where a dialogue is open or there is no will
abbrev pub after_message_update : List ℕ → Wills → Option Wills
after_message_update message wills =
    if is_closed wills.stage
    then option_map (λ will. record wills { will = Some (record will { payload = message }) }) wills.will
    else None

-- the answer to a frame that states this: it is given back where the frame is out of turn
abbrev pub answer : {T : Type 0} → T → Option Wills → Result (Unit {0}) (WillFault T)
answer stated (Some after) = Ok tt
answer stated None = Err (OutOfTurn stated)
