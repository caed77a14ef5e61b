-- What a SUBSCRIBE or an UNSUBSCRIBE names, and what a SUBSCRIBE is granted (MQTT-SN 1.2, 5.4.15 to 5.4.18
-- and 6.9).
use Rattle.std.specs.Prelude.{ℕ, ◌+◌, ◌*◌, ◌==◌, Bool, false, ◌&&◌, not, List, [], ◌∷◌, length}
use Rattle.sng_text.specs.Texts.{is_name}
use Rattle.sng_text.specs.declared.qos.Qos.{Qos}
use Rattle.sng_text.specs.declared.qos.Qos.TheVariants.{AtMostOnce, AtLeastOnce}
use Rattle.sng_frames.specs.declared.flags.TopicIdType.{TopicIdType}
use Rattle.sng_frames.specs.declared.flags.TopicIdType.TheVariants.{Normal, Predefined, Short, Reserved}
use Rattle.sng_frames.specs.declared.qos.FrameQos.{FrameQos}
use Rattle.sng_frames.specs.declared.qos.FrameQos.TheVariants as qos

-- the QoS at which a subscription is granted: messages go to a client at QoS 0 or 1
abbrev pub granted : FrameQos → Qos
granted qos.AtMostOnce = AtMostOnce
granted qos.AtLeastOnce = AtLeastOnce
granted qos.ExactlyOnce = AtLeastOnce
granted qos.WithoutSession = AtMostOnce

-- a text without wildcards is a topic name, and gets a topic id; a name of two octets needs none
abbrev pub gets_id : TopicIdType → List ℕ → Bool
gets_id Normal text = is_name text && not (length text == 2)
gets_id Predefined text = false
gets_id Short text = false
gets_id Reserved text = false

-- the predefined id in the two octets of the topic, the high one first
abbrev pub id_in : List ℕ → ℕ
id_in [] = 0
id_in (high ∷ []) = 0
id_in (high ∷ low ∷ octets) = high * 256 + low
