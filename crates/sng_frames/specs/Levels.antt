-- Between the quality of service that a frame states and the one that the gateway grants.
use Rattle.sng_text.specs.declared.qos.Qos.{Qos}
use Rattle.sng_text.specs.declared.qos.Qos.TheVariants as granted
use Rattle.sng_frames.specs.declared.qos.FrameQos.{FrameQos}
use Rattle.sng_frames.specs.declared.qos.FrameQos.TheVariants as stated

-- what a subscription or a will that asks for this level gets
abbrev pub granted_level : FrameQos → Qos
granted_level stated.AtMostOnce = granted.AtMostOnce
granted_level stated.AtLeastOnce = granted.AtLeastOnce
granted_level stated.ExactlyOnce = granted.AtLeastOnce
granted_level stated.WithoutSession = granted.AtMostOnce

-- how a frame states a granted level
abbrev pub stated_level : Qos → FrameQos
stated_level granted.AtMostOnce = stated.AtMostOnce
stated_level granted.AtLeastOnce = stated.AtLeastOnce
