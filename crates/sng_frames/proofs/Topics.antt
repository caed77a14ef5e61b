-- The test of a frame's topic, and what it says.
use Rattle.std.proofs.Common.{◌≡◌, true}
use Rattle.sng_frames.specs.declared.frame.SnFrame.{SnFrame}
use Rattle.sng_frames.specs.declared.frame.SnFrame.TheVariants as variants
use Rattle.sng_frames.specs.Grammar.{TopicFits}
use Rattle.sng_frames.specs.Parts.{topic_fits}
use Rattle.sng_frames.proofs.PartReading.{FitsType-fits}

pub TopicFits-fits : (frame : SnFrame) → topic_fits frame ≡ true → TopicFits frame
TopicFits-fits (variants.Connect x) is = tt
TopicFits-fits (variants.ConnectAck x) is = tt
TopicFits-fits variants.WillTopicRequest is = tt
TopicFits-fits (variants.WillTopic x) is = tt
TopicFits-fits variants.WillMessageRequest is = tt
TopicFits-fits (variants.WillMessage x) is = tt
TopicFits-fits (variants.Register x) is = tt
TopicFits-fits (variants.RegisterAck x) is = tt
TopicFits-fits (variants.Publish x) is = tt
TopicFits-fits (variants.PublishAck x) is = tt
TopicFits-fits (variants.PublishComplete x) is = tt
TopicFits-fits (variants.PublishReceived x) is = tt
TopicFits-fits (variants.PublishRelease x) is = tt
TopicFits-fits (variants.Subscribe x) is = FitsType-fits x.flags.id_type x.topic is
TopicFits-fits (variants.SubscribeAck x) is = tt
TopicFits-fits (variants.Unsubscribe x) is = FitsType-fits x.flags.id_type x.topic is
TopicFits-fits (variants.UnsubscribeAck x) is = tt
TopicFits-fits (variants.PingRequest x) is = tt
TopicFits-fits variants.PingResponse is = tt
TopicFits-fits (variants.Disconnect x) is = tt
TopicFits-fits (variants.WillTopicUpdate x) is = tt
TopicFits-fits (variants.WillTopicResponse x) is = tt
TopicFits-fits (variants.WillMessageUpdate x) is = tt
TopicFits-fits (variants.WillMessageResponse x) is = tt
