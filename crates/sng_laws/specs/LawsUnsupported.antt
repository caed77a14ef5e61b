-- The messages that are not supported, and how each is noted.
use Rattle.std.specs.Prelude.{ℕ, Bool, true, false, List, [], ◌∷◌}
use Rattle.sng_frames.specs.declared.frame.SnFrame.{SnFrame}
use Rattle.sng_frames.specs.declared.frame.SnFrame.TheVariants as frame
use Rattle.sng_book.specs.declared.address.Address.{Address}
use Rattle.sng_book.specs.declared.decision.Decision.TheVariants as note
use Rattle.sng_book.specs.declared.decision.Who.TheVariants as who
use Rattle.sng_book.specs.declared.outcome.Denial.TheVariants.{Form}
use Rattle.sng_book.specs.declared.outcome.FormDenial.TheVariants.{NotSupported}
use Rattle.sng_book.specs.declared.outcome.Outcome.TheVariants.{Denied}
use Rattle.sng_book.specs.declared.out.Out.{Out}
use Rattle.sng_book.specs.declared.out.Out.TheVariants.{Note}

-- all but CONNECT, REGISTER, PUBLISH, PUBREL, SUBSCRIBE, UNSUBSCRIBE, REGACK, PUBACK, PINGREQ, DISCONNECT, and
-- what a client states of its will
abbrev pub is_unsupported : SnFrame → Bool
is_unsupported (frame.Connect connect) = false
is_unsupported (frame.Register register) = false
is_unsupported (frame.PingRequest client) = false
is_unsupported (frame.Disconnect duration) = false
is_unsupported (frame.Publish p) = false
is_unsupported (frame.ConnectAck code) = true
is_unsupported frame.WillTopicRequest = true
is_unsupported (frame.WillTopic topic) = false
is_unsupported frame.WillMessageRequest = true
is_unsupported (frame.WillMessage message) = false
is_unsupported (frame.RegisterAck answer) = false
is_unsupported (frame.PublishAck answer) = false
is_unsupported (frame.PublishComplete id) = true
is_unsupported (frame.PublishReceived id) = true
is_unsupported (frame.PublishRelease id) = false
is_unsupported (frame.Subscribe request) = false
is_unsupported (frame.SubscribeAck answer) = true
is_unsupported (frame.Unsubscribe request) = false
is_unsupported (frame.UnsubscribeAck id) = true
is_unsupported frame.PingResponse = true
is_unsupported (frame.WillTopicUpdate topic) = false
is_unsupported (frame.WillTopicResponse code) = true
is_unsupported (frame.WillMessageUpdate message) = false
is_unsupported (frame.WillMessageResponse code) = true

-- it is noted alone: by nobody, and of a client at the address
abbrev pub unsupported_stranger : Address → List Out
unsupported_stranger from = Note (note.Frame (who.Address from) (Denied (Form NotSupported))) ∷ []

abbrev pub unsupported_answer : List ℕ → List Out
unsupported_answer id = Note (note.Frame (who.Client id) (Denied (Form NotSupported))) ∷ []
