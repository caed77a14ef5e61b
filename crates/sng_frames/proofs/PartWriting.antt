-- The variable part that is written is spelled, and it is the only one.
use Rattle.std.proofs.Common.{◌≡◌, ℕ, ◌/◌, ◌%◌, ◌^◌, ◌<◌, List, [], ◌∷◌, Option, Some, None, refl, ap, ◌∙◌}
use Rattle.std.proofs.Common.{arith}
use Rattle.sng_frames.specs.declared.flags.Flags.{Flags}
use Rattle.sng_frames.specs.declared.messages.connect.Connect.{Connect}
use Rattle.sng_frames.specs.declared.frame.SnFrame.{SnFrame}
use Rattle.sng_frames.specs.declared.frame.SnFrame.TheVariants as variants
use Rattle.sng_frames.specs.declared.messages.subscribe.TopicRequest.{TopicRequest}
use Rattle.sng_frames.specs.declared.messages.will.WillTopic.{WillTopic}
use Rattle.sng_frames.specs.FlagsOctet.{flags_octet}
use Rattle.sng_frames.specs.Grammar.{IsNumber, SpellsIds, SpellsFlaggedIds, SpellsConnect, SpellsNumber}
use Rattle.sng_frames.specs.Grammar.{SpellsWillTopic}
use Rattle.sng_frames.specs.Grammar.{FitsType, SpellsTopicRequest}
use Rattle.sng_frames.specs.Grammar.{SpellsPing, SpellsDuration, SpellsPart, IsInRange}
use Rattle.sng_frames.specs.Grammar.{TopicFits}
use Rattle.sng_frames.specs.Writing.{number_then, connect_part, code_part, will_topic_part}
use Rattle.sng_frames.specs.Writing.{topic_request_part}
use Rattle.sng_frames.specs.Writing.{ping_part, duration_part, part_of}

-- a number in its two octets
pub IsNumber-halves : (n : ℕ) → n < 2 ^ 16 → IsNumber n (n / 256) (n % 256)
IsNumber-halves n fits = record { high_fits = omega arith; low_fits = omega arith; value = omega arith }

pub number_then-halves : (n high low : ℕ) (octets : List ℕ) → IsNumber n high low
    → high ∷ low ∷ octets ≡ number_then n octets
number_then-halves n high low octets is =
    let above : high ≡ n / 256 = omega (arith, is.high_fits, is.low_fits, is.value) in
    let below : low ≡ n % 256 = omega (arith, is.high_fits, is.low_fits, is.value) in
    ap (λ h. h ∷ low ∷ octets) above ∙ ap (λ l. n / 256 ∷ l ∷ octets) below

-- TopicId and MsgId in their octets
ids-only : (topic_id msg_id : ℕ) (behind part : List ℕ) → SpellsIds topic_id msg_id behind part
    → part ≡ number_then topic_id (number_then msg_id behind)
ids-only topic_id msg_id behind part s =
    s.octets
    ∙ number_then-halves topic_id s.topic_high s.topic_low (s.msg_high ∷ s.msg_low ∷ behind) s.topic
    ∙ ap (number_then topic_id) (number_then-halves msg_id s.msg_high s.msg_low behind s.msg)

flagged-only : (flags : Flags) (topic_id msg_id : ℕ) (behind part : List ℕ)
    → SpellsFlaggedIds flags topic_id msg_id behind part
    → part ≡ flags_octet flags ∷ number_then topic_id (number_then msg_id behind)
flagged-only flags topic_id msg_id behind part s =
    s.octets ∙ ap (λ rest. flags_octet flags ∷ rest) (ids-only topic_id msg_id behind s.ids s.spelled)

ids-written : (topic_id msg_id : ℕ) (behind : List ℕ) → topic_id < 2 ^ 16 → msg_id < 2 ^ 16
    → SpellsIds topic_id msg_id behind (number_then topic_id (number_then msg_id behind))
ids-written topic_id msg_id behind topic_fits msg_fits = record {
  topic_high = topic_id / 256;
  topic_low = topic_id % 256;
  topic = IsNumber-halves topic_id topic_fits;
  msg_high = msg_id / 256;
  msg_low = msg_id % 256;
  msg = IsNumber-halves msg_id msg_fits;
  octets = refl;
}

flagged-written : (flags : Flags) (topic_id msg_id : ℕ) (behind : List ℕ) → topic_id < 2 ^ 16
    → msg_id < 2 ^ 16
    → SpellsFlaggedIds flags topic_id msg_id behind
    (flags_octet flags ∷ number_then topic_id (number_then msg_id behind))
flagged-written flags topic_id msg_id behind topic_fits msg_fits = record {
  ids = number_then topic_id (number_then msg_id behind);
  spelled = ids-written topic_id msg_id behind topic_fits msg_fits;
  octets = refl;
}

connect-only : (c : Connect) (part : List ℕ) → SpellsConnect c part → part ≡ connect_part c
connect-only c part s =
    s.octets
    ∙ ap (λ rest. flags_octet c.flags ∷ c.protocol_id ∷ rest)
    (number_then-halves c.duration s.duration_high s.duration_low c.client_id s.duration)

number-only : (n : ℕ) (part : List ℕ) → SpellsNumber n part → part ≡ number_then n []
number-only n part s = s.octets ∙ number_then-halves n s.high s.low [] s.is

will_topic-only : (w : Option WillTopic) (part : List ℕ) → SpellsWillTopic w part → part ≡ will_topic_part w
will_topic-only None part s = s
will_topic-only (Some w) part s = s

topic_request-only : (r : TopicRequest) (part : List ℕ) → SpellsTopicRequest r part
    → part ≡ topic_request_part r
topic_request-only r part s =
    s.octets
    ∙ ap (λ rest. flags_octet r.flags ∷ rest) (number_then-halves r.msg_id s.msg_high s.msg_low r.topic s.msg)

ping-only : (c : Option (List ℕ)) (part : List ℕ) → SpellsPing c part → part ≡ ping_part c
ping-only None part s = s
ping-only (Some text) part s = s.1

duration-only : (d : Option ℕ) (part : List ℕ) → SpellsDuration d part → part ≡ duration_part d
duration-only None part s = s
duration-only (Some n) part s = number-only n part s

-- a frame has one variable part
pub part_of-only : (frame : SnFrame) (part : List ℕ) → SpellsPart frame part → part ≡ part_of frame
part_of-only (variants.Connect x) part s = connect-only x part s
part_of-only (variants.ConnectAck x) part s = s
part_of-only variants.WillTopicRequest part s = s
part_of-only (variants.WillTopic x) part s = will_topic-only x part s
part_of-only variants.WillMessageRequest part s = s
part_of-only (variants.WillMessage x) part s = s
part_of-only (variants.Register x) part s = ids-only x.topic_id x.msg_id x.name part s
part_of-only (variants.RegisterAck x) part s = ids-only x.topic_id x.msg_id (code_part x.code) part s
part_of-only (variants.Publish x) part s = flagged-only x.flags x.topic_id x.msg_id x.payload part s
part_of-only (variants.PublishAck x) part s = ids-only x.topic_id x.msg_id (code_part x.code) part s
part_of-only (variants.PublishComplete x) part s = number-only x part s
part_of-only (variants.PublishReceived x) part s = number-only x part s
part_of-only (variants.PublishRelease x) part s = number-only x part s
part_of-only (variants.Subscribe x) part s = topic_request-only x part s
part_of-only (variants.SubscribeAck x) part s =
    flagged-only x.flags x.topic_id x.msg_id (code_part x.code) part s
part_of-only (variants.Unsubscribe x) part s = topic_request-only x part s
part_of-only (variants.UnsubscribeAck x) part s = number-only x part s
part_of-only (variants.PingRequest x) part s = ping-only x part s
part_of-only variants.PingResponse part s = s
part_of-only (variants.Disconnect x) part s = duration-only x part s
part_of-only (variants.WillTopicUpdate x) part s = will_topic-only x part s
part_of-only (variants.WillTopicResponse x) part s = s
part_of-only (variants.WillMessageUpdate x) part s = s
part_of-only (variants.WillMessageResponse x) part s = s

-- the number alone, and the structs, as they are written
number-written : (n : ℕ) → n < 2 ^ 16 → SpellsNumber n (number_then n [])
number-written n fits = record { high = n / 256; low = n % 256; is = IsNumber-halves n fits; octets = refl }

will_topic-written : (w : Option WillTopic) → SpellsWillTopic w (will_topic_part w)
will_topic-written None = refl
will_topic-written (Some w) = refl

topic_request-written : (r : TopicRequest) → r.msg_id < 2 ^ 16 → FitsType r.flags.id_type r.topic
    → SpellsTopicRequest r (topic_request_part r)
topic_request-written r fits topic = record {
  msg_high = r.msg_id / 256;
  msg_low = r.msg_id % 256;
  msg = IsNumber-halves r.msg_id fits;
  topic = topic;
  octets = refl;
}

-- a frame whose parts fit has the variable part that is written
pub SpellsPart-part_of : (frame : SnFrame) → IsInRange frame → TopicFits frame
    → SpellsPart frame (part_of frame)
SpellsPart-part_of (variants.Connect x) fits topic = record {
  duration_high = x.duration / 256;
  duration_low = x.duration % 256;
  duration = IsNumber-halves x.duration fits.0;
  client_id = fits.1;
  octets = refl;
}
SpellsPart-part_of (variants.ConnectAck x) fits topic = refl
SpellsPart-part_of variants.WillTopicRequest fits topic = refl
SpellsPart-part_of (variants.WillTopic x) fits topic = will_topic-written x
SpellsPart-part_of variants.WillMessageRequest fits topic = refl
SpellsPart-part_of (variants.WillMessage x) fits topic = refl
SpellsPart-part_of (variants.Register x) fits topic =
    ids-written x.topic_id x.msg_id x.name fits.0 fits.1
SpellsPart-part_of (variants.RegisterAck x) fits topic =
    ids-written x.topic_id x.msg_id (code_part x.code) fits.0 fits.1
SpellsPart-part_of (variants.Publish x) fits topic =
    flagged-written x.flags x.topic_id x.msg_id x.payload fits.0 fits.1
SpellsPart-part_of (variants.PublishAck x) fits topic =
    ids-written x.topic_id x.msg_id (code_part x.code) fits.0 fits.1
SpellsPart-part_of (variants.PublishComplete x) fits topic = number-written x fits
SpellsPart-part_of (variants.PublishReceived x) fits topic = number-written x fits
SpellsPart-part_of (variants.PublishRelease x) fits topic = number-written x fits
SpellsPart-part_of (variants.Subscribe x) fits topic = topic_request-written x fits topic
SpellsPart-part_of (variants.SubscribeAck x) fits topic =
    flagged-written x.flags x.topic_id x.msg_id (code_part x.code) fits.0 fits.1
SpellsPart-part_of (variants.Unsubscribe x) fits topic = topic_request-written x fits topic
SpellsPart-part_of (variants.UnsubscribeAck x) fits topic = number-written x fits
SpellsPart-part_of (variants.PingRequest None) fits topic = refl
SpellsPart-part_of (variants.PingRequest (Some x)) fits topic = (fits, refl)
SpellsPart-part_of variants.PingResponse fits topic = refl
SpellsPart-part_of (variants.Disconnect None) fits topic = refl
SpellsPart-part_of (variants.Disconnect (Some x)) fits topic = number-written x fits
SpellsPart-part_of (variants.WillTopicUpdate x) fits topic = will_topic-written x
SpellsPart-part_of (variants.WillTopicResponse x) fits topic = refl
SpellsPart-part_of (variants.WillMessageUpdate x) fits topic = refl
SpellsPart-part_of (variants.WillMessageResponse x) fits topic = refl
