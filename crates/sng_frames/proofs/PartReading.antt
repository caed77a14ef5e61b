-- Between a variable part and what it is read as, layout by layout, one way and the other.
use Rattle.std.proofs.Common.{◌≡◌, ℕ, ◌<◌, Bool, true, false, List, [], ◌∷◌, length, Option, Some, None}
use Rattle.std.proofs.Common.{if◌then◌else◌, refl, ap, sym, subst, ◌∙◌, arith, eq-eqb}
use Rattle.std.specs.Option.{option_map}
use Rattle.std.proofs.lemmas.Bool.{eqb-true}
use Rattle.std.proofs.lemmas.List.Elements.{All-tail}
use Rattle.sng_text.specs.ClientIds.{is_client_id}
use Rattle.sng_frames.specs.declared.flags.Flags.{Flags}
use Rattle.sng_frames.specs.declared.flags.TopicIdType.{TopicIdType}
use Rattle.sng_frames.specs.declared.flags.TopicIdType.TheVariants.{Normal, Predefined, Short, Reserved}
use Rattle.sng_frames.specs.declared.messages.connect.Connect.{Connect}
use Rattle.sng_frames.specs.declared.messages.publish.Publish.{Publish}
use Rattle.sng_frames.specs.declared.messages.register.Register.{Register}
use Rattle.sng_frames.specs.declared.messages.acks.SubscribeAck.{SubscribeAck}
use Rattle.sng_frames.specs.declared.messages.acks.TopicAck.{TopicAck}
use Rattle.sng_frames.specs.declared.messages.subscribe.TopicRequest.{TopicRequest}
use Rattle.sng_frames.specs.declared.messages.will.WillTopic.{WillTopic}
use Rattle.sng_frames.specs.declared.return_code.ReturnCode.{ReturnCode}
use Rattle.sng_frames.specs.FlagsOctet.{flags_of, flags_octet}
use Rattle.sng_frames.specs.Grammar.{IsNumber, SpellsIds, SpellsFlaggedIds, SpellsConnect, SpellsCode}
use Rattle.sng_frames.specs.Grammar.{SpellsNumber, SpellsWillTopic}
use Rattle.sng_frames.specs.Grammar.{SpellsRegister, SpellsTopicAck, SpellsPublish, FitsType}
use Rattle.sng_frames.specs.Grammar.{SpellsTopicRequest, SpellsSubscribeAck, SpellsPing, SpellsDuration}
use Rattle.sng_frames.specs.Laws.{AreOctets}
use Rattle.sng_frames.specs.Parts.{number, nothing_of, code_of, number_of, duration_of, client_id_of, ping_of}
use Rattle.sng_frames.specs.Parts.{connect_of, will_topic_of, register_of, topic_ack_of, publish_of}
use Rattle.sng_frames.specs.Parts.{fits_type, topic_request_of, subscribe_ack_of}
use Rattle.sng_frames.proofs.FlagBits.{flags_of-flags_octet, flags_octet-flags_of}

-- structs of their fields, with the octet of their Flags
abbrev connect : ℕ → ℕ → ℕ → List ℕ → Connect
connect flags protocol_id duration text =
    record { flags = flags_of flags; protocol_id = protocol_id; duration = duration; client_id = text }

abbrev register : ℕ → ℕ → List ℕ → Register
register topic msg name = record { topic_id = topic; msg_id = msg; name = name }

abbrev topic_ack : ℕ → ℕ → ℕ → TopicAck
topic_ack topic msg code = record { topic_id = topic; msg_id = msg; code = record { 0 = code } }

abbrev publish : ℕ → ℕ → ℕ → List ℕ → Publish
publish flags topic msg payload =
    record { flags = flags_of flags; topic_id = topic; msg_id = msg; payload = payload }

abbrev topic_request : Flags → ℕ → List ℕ → TopicRequest
topic_request flags msg topic = record { flags = flags; msg_id = msg; topic = topic }

abbrev subscribe_ack : ℕ → ℕ → ℕ → ℕ → SubscribeAck
subscribe_ack flags topic msg code =
    record { flags = flags_of flags; topic_id = topic; msg_id = msg; code = record { 0 = code } }

-- a value through a function, taken back
pub record IsMapped (A B : Type 0) (f : A → B) (o : Option A) (y : B) : Type 0 where
  pub from : A
  pub was : o ≡ Some from
  pub gives : f from ≡ y

pub mapped : (A B : Type 0) (f : A → B) (o : Option A) (y : B) → option_map f o ≡ Some y → IsMapped A B f o y
mapped A B f None y is = cc
mapped A B f (Some x) y is = record { from = x; was = refl; gives = cc }

-- a value that a test let through
passed : (A : Type 0) (b : Bool) (r x : A) → (if b then Some r else None) ≡ Some x → (b ≡ true) × (r ≡ x)
passed A true r x is = (refl, cc)
passed A false r x is = cc

first : (octet : ℕ) (part : List ℕ) → AreOctets (octet ∷ part) → octet < 256
first octet part are = are 0 0 (omega arith)

tail : (octet : ℕ) (part : List ℕ) → AreOctets (octet ∷ part) → AreOctets part
tail octet part are = All-tail (λ n. n < 256) octet part are

number-is : (high low : ℕ) (part : List ℕ) → AreOctets (high ∷ low ∷ part)
    → IsNumber (number high low) high low
number-is high low part are = record {
  high_fits = first high (low ∷ part) are;
  low_fits = first low part (tail high (low ∷ part) are);
  value = refl;
}

ids-are : (topic_high topic_low msg_high msg_low : ℕ) (behind : List ℕ)
    → AreOctets (topic_high ∷ topic_low ∷ msg_high ∷ msg_low ∷ behind)
    → SpellsIds (number topic_high topic_low) (number msg_high msg_low) behind
    (topic_high ∷ topic_low ∷ msg_high ∷ msg_low ∷ behind)
ids-are topic_high topic_low msg_high msg_low behind are =
    let from_low : AreOctets (topic_low ∷ msg_high ∷ msg_low ∷ behind) =
    tail topic_high (topic_low ∷ msg_high ∷ msg_low ∷ behind) are in
    record {
      topic_high = topic_high;
      topic_low = topic_low;
      topic = number-is topic_high topic_low (msg_high ∷ msg_low ∷ behind) are;
      msg_high = msg_high;
      msg_low = msg_low;
      msg = number-is msg_high msg_low behind (tail topic_low (msg_high ∷ msg_low ∷ behind) from_low);
      octets = refl;
    }

octet-flags : (octet : ℕ) (part : List ℕ) → AreOctets (octet ∷ part)
    → octet ∷ part ≡ flags_octet (flags_of octet) ∷ part
octet-flags octet part are = ap (λ n. n ∷ part) (sym (flags_octet-flags_of octet (first octet part are)))

flagged-are : (flags topic_high topic_low msg_high msg_low : ℕ) (behind : List ℕ)
    → AreOctets (flags ∷ topic_high ∷ topic_low ∷ msg_high ∷ msg_low ∷ behind)
    → SpellsFlaggedIds (flags_of flags) (number topic_high topic_low) (number msg_high msg_low) behind
    (flags ∷ topic_high ∷ topic_low ∷ msg_high ∷ msg_low ∷ behind)
flagged-are flags topic_high topic_low msg_high msg_low behind are = record {
  ids = topic_high ∷ topic_low ∷ msg_high ∷ msg_low ∷ behind;
  spelled =
      ids-are topic_high topic_low msg_high msg_low behind
      (tail flags (topic_high ∷ topic_low ∷ msg_high ∷ msg_low ∷ behind) are);
  octets = octet-flags flags (topic_high ∷ topic_low ∷ msg_high ∷ msg_low ∷ behind) are;
}

-- a ReturnCode
pub code_of-spelled : (code : ReturnCode) (part : List ℕ) → SpellsCode code part → code_of part ≡ Some code
code_of-spelled code part s = ap code_of s

pub code_of-reads : (code : ReturnCode) (part : List ℕ) → code_of part ≡ Some code → SpellsCode code part
code_of-reads code [] is = cc
code_of-reads code (octet ∷ []) is =
    (let same : record { 0 = octet } ≡ code = cc in ap (λ (c : ReturnCode). c.0 ∷ []) same)
code_of-reads code (a ∷ b ∷ part) is = cc

-- a number
pub number_of-spelled : (n : ℕ) (part : List ℕ) → SpellsNumber n part → number_of part ≡ Some n
number_of-spelled n part s = ap number_of s.octets ∙ ap Some (sym s.is.value)

pub number_of-reads : (n : ℕ) (part : List ℕ) → AreOctets part → number_of part ≡ Some n → SpellsNumber n part
number_of-reads n [] are is = cc
number_of-reads n (a ∷ []) are is = cc
number_of-reads n (high ∷ low ∷ []) are is =
    let same : number high low ≡ n = cc in
    subst (λ m. SpellsNumber m (high ∷ low ∷ [])) same
    (record { high = high; low = low; is = number-is high low [] are; octets = refl })
number_of-reads n (a ∷ b ∷ c ∷ part) are is = cc

-- nothing, or a number
pub duration_of-spelled : (d : Option ℕ) (part : List ℕ) → SpellsDuration d part → duration_of part ≡ Some d
duration_of-spelled None part s = ap duration_of s
duration_of-spelled (Some n) part s = ap duration_of s.octets ∙ ap (λ m. Some (Some m)) (sym s.is.value)

pub duration_of-reads : (d : Option ℕ) (part : List ℕ) → AreOctets part → duration_of part ≡ Some d
    → SpellsDuration d part
duration_of-reads d [] are is = (let same : None ≡ d = cc in subst (λ e. SpellsDuration e []) same refl)
duration_of-reads d (octet ∷ part) are is =
    let m = mapped _ _ Some (number_of (octet ∷ part)) d is in
    subst (λ e. SpellsDuration e (octet ∷ part)) m.gives (number_of-reads m.from (octet ∷ part) are m.was)

-- a ClientId
client_id_of-is : (text : List ℕ) → is_client_id text ≡ true → client_id_of text ≡ Some text
client_id_of-is text is = rw is refl

-- nothing, or a ClientId, which is not empty
pub ping_of-spelled : (c : Option (List ℕ)) (part : List ℕ) → SpellsPing c part → ping_of part ≡ Some c
ping_of-spelled None part s = ap ping_of s
ping_of-spelled (Some []) part s = absurd (let no = s.0 in cc)
ping_of-spelled (Some (octet ∷ text)) part s =
    ap ping_of s.1 ∙ ap (option_map Some) (client_id_of-is (octet ∷ text) s.0)

pub ping_of-reads : (c : Option (List ℕ)) (part : List ℕ) → ping_of part ≡ Some c → SpellsPing c part
ping_of-reads c [] is = (let same : None ≡ c = cc in subst (λ e. SpellsPing e []) same refl)
ping_of-reads c (octet ∷ part) is =
    let m = mapped _ _ Some (client_id_of (octet ∷ part)) c is in
    let p = passed _ (is_client_id (octet ∷ part)) (octet ∷ part) m.from m.was in
    subst (λ e. SpellsPing e (octet ∷ part)) (ap Some p.1 ∙ m.gives) (p.0, refl)

-- a CONNECT
pub connect_of-spelled : (c : Connect) (part : List ℕ) → SpellsConnect c part → connect_of part ≡ Some c
connect_of-spelled c part s =
    ap connect_of s.octets
    ∙ ap
    (λ o. option_map
    (λ (t : List ℕ). connect (flags_octet c.flags) c.protocol_id
    (number s.duration_high s.duration_low) t) o) (client_id_of-is c.client_id s.client_id)
    ∙ ap (λ n. Some (connect (flags_octet c.flags) c.protocol_id n c.client_id)) (sym s.duration.value)
    ∙ ap (λ (f : _). Some (record c { flags = f })) (flags_of-flags_octet c.flags)

pub connect_of-reads : (c : Connect) (part : List ℕ) → AreOctets part → connect_of part ≡ Some c
    → SpellsConnect c part
connect_of-reads c [] are is = cc
connect_of-reads c (a ∷ []) are is = cc
connect_of-reads c (a ∷ b ∷ []) are is = cc
connect_of-reads c (a ∷ b ∷ d ∷ []) are is = cc
connect_of-reads c (flags ∷ protocol_id ∷ high ∷ low ∷ text) are is =
    let m =
    mapped _ _ (λ (client_id : List ℕ). connect flags protocol_id (number high low) client_id)
    (client_id_of text) c is in
    let p = passed _ (is_client_id text) text m.from m.was in
    let same : connect flags protocol_id (number high low) text ≡ c =
    ap (connect flags protocol_id (number high low)) p.1 ∙ m.gives in
    subst (λ q. SpellsConnect q (flags ∷ protocol_id ∷ high ∷ low ∷ text)) same (record {
      duration_high = high;
      duration_low = low;
      duration =
          number-is high low text
          (tail protocol_id (high ∷ low ∷ text) (tail flags (protocol_id ∷ high ∷ low ∷ text) are));
      client_id = p.0;
      octets = octet-flags flags (protocol_id ∷ high ∷ low ∷ text) are;
    })

-- a will topic
pub will_topic_of-spelled : (w : Option WillTopic) (part : List ℕ) → SpellsWillTopic w part
    → will_topic_of part ≡ w
will_topic_of-spelled None part s = ap will_topic_of s
will_topic_of-spelled (Some w) part s =
    ap will_topic_of s ∙ ap (λ (f : _). Some (record w { flags = f })) (flags_of-flags_octet w.flags)

will_topic-reads : (part : List ℕ) → AreOctets part → SpellsWillTopic (will_topic_of part) part
will_topic-reads [] are = refl
will_topic-reads (flags ∷ topic) are = octet-flags flags topic are

pub will_topic_of-reads : (w : Option WillTopic) (part : List ℕ) → AreOctets part
    → Some (will_topic_of part) ≡ Some w → SpellsWillTopic w part
will_topic_of-reads w part are is =
    let same : will_topic_of part ≡ w = cc in
    subst (λ v. SpellsWillTopic v part) same (will_topic-reads part are)

-- a REGISTER
pub register_of-spelled : (r : Register) (part : List ℕ) → SpellsRegister r part → register_of part ≡ Some r
register_of-spelled r part s =
    ap register_of s.octets
    ∙ ap (λ topic. Some (register topic (number s.msg_high s.msg_low) r.name)) (sym s.topic.value)
    ∙ ap (λ msg. Some (register r.topic_id msg r.name)) (sym s.msg.value)

pub register_of-reads : (r : Register) (part : List ℕ) → AreOctets part → register_of part ≡ Some r
    → SpellsRegister r part
register_of-reads r [] are is = cc
register_of-reads r (a ∷ []) are is = cc
register_of-reads r (a ∷ b ∷ []) are is = cc
register_of-reads r (a ∷ b ∷ c ∷ []) are is = cc
register_of-reads r (topic_high ∷ topic_low ∷ msg_high ∷ msg_low ∷ name) are is =
    let same : register (number topic_high topic_low) (number msg_high msg_low) name ≡ r = cc in
    subst (λ q. SpellsRegister q (topic_high ∷ topic_low ∷ msg_high ∷ msg_low ∷ name)) same
    (ids-are topic_high topic_low msg_high msg_low name are)

-- a REGACK or PUBACK
pub topic_ack_of-spelled : (a : TopicAck) (part : List ℕ) → SpellsTopicAck a part → topic_ack_of part ≡ Some a
topic_ack_of-spelled a part s =
    ap topic_ack_of s.octets
    ∙ ap (λ topic. Some (topic_ack topic (number s.msg_high s.msg_low) a.code.0)) (sym s.topic.value)
    ∙ ap (λ msg. Some (topic_ack a.topic_id msg a.code.0)) (sym s.msg.value)

pub topic_ack_of-reads : (a : TopicAck) (part : List ℕ) → AreOctets part → topic_ack_of part ≡ Some a
    → SpellsTopicAck a part
topic_ack_of-reads a [] are is = cc
topic_ack_of-reads a (b ∷ []) are is = cc
topic_ack_of-reads a (b ∷ c ∷ []) are is = cc
topic_ack_of-reads a (b ∷ c ∷ d ∷ []) are is = cc
topic_ack_of-reads a (b ∷ c ∷ d ∷ e ∷ []) are is = cc
topic_ack_of-reads a (topic_high ∷ topic_low ∷ msg_high ∷ msg_low ∷ code ∷ []) are is =
    let same : topic_ack (number topic_high topic_low) (number msg_high msg_low) code ≡ a = cc in
    subst (λ q. SpellsTopicAck q (topic_high ∷ topic_low ∷ msg_high ∷ msg_low ∷ code ∷ [])) same
    (ids-are topic_high topic_low msg_high msg_low (code ∷ []) are)
topic_ack_of-reads a (b ∷ c ∷ d ∷ e ∷ f ∷ g ∷ part) are is = cc

-- a PUBLISH
pub publish_of-spelled : (p : Publish) (part : List ℕ) → SpellsPublish p part → publish_of part ≡ Some p
publish_of-spelled p part s =
    let flags = flags_octet p.flags in
    let ids = s.spelled in
    ap publish_of (s.octets ∙ ap (λ rest. flags ∷ rest) ids.octets)
    ∙ ap (λ topic. Some (publish flags topic (number ids.msg_high ids.msg_low) p.payload))
    (sym ids.topic.value)
    ∙ ap (λ msg. Some (publish flags p.topic_id msg p.payload)) (sym ids.msg.value)
    ∙ ap (λ (f : _). Some (record p { flags = f })) (flags_of-flags_octet p.flags)

pub publish_of-reads : (p : Publish) (part : List ℕ) → AreOctets part → publish_of part ≡ Some p
    → SpellsPublish p part
publish_of-reads p [] are is = cc
publish_of-reads p (a ∷ []) are is = cc
publish_of-reads p (a ∷ b ∷ []) are is = cc
publish_of-reads p (a ∷ b ∷ c ∷ []) are is = cc
publish_of-reads p (a ∷ b ∷ c ∷ d ∷ []) are is = cc
publish_of-reads p (flags ∷ topic_high ∷ topic_low ∷ msg_high ∷ msg_low ∷ payload) are is =
    let same : publish flags (number topic_high topic_low) (number msg_high msg_low) payload ≡ p = cc in
    subst (λ q. SpellsPublish q (flags ∷ topic_high ∷ topic_low ∷ msg_high ∷ msg_low ∷ payload)) same
    (flagged-are flags topic_high topic_low msg_high msg_low payload are)

-- the octets of a topic, by their type
pub fits_type-fits : (t : TopicIdType) (topic : List ℕ) → FitsType t topic → fits_type t topic ≡ true
fits_type-fits Normal topic fits = refl
fits_type-fits Predefined topic fits = eq-eqb _ _ fits
fits_type-fits Short topic fits = eq-eqb _ _ fits
fits_type-fits Reserved topic fits = refl

pub FitsType-fits : (t : TopicIdType) (topic : List ℕ) → fits_type t topic ≡ true → FitsType t topic
FitsType-fits Normal topic is = tt
FitsType-fits Predefined topic is = eqb-true (length topic) 2 is
FitsType-fits Short topic is = eqb-true (length topic) 2 is
FitsType-fits Reserved topic is = tt

-- a SUBSCRIBE or UNSUBSCRIBE
pub topic_request_of-spelled : (r : TopicRequest) (part : List ℕ) → SpellsTopicRequest r part
    → topic_request_of part ≡ Some r
topic_request_of-spelled r part s =
    ap topic_request_of s.octets
    ∙ ap
    (λ f. if fits_type f.id_type r.topic
    then Some (topic_request f (number s.msg_high s.msg_low) r.topic) else None)
    (flags_of-flags_octet r.flags)
    ∙ ap
    (λ (b : Bool). if b then Some (topic_request r.flags (number s.msg_high s.msg_low) r.topic)
    else None) (fits_type-fits r.flags.id_type r.topic s.topic)
    ∙ ap (λ msg. Some (topic_request r.flags msg r.topic)) (sym s.msg.value)

pub topic_request_of-reads : (r : TopicRequest) (part : List ℕ) → AreOctets part
    → topic_request_of part ≡ Some r → SpellsTopicRequest r part
topic_request_of-reads r [] are is = cc
topic_request_of-reads r (a ∷ []) are is = cc
topic_request_of-reads r (a ∷ b ∷ []) are is = cc
topic_request_of-reads r (flags ∷ msg_high ∷ msg_low ∷ topic) are is =
    let p =
    passed _ (fits_type (flags_of flags).id_type topic)
    (topic_request (flags_of flags) (number msg_high msg_low) topic) r is in
    subst (λ q. SpellsTopicRequest q (flags ∷ msg_high ∷ msg_low ∷ topic)) p.1 (record {
      msg_high = msg_high;
      msg_low = msg_low;
      msg = number-is msg_high msg_low topic (tail flags (msg_high ∷ msg_low ∷ topic) are);
      topic = FitsType-fits (flags_of flags).id_type topic p.0;
      octets = octet-flags flags (msg_high ∷ msg_low ∷ topic) are;
    })

-- a SUBACK
pub subscribe_ack_of-spelled : (a : SubscribeAck) (part : List ℕ) → SpellsSubscribeAck a part
    → subscribe_ack_of part ≡ Some a
subscribe_ack_of-spelled a part s =
    let flags = flags_octet a.flags in
    let ids = s.spelled in
    ap subscribe_ack_of (s.octets ∙ ap (λ rest. flags ∷ rest) ids.octets)
    ∙ ap (λ topic. Some (subscribe_ack flags topic (number ids.msg_high ids.msg_low) a.code.0))
    (sym ids.topic.value)
    ∙ ap (λ msg. Some (subscribe_ack flags a.topic_id msg a.code.0)) (sym ids.msg.value)
    ∙ ap (λ (f : _). Some (record a { flags = f })) (flags_of-flags_octet a.flags)

pub subscribe_ack_of-reads : (a : SubscribeAck) (part : List ℕ) → AreOctets part
    → subscribe_ack_of part ≡ Some a → SpellsSubscribeAck a part
subscribe_ack_of-reads a [] are is = cc
subscribe_ack_of-reads a (b ∷ []) are is = cc
subscribe_ack_of-reads a (b ∷ c ∷ []) are is = cc
subscribe_ack_of-reads a (b ∷ c ∷ d ∷ []) are is = cc
subscribe_ack_of-reads a (b ∷ c ∷ d ∷ e ∷ []) are is = cc
subscribe_ack_of-reads a (b ∷ c ∷ d ∷ e ∷ f ∷ []) are is = cc
subscribe_ack_of-reads a (flags ∷ topic_high ∷ topic_low ∷ msg_high ∷ msg_low ∷ code ∷ []) are is =
    let same : subscribe_ack flags (number topic_high topic_low) (number msg_high msg_low) code ≡ a = cc in
    subst (λ q. SpellsSubscribeAck q (flags ∷ topic_high ∷ topic_low ∷ msg_high ∷ msg_low ∷ code ∷ [])) same
    (flagged-are flags topic_high topic_low msg_high msg_low (code ∷ []) are)
subscribe_ack_of-reads a (b ∷ c ∷ d ∷ e ∷ f ∷ g ∷ h ∷ part) are is = cc

-- nothing
pub nothing_of-spelled : (part : List ℕ) → part ≡ [] → nothing_of part ≡ Some tt
nothing_of-spelled part s = ap nothing_of s

pub nothing_of-reads : (part : List ℕ) → nothing_of part ≡ Some tt → part ≡ []
nothing_of-reads [] is = refl
nothing_of-reads (octet ∷ part) is = cc
