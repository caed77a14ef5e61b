-- The MsgIds, topic ids and frames of messages that leave are those that the laws' rules say.
use Rattle.std.proofs.Common.{◌≡◌, ℕ, ◌+◌, ◌≤◌, ◌<◌, Bool, true, false, List, [], ◌∷◌, length, refl}
use Rattle.std.proofs.Common.{sym, subst, if◌then◌else◌, arith}
use Rattle.std.specs.Prelude.{◌||◌, ◌&&◌, ◌==◌, ◌%◌, ◌-◌, nat_le, is_some, Option, Some, None}
use Rattle.std.proofs.Math.Nat.{mod-eq_of_lt, mod-lt}
use Rattle.std.proofs.lemmas.Bool.Decides.{nat_tests}
use Rattle.sng_text.specs.declared.qos.Qos.{Qos}
use Rattle.sng_text.specs.declared.qos.Qos.TheVariants.{AtMostOnce, AtLeastOnce}
use Rattle.sng_policy.specs.Grants.{topic_id}
use Rattle.sng_queue.specs.Messages.{Message}
use Rattle.sng_frames.specs.declared.flags.TopicIdType.{TopicIdType}
use Rattle.sng_frames.specs.declared.flags.TopicIdType.TheVariants as type
use Rattle.sng_queue.specs.declared.kind.TopicIdKind.TheVariants as kind
use Rattle.sng_history.specs.Requests.{id_in}
use Rattle.sng_history.specs.Handing as handing
use Rattle.sng_history.specs.Handing.{Known, known_by, given_id, known_as, number_after, id_type_of}
use Rattle.sng_history.specs.Handing.{msg_id_of}
use Rattle.sng_laws.specs.ViewsClients.{is_among, id_told}
use Rattle.sng_laws.specs.ViewsFlight.{number_in}
use Rattle.sng_laws.specs.ViewsHanding.{is_at_least_once, last_number}
use Rattle.sng_laws.specs.LawsHanding as laws
use Rattle.sng_laws.specs.LawsHanding.{Mailing, knows, next_number, id_meant}
use Rattle.sng_laws.specs.LawsHanding.{topic_meant, publish_to, register_to}
use Rattle.sng_laws.specs.LawsHanding.{handed_out}
use Rattle.sng_promise.proofs.Names.Marked.{marked, id_marked, known_marked}

-- ---- MsgIds

-- the MsgId that was given last is at most 65,535
last_by : (b : Bool) (n : ℕ) → (if b then 0 else (n - 1) % 65535 + 1) ≤ 65535
last_by true n = omega arith
last_by false n = let less : (n - 1) % 65535 < 65535 = mod-lt (n - 1) (omega arith) in omega (arith, less)

pub last_within : (given : ℕ) → last_number given ≤ 65535
last_within given = last_by (given == 0) given

next_by : (n : ℕ) (b : Bool) → nat_le 65535 n ≡ b → n ≤ 65535 → (if b then 1 else n + 1) ≡ next_number n
next_by n true is within = let last : n ≡ 65535 = grind (arith, nat_tests, is, within) in rw last refl
next_by n false is within =
    let less : n < 65535 = grind (arith, nat_tests, is) in
    let same : n % 65535 ≡ n = mod-eq_of_lt less in rw same refl

next_same : (n : ℕ) → n ≤ 65535 → number_after n ≡ next_number n
next_same n within = next_by n (nat_le 65535 n) refl within

msg_id_same : (q : Qos) (n : ℕ) → n ≤ 65535
    → msg_id_of q n ≡ (if is_at_least_once q then next_number n else 0)
msg_id_same AtMostOnce n within = refl
msg_id_same AtLeastOnce n within = next_same n within

pub frame_qos_same : (q : Qos) → handing.frame_qos q ≡ laws.frame_qos q
frame_qos_same AtMostOnce = refl
frame_qos_same AtLeastOnce = refl

-- ---- the topic id of a name

number_same : (octets : List ℕ) → id_in octets ≡ number_in octets
number_same [] = refl
number_same (high ∷ []) = refl
number_same (high ∷ low ∷ octets) = refl

-- the client knows the name by the type and the id, or does not know it
abbrev pub Meant : Option Known → Bool → TopicIdType × ℕ → Type 0
Meant None b topic = b ≡ false
Meant (Some k) b topic = (b ≡ true) × ((id_type_of k.kind ≡ topic.0) × (k.id ≡ topic.1))

meant_by : (two : Bool) (octets : List ℕ) (predefined : Option ℕ) (b : Bool) (told : ℕ)
    → Meant (if two then Some (known_by kind.Short (id_in octets))
    else given_id predefined (let o : Option ℕ = if b then Some told else None in o))
    (two || (is_some predefined || b))
    (if two then (type.Short, number_in octets) else id_meant predefined told)
meant_by true octets predefined b told = (refl, (refl, number_same octets))
meant_by false octets (Some id) b told = (refl, (refl, refl))
meant_by false octets None true told = (refl, (refl, refl))
meant_by false octets None false told = refl

pub meant : (c : Mailing) (name : List ℕ)
    → Meant (known_as c.policy (marked c.told c.known) name) (knows c name) (topic_meant c name)
meant c name =
    subst (λ o. Meant (if length name == 2 then Some (known_by kind.Short (id_in name))
    else given_id (topic_id c.policy name) o) (knows c name) (topic_meant c name))
    (sym (known_marked name c.told c.known))
    (meant_by (length name == 2) name (topic_id c.policy name) (is_among name c.told && is_among name c.known)
    (id_told name c.told))

-- ---- frames

pub publish_same : (c : Mailing) (m : Message) (k : Known) → c.number ≤ 65535
    → id_type_of k.kind ≡ (topic_meant c m.name).0 → k.id ≡ (topic_meant c m.name).1
    → handing.handed_out c.address c.number m k ≡ publish_to c m
publish_same c m k within type id =
    rw (type, id, frame_qos_same m.qos, msg_id_same m.qos c.number within) refl

pub register_same : (c : Mailing) (name : List ℕ) → c.number ≤ 65535
    → handing.announced_out c.address c.number (marked c.told c.known) name ≡ register_to c name
register_same c name within = rw (id_marked name c.told c.known, next_same c.number within) refl
