-- The written spelling is the shortest.
use Rattle.std.proofs.Common.{◌≡◌, ℕ, ◌+◌, ◌/◌, ◌%◌, ◌<◌, List, [], ◌∷◌, ◌++◌, length, Option, Some}
use Rattle.std.proofs.Common.{None, inl, inr, ◌⊎◌}
use Rattle.std.proofs.Common.{ap, sym, ◌∙◌, arith}
use Rattle.std.proofs.lemmas.Bool.{cases_lt}
use Rattle.mqtt_frames.specs.declared.packet.Request.{Request}
use Rattle.mqtt_frames.specs.declared.packet.Packet.{Packet}
use Rattle.mqtt_frames.specs.declared.packet.Packet.TheVariants as variants
use Rattle.mqtt_frames.specs.RemainingLength.{remaining_length}
use Rattle.mqtt_frames.specs.Packets.{flag, protocol, qos_byte, number_bytes, text_bytes, id_bytes}
use Rattle.mqtt_frames.specs.Packets.{requests_bytes, filters_bytes}
use Rattle.mqtt_frames.specs.Packets.{first_byte, body, written}
use Rattle.mqtt_frames.specs.Grammar.{SpellsNumber, SpellsText, SpellsGroups, SpellsOptionalId}
use Rattle.mqtt_frames.specs.Grammar.{SpellsRequests}
use Rattle.mqtt_frames.specs.Grammar.{SpellsFilters, SpellsBody, Spells}
use Rattle.mqtt_frames.proofs.Groups.{remaining_length-last, remaining_length-next}
use Rattle.mqtt_frames.proofs.Groups.{length-remaining_length-last, length-remaining_length-next}
use Rattle.mqtt_frames.proofs.Spelling.{length-written}
use Rattle.mqtt_frames.proofs.SpelledIsRead.{size-is}

-- what stands behind the Remaining Length has one spelling

number_unique : (n : ℕ) (b : List ℕ) → SpellsNumber n b → b ≡ number_bytes n
number_unique n b s =
    let high : s.high ≡ n / 256 % 256 = omega (arith, s.is.value, s.is.high_fits, s.is.low_fits) in
    let low : s.low ≡ n % 256 = omega (arith, s.is.value, s.is.high_fits, s.is.low_fits) in
    s.bytes ∙ ap (λ (x : ℕ). x ∷ s.low ∷ []) high ∙ ap (λ (x : ℕ). (n / 256 % 256) ∷ x ∷ []) low

text_unique : (text b : List ℕ) → SpellsText text b → b ≡ text_bytes text
text_unique text b s = s.bytes ∙ ap (λ (x : List ℕ). x ++ text) (number_unique (length text) s.count s.number)

optional_id-unique : (id : Option ℕ) (b : List ℕ) → SpellsOptionalId id b → b ≡ id_bytes id
optional_id-unique None b s = s
optional_id-unique (Some id) b s = number_unique id b s.number

requests_unique : (requests : List Request) (b : List ℕ) → SpellsRequests requests b
    → b ≡ requests_bytes requests
requests_unique [] b s = s
requests_unique (r ∷ requests) b s =
    s.4 ∙ ap (λ (x : List ℕ). x ++ (qos_byte r.qos ∷ s.1)) (text_unique r.filter s.0 s.2)
    ∙ ap (λ (x : List ℕ). text_bytes r.filter ++ (qos_byte r.qos ∷ x)) (requests_unique requests s.1 s.3)

filters_unique : (filters : List (List ℕ)) (b : List ℕ) → SpellsFilters filters b → b ≡ filters_bytes filters
filters_unique [] b s = s
filters_unique (f ∷ filters) b s =
    s.4 ∙ ap (λ (x : List ℕ). x ++ s.1) (text_unique f s.0 s.2)
    ∙ ap (λ (x : List ℕ). text_bytes f ++ x) (filters_unique filters s.1 s.3)

body_unique : (p : Packet) (b : List ℕ) → SpellsBody p b → b ≡ body p
body_unique (variants.Connect c) b s =
    s.bytes
    ∙ ap (λ (x : List ℕ). protocol ++ (flag c.clean_session 2 ∷ (x ++ s.client_id)))
    (number_unique c.keep_alive s.keep_alive s.keep_alive_number)
    ∙ ap (λ (x : List ℕ). protocol ++ (flag c.clean_session 2 ∷ (number_bytes c.keep_alive ++ x)))
    (text_unique c.client_id s.client_id s.client_id_text)
body_unique (variants.ConnectAck a) b s = s
body_unique (variants.Publish p) b s =
    s.bytes ∙ ap (λ (x : List ℕ). x ++ (s.id ++ p.payload)) (text_unique p.name s.name s.name_text)
    ∙ ap (λ (x : List ℕ). text_bytes p.name ++ (x ++ p.payload))
    (optional_id-unique p.packet_id s.id s.packet_id)
body_unique (variants.PublishAck id) b s = number_unique id b s.number
body_unique (variants.Subscribe s) b l =
    l.bytes ∙ ap (λ (x : List ℕ). x ++ l.items_bytes)
    (number_unique s.packet_id l.id_bytes l.packet_id.number)
    ∙ ap (λ (x : List ℕ). number_bytes s.packet_id ++ x) (requests_unique s.requests l.items_bytes l.listed)
body_unique (variants.SubscribeAck a) b l =
    l.bytes ∙ ap (λ (x : List ℕ). x ++ l.items_bytes)
    (number_unique a.packet_id l.id_bytes l.packet_id.number)
    ∙ ap (λ (x : List ℕ). number_bytes a.packet_id ++ x) l.listed
body_unique (variants.Unsubscribe u) b l =
    l.bytes ∙ ap (λ (x : List ℕ). x ++ l.items_bytes)
    (number_unique u.packet_id l.id_bytes l.packet_id.number)
    ∙ ap (λ (x : List ℕ). number_bytes u.packet_id ++ x) (filters_unique u.filters l.items_bytes l.listed)
body_unique (variants.UnsubscribeAck id) b s = number_unique id b s.number
body_unique variants.PingRequest b s = s
body_unique variants.PingResponse b s = s
body_unique variants.Disconnect b s = s

-- and a Remaining Length has no shorter one than the written

groups_some : (n : ℕ) (bytes : List ℕ) → SpellsGroups n bytes → 0 < length bytes
groups_some n [] s = absurd s
groups_some n (b ∷ bytes) s = omega arith

groups_shortest : (n : ℕ) (bytes : List ℕ) → SpellsGroups n bytes
    → (bytes ≡ remaining_length n) ⊎ (length (remaining_length n) < length bytes)
groups_shortest n [] s = absurd s
groups_shortest n (b ∷ bytes) (inl last) =
    inl (ap (λ (x : List ℕ). b ∷ x) last.2 ∙ ap (λ (x : ℕ). x ∷ []) (sym last.1)
    ∙ sym (remaining_length-last n (omega (arith, last.0, last.1))))
groups_shortest n (b ∷ bytes) (inr next) =
    let rest = next.2.0 in
    let others = next.2.2 in
    elim (cases_lt n 128) [
      | inl small ↦ inr (omega (arith, length-remaining_length-last n small, groups_some rest bytes others))
      | inr large ↦ (let high : rest ≡ n / 128 = omega (arith, next.0, next.1, next.2.1) in
          let low : b ≡ n % 128 + 128 = omega (arith, next.0, next.1, next.2.1) in
          elim (groups_shortest rest bytes others) [
            | inl same ↦ inl (ap (λ (x : ℕ). x ∷ bytes) low
                ∙ ap (λ (x : List ℕ). (n % 128 + 128) ∷ x) (same ∙ ap remaining_length high)
                ∙ sym (remaining_length-next n large))
            | inr longer ↦ inr (omega (
              arith,
              length-remaining_length-next n large,
              ap (λ (k : ℕ). length (remaining_length k)) high,
              longer,
            ))
          ])
    ]

pub shortest : (p : Packet) (b : List ℕ) → Spells p b → (b ≡ written p) ⊎ (length (written p) < length b)
shortest p b s =
    let behind : s.behind ≡ body p = body_unique p s.behind s.variable in
    elim (groups_shortest (length s.behind) s.remaining s.total.groups) [
      | inl same ↦ inl (
          s.bytes ∙ ap (λ (x : List ℕ). first_byte p ∷ (x ++ s.behind)) same
          ∙ ap (λ (x : List ℕ). first_byte p ∷ (remaining_length (length x) ++ x)) behind
          )
      | inr longer ↦ inr (omega (
        arith,
        length-written p,
        size-is p b s,
        ap length behind,
        ap (λ (x : List ℕ). length (remaining_length (length x))) behind,
        longer,
      ))
    ]
