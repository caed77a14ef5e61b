-- What the grammar spells is read.
use Rattle.std.proofs.Common.{◌≡◌, ◌≢◌, ℕ, zero, suc, ◌+◌, ◌-◌, ◌*◌, ◌≤◌, ◌==◌, Bool, true, false, List, []}
use Rattle.std.proofs.Common.{◌∷◌, ◌++◌, length, take, drop, length-append, nat_lt, Option, Some, None}
use Rattle.std.proofs.Common.{is_some, inl, inr, Result, Ok, refl, ap, sym, ◌∙◌, append_assoc, arith}
use Rattle.std.proofs.lemmas.Bool.{lt-ltb, le-ltb}
use Rattle.std.proofs.lemmas.Bool.Decides.{nat_tests}
use Rattle.std.proofs.lemmas.List.{take_all, append-nil}
use Rattle.std.proofs.Math.Seq.{take-append_seam, drop-append_seam}
use Rattle.mqtt_frames.specs.declared.limits.TheConstants.{MAX_PACKET}
use Rattle.mqtt_frames.specs.declared.fault.PacketFault.{PacketFault}
use Rattle.mqtt_frames.specs.declared.packet.RequestedQos.{RequestedQos}
use Rattle.mqtt_frames.specs.declared.packet.RequestedQos.TheVariants.{AtMostOnce, AtLeastOnce, ExactlyOnce}
use Rattle.mqtt_frames.specs.declared.packet.Connect.{Connect}
use Rattle.mqtt_frames.specs.declared.packet.ConnectAck.{ConnectAck}
use Rattle.mqtt_frames.specs.declared.packet.Publish.{Publish}
use Rattle.mqtt_frames.specs.declared.packet.Request.{Request}
use Rattle.mqtt_frames.specs.declared.packet.SubscribeCode.{SubscribeCode}
use Rattle.mqtt_frames.specs.declared.packet.SubscribeCode.TheVariants.{Granted, Refused}
use Rattle.mqtt_frames.specs.declared.packet.Packet.{Packet}
use Rattle.mqtt_frames.specs.declared.packet.Packet.TheVariants as variants
use Rattle.mqtt_frames.specs.declared.kind.Kind.{Kind}
use Rattle.mqtt_frames.specs.declared.kind.Kind.TheVariants as kinds
use Rattle.mqtt_frames.specs.declared.header.Length.TheVariants as lengths
use Rattle.mqtt_frames.specs.declared.header.Header.TheVariants as headers
use Rattle.mqtt_frames.specs.declared.wire.decode.Front.TheVariants as fronts
use Rattle.mqtt_frames.specs.Packets.{flag, qos_bits, first_byte, qos_byte, code_byte, codes_bytes, protocol}
use Rattle.mqtt_frames.specs.Grammar.{SpellsNumber, SpellsId, SpellsText, SpellsGroups, SpellsConnect}
use Rattle.mqtt_frames.specs.Grammar.{SpellsOptionalId, SpellsPublish, SpellsRequests, SpellsFilters}
use Rattle.mqtt_frames.specs.Grammar.{SpellsBody, Spells}
use Rattle.mqtt_frames.specs.Kinds.{kind_of}
use Rattle.mqtt_frames.specs.Reading.{◌>>=◌, number_at, id_at, text_at, connect_of, connect_rest}
use Rattle.mqtt_frames.specs.Reading.{connect_ack_of, optional_id_at, publish_of, whole_id, qos_of}
use Rattle.mqtt_frames.specs.Reading.{request_at, items_of, code_of, codes_of, some_of, body_of}
use Rattle.mqtt_frames.specs.Headers.{length_at, header_at}
use Rattle.mqtt_frames.specs.Fronts.{decode}
use Rattle.mqtt_frames.proofs.Items.{items_of-next}
use Rattle.mqtt_frames.proofs.FieldLemmas.{Consumes-text_at, Consumes-request_at, ok_is}
use Rattle.mqtt_frames.proofs.StreamLemmas.{body-more}

-- the fixed header

pub groups-read : (most n : ℕ) (bytes more : List ℕ) → SpellsGroups n bytes → length bytes ≤ most
    → length_at most (bytes ++ more) ≡ lengths.Known n (length bytes)
groups-read most n [] more s fits = absurd s
groups-read zero n (b ∷ bytes) more s fits = absurd (omega arith)
groups-read (suc most) n (b ∷ bytes) more (inl last) fits =
    rw (lt-ltb b 128 last.0, last.2, last.1) refl
groups-read (suc most) n (b ∷ bytes) more (inr next) fits =
    let rest = next.2.0 in
    let others : length_at most (bytes ++ more) ≡ lengths.Known rest (length bytes) =
    groups-read most rest bytes more next.2.2 (omega arith) in
    let value : b - 128 + 128 * rest ≡ n = omega (arith, next.0, next.2.1) in
    rw (le-ltb b 128 next.0, others, value) (ap (λ k. lengths.Known n k) (omega arith))

-- the kind of a packet
abbrev pub kind_for : Packet → Kind
kind_for (variants.Connect c) = kinds.Connect
kind_for (variants.ConnectAck a) = kinds.ConnectAck
kind_for (variants.Publish p) =
    kinds.Publish (record { dup = p.dup; identified = is_some p.packet_id; retain = p.retain })
kind_for (variants.PublishAck id) = kinds.PublishAck
kind_for (variants.Subscribe s) = kinds.Subscribe
kind_for (variants.SubscribeAck a) = kinds.SubscribeAck
kind_for (variants.Unsubscribe u) = kinds.Unsubscribe
kind_for (variants.UnsubscribeAck id) = kinds.UnsubscribeAck
kind_for variants.PingRequest = kinds.PingRequest
kind_for variants.PingResponse = kinds.PingResponse
kind_for variants.Disconnect = kinds.Disconnect

publish-kind : (dup retain : Bool) (id : Option ℕ)
    → kind_of (48 + flag dup 8 + qos_bits id + flag retain 1)
    ≡ Ok (kinds.Publish (record { dup = dup; identified = is_some id; retain = retain }))
publish-kind true true None = refl
publish-kind true true (Some id) = refl
publish-kind true false None = refl
publish-kind true false (Some id) = refl
publish-kind false true None = refl
publish-kind false true (Some id) = refl
publish-kind false false None = refl
publish-kind false false (Some id) = refl

pub kind_of-first : (p : Packet) → kind_of (first_byte p) ≡ Ok (kind_for p)
kind_of-first (variants.Connect c) = refl
kind_of-first (variants.ConnectAck a) = refl
kind_of-first (variants.Publish p) = publish-kind p.dup p.retain p.packet_id
kind_of-first (variants.PublishAck id) = refl
kind_of-first (variants.Subscribe s) = refl
kind_of-first (variants.SubscribeAck a) = refl
kind_of-first (variants.Unsubscribe u) = refl
kind_of-first (variants.UnsubscribeAck id) = refl
kind_of-first variants.PingRequest = refl
kind_of-first variants.PingResponse = refl
kind_of-first variants.Disconnect = refl

-- the fields

number-read : (n : ℕ) (b rest : List ℕ) → SpellsNumber n b → number_at (b ++ rest) ≡ Ok (n, rest)
number-read n b rest s = rw s.bytes (ap (λ (m : ℕ). Ok (m, rest)) (sym s.is.value))

id-read : (id : ℕ) (b rest : List ℕ) → SpellsId id b → id_at (b ++ rest) ≡ Ok (id, rest)
id-read id b rest s =
    let other : (id == 0) ≡ false = let above = s.positive in grind (arith, nat_tests) in
    rw (number-read id b rest s.number, other) refl

text-read : (text b rest : List ℕ) → SpellsText text b → text_at (b ++ rest) ≡ Ok (text, rest)
text-read text b rest s =
    let whole : b ++ rest ≡ s.count ++ (text ++ rest) =
    ap (λ (x : List ℕ). x ++ rest) s.bytes ∙ append_assoc s.count text rest in
    let number : number_at (b ++ rest) ≡ Ok (length text, text ++ rest) =
    ap number_at whole ∙ number-read (length text) s.count (text ++ rest) s.number in
    let fits : nat_lt (length (text ++ rest)) (length text) ≡ false =
    le-ltb (length (text ++ rest)) (length text) (omega (arith, length-append text rest)) in
    rw (number, fits, take-append_seam, drop-append_seam) refl

optional_id-read : (id : Option ℕ) (b rest : List ℕ) → SpellsOptionalId id b
    → optional_id_at (is_some id) (b ++ rest) ≡ Ok (id, rest)
optional_id-read None b rest s = rw s refl
optional_id-read (Some id) b rest s = rw (id-read id b rest s) refl

qos-read : (qos : RequestedQos) → qos_of (qos_byte qos) ≡ Ok qos
qos-read AtMostOnce = refl
qos-read AtLeastOnce = refl
qos-read ExactlyOnce = refl

code-read : (code : SubscribeCode) → code_of (code_byte code) ≡ Ok code
code-read (Granted AtMostOnce) = refl
code-read (Granted AtLeastOnce) = refl
code-read (Granted ExactlyOnce) = refl
code-read Refused = refl

codes-read : (codes : List SubscribeCode) → codes_of (codes_bytes codes) ≡ Ok codes
codes-read [] = refl
codes-read (code ∷ codes) = rw (code-read code, codes-read codes) refl

request-read : (r : Request) (filter rest : List ℕ) → SpellsText r.filter filter
    → request_at (filter ++ (qos_byte r.qos ∷ rest)) ≡ Ok (r, rest)
request-read r filter rest s = rw (text-read r.filter filter (qos_byte r.qos ∷ rest) s, qos-read r.qos) refl

requests-read : (requests : List Request) (b : List ℕ) → SpellsRequests requests b
    → items_of request_at b ≡ Ok requests
requests-read [] b s = rw s refl
requests-read (r ∷ requests) b s =
    let first : request_at b ≡ Ok (r, s.1) = ap request_at s.4 ∙ request-read r s.0 s.1 s.2 in
    items_of-next request_at Consumes-request_at b r s.1 first
    ∙ ap (λ (x : Result (List Request) PacketFault). x >>= λ items. Ok (r ∷ items))
    (requests-read requests s.1 s.3)

filters-read : (filters : List (List ℕ)) (b : List ℕ) → SpellsFilters filters b
    → items_of text_at b ≡ Ok filters
filters-read [] b s = rw s refl
filters-read (f ∷ filters) b s =
    let first : text_at b ≡ Ok (f, s.1) = ap text_at s.4 ∙ text-read f s.0 s.1 s.2 in
    items_of-next text_at Consumes-text_at b f s.1 first
    ∙ ap (λ (x : Result (List (List ℕ)) PacketFault). x >>= λ items. Ok (f ∷ items))
    (filters-read filters s.1 s.3)

some-read : {A : Type 0} (all_of : List ℕ → Result (List A) PacketFault) (xs : List A) (b : List ℕ)
    → all_of [] ≡ Ok [] → xs ≢ [] → all_of b ≡ Ok xs → some_of all_of b ≡ Ok xs
some-read all_of xs [] none some is = absurd (some (let e : Ok xs ≡ Ok [] = sym is ∙ none in cc))
some-read all_of xs (x ∷ b) none some is = is

-- the variable header and the payload

connect-flags : (clean_session : Bool) (rest : List ℕ)
    → connect_of (protocol ++ (flag clean_session 2 ∷ rest)) ≡ connect_rest clean_session rest
connect-flags true rest = refl
connect-flags false rest = refl

connect-read : (c : Connect) (b : List ℕ) → SpellsConnect c b → connect_of b ≡ Ok (variants.Connect c)
connect-read c b s =
    let text : text_at s.client_id ≡ Ok (c.client_id, []) =
    ap text_at (sym (append-nil s.client_id)) ∙ text-read c.client_id s.client_id [] s.client_id_text in
    ap connect_of s.bytes ∙ connect-flags c.clean_session (s.keep_alive ++ s.client_id)
    ∙ rw (number-read c.keep_alive s.keep_alive s.client_id s.keep_alive_number, text) refl

publish-read : (p : Publish) (b : List ℕ) → SpellsPublish p b
    → publish_of (record { dup = p.dup; identified = is_some p.packet_id; retain = p.retain }) b
    ≡ Ok (variants.Publish p)
publish-read p b s =
    rw (
      s.bytes,
      text-read p.name s.name (s.id ++ p.payload) s.name_text,
      optional_id-read p.packet_id s.id p.payload s.packet_id,
    ) refl

whole_id-read : (id : ℕ) (b : List ℕ) → SpellsId id b → whole_id b ≡ Ok id
whole_id-read id b s =
    let is : id_at b ≡ Ok (id, []) = ap id_at (sym (append-nil b)) ∙ id-read id b [] s in
    rw is refl

session-read : (present : Bool) (code : ℕ)
    → connect_ack_of (flag present 1 ∷ code ∷ [])
    ≡ Ok (variants.ConnectAck (record { session_present = present; code = code }))
session-read true code = refl
session-read false code = refl

ack-read : (a : ConnectAck) (b : List ℕ) → b ≡ flag a.session_present 1 ∷ a.code ∷ []
    → connect_ack_of b ≡ Ok (variants.ConnectAck a)
ack-read a b s = ap connect_ack_of s ∙ session-read a.session_present a.code

body-read : (p : Packet) (b : List ℕ) → SpellsBody p b → body_of (kind_for p) b ≡ Ok p
body-read (variants.Connect c) b s = connect-read c b s
body-read (variants.ConnectAck a) b s = ack-read a b s
body-read (variants.Publish p) b s = publish-read p b s
body-read (variants.PublishAck id) b s = rw (whole_id-read id b s) refl
body-read (variants.Subscribe s) b l =
    rw (
      l.bytes,
      id-read s.packet_id l.id_bytes l.items_bytes l.packet_id,
      some-read (items_of request_at) s.requests l.items_bytes refl l.some
          (requests-read s.requests l.items_bytes l.listed),
    ) refl
body-read (variants.SubscribeAck a) b l =
    rw (
      l.bytes,
      id-read a.packet_id l.id_bytes l.items_bytes l.packet_id,
      some-read codes_of a.codes l.items_bytes refl l.some (ap codes_of l.listed ∙ codes-read a.codes),
    ) refl
body-read (variants.Unsubscribe u) b l =
    rw (
      l.bytes,
      id-read u.packet_id l.id_bytes l.items_bytes l.packet_id,
      some-read (items_of text_at) u.filters l.items_bytes refl l.some
          (filters-read u.filters l.items_bytes l.listed),
    ) refl
body-read (variants.UnsubscribeAck id) b s = rw (whole_id-read id b s) refl
body-read variants.PingRequest b s = rw s refl
body-read variants.PingResponse b s = rw s refl
body-read variants.Disconnect b s = rw s refl

-- the whole packet

pub header-read : (p : Packet) (b more : List ℕ) (s : Spells p b)
    → header_at (b ++ more) ≡ headers.Known (kind_for p) (1 + length s.remaining) (length s.behind)
header-read p b more s =
    let is : length_at 4 (s.remaining ++ (s.behind ++ more))
    ≡ lengths.Known (length s.behind) (length s.remaining) =
    groups-read 4 (length s.behind) s.remaining (s.behind ++ more) s.total.groups s.total.most in
    let parts : b ++ more ≡ first_byte p ∷ (s.remaining ++ (s.behind ++ more)) =
    ap (λ (x : List ℕ). x ++ more) s.bytes
    ∙ ap (λ (x : List ℕ). first_byte p ∷ x) (append_assoc s.remaining s.behind more) in
    ap header_at parts ∙ rw (is, kind_of-first p) refl

behind-is : (p : Packet) (b : List ℕ) (s : Spells p b) → drop (1 + length s.remaining) b ≡ s.behind
behind-is p b s =
    let count : 1 + length s.remaining ≡ length (first_byte p ∷ s.remaining) = omega arith in
    ap (λ n. drop n b) count ∙ ap (drop (length (first_byte p ∷ s.remaining))) s.bytes
    ∙ drop-append_seam (first_byte p ∷ s.remaining) s.behind

pub size-is : (p : Packet) (b : List ℕ) (s : Spells p b) → 1 + length s.remaining + length s.behind ≡ length b
size-is p b s = omega (arith, ap length s.bytes, length-append s.remaining s.behind)

pub front-read : (p : Packet) (b more : List ℕ) → Spells p b → length b ≤ MAX_PACKET
    → decode (b ++ more) ≡ fronts.Whole p (length b)
front-read p b more s short =
    let size = size-is p b s in
    let enough : length b ≤ length (b ++ more) = omega (arith, length-append b more) in
    let within : 1 + length s.remaining + length s.behind ≤ length b = omega arith in
    let body : take (length s.behind) (drop (1 + length s.remaining) (b ++ more)) ≡ s.behind =
    body-more (1 + length s.remaining) (length s.behind) b more within
    ∙ ap (take (length s.behind)) (behind-is p b s) ∙ take_all (length s.behind) s.behind (omega arith) in
    rw (
      header-read p b more s,
      size,
      le-ltb MAX_PACKET (length b) short,
      le-ltb (length (b ++ more)) (length b) enough,
      body,
      body-read p s.behind s.variable,
    ) refl

pub spells_one : (b : List ℕ) (one other : Packet) → Spells one b → Spells other b → one ≡ other
spells_one b one other s t =
    let first = header-read one b [] s in
    let second = header-read other b [] t in
    let equal = sym first ∙ second in
    let kind : kind_for one ≡ kind_for other = cc in
    let start : 1 + length s.remaining ≡ 1 + length t.remaining = cc in
    let behind : s.behind ≡ t.behind =
    sym (behind-is one b s) ∙ ap (λ n. drop n b) start ∙ behind-is other b t in
    let whole : Ok one ≡ Ok other =
    sym (body-read one s.behind s.variable) ∙ ap (body_of (kind_for one)) behind
    ∙ ap (λ (k : Kind). body_of k t.behind) kind ∙ body-read other t.behind t.variable in
    ok_is one other whole
