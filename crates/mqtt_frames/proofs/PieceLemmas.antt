-- A piece behind the bytes of an unfinished packet.
use Rattle.std.proofs.Common.{◌≡◌, ℕ, zero, suc, ◌+◌, ◌*◌, ◌<◌, ◌≤◌, List, [], ◌∷◌, ◌++◌, length, take, drop}
use Rattle.std.proofs.Common.{append_assoc}
use Rattle.std.proofs.Common.{length-append, length-drop, inl, inr, Option, Some, None, Result, Ok, Err, refl}
use Rattle.std.proofs.Common.{ap, sym, subst, ◌∙◌, arith}
use Rattle.std.proofs.lemmas.Bool.{cases_lt, lt-ltb, le-ltb}
use Rattle.std.proofs.lemmas.List.{take-append-drop, take_all, drop_all, drop-append-le, length-take-le}
use Rattle.mqtt_frames.specs.declared.limits.TheConstants.{MAX_PACKET}
use Rattle.mqtt_frames.specs.declared.fault.PacketFault.{PacketFault}
use Rattle.mqtt_frames.specs.declared.packet.Packet.{Packet}
use Rattle.mqtt_frames.specs.declared.kind.Kind.{Kind}
use Rattle.mqtt_frames.specs.declared.header.Length.{Length}
use Rattle.mqtt_frames.specs.declared.header.Length.TheVariants as lengths
use Rattle.mqtt_frames.specs.declared.header.Header.{Header}
use Rattle.mqtt_frames.specs.declared.header.Header.TheVariants as headers
use Rattle.mqtt_frames.specs.declared.wire.decode.Front.{Front}
use Rattle.mqtt_frames.specs.declared.wire.decode.Front.TheVariants as fronts
use Rattle.mqtt_frames.specs.declared.stream.StreamStatus.{StreamStatus}
use Rattle.mqtt_frames.specs.declared.stream.StreamStatus.TheVariants as statuses
use Rattle.mqtt_frames.specs.Kinds.{kind_of}
use Rattle.mqtt_frames.specs.Reading.{body_of}
use Rattle.mqtt_frames.specs.Headers.{behind_group, length_at, with_kind, with_length, header_at}
use Rattle.mqtt_frames.specs.Fronts.{sized, behind_header, decode}
use Rattle.mqtt_frames.specs.Streams.{Read, read_all, behind_body, read_of}
use Rattle.mqtt_frames.specs.Streams.{IsReady, Lacks}
use Rattle.mqtt_frames.proofs.ReadIsSpelled.{behind_group-told, with_length-told, behind_header-told}
use Rattle.mqtt_frames.proofs.StreamLemmas.{header_at-more, header_at-positive, body-more, decode-within}
use Rattle.mqtt_frames.proofs.StreamLemmas.{not_sized}
use Rattle.mqtt_frames.proofs.StreamLemmas.{read_all-waiting, read_all-faulty, read_all-whole, WaitsAt}
use Rattle.mqtt_frames.proofs.StreamLemmas.{read_all-waits}

-- a fixed header that is not whole: its bytes are fewer than it has in the end

length_at-positive : (most : ℕ) (bytes : List ℕ) (value size : ℕ)
    → length_at most bytes ≡ lengths.Known value size → 0 < size
length_at-positive zero bytes value size is = absurd cc
length_at-positive (suc most) [] value size is = absurd cc
length_at-positive (suc most) (b ∷ bytes) value size is =
    elim (cases_lt b 128) [
      | inl small ↦ (let one : lengths.Known b 1 ≡ lengths.Known value size = rw (lt-ltb b 128 small) at is in
          let count : 1 ≡ size = cc in
          omega arith)
      | inr large ↦ (let next = behind_group-told b (length_at most bytes) value size
          (rw (le-ltb b 128 large) at is) in
          omega (arith, next.count))
    ]

pub behind_group-unfinished : (b : ℕ) (l : Length) → behind_group b l ≡ lengths.Unfinished
    → l ≡ lengths.Unfinished
behind_group-unfinished b lengths.Unfinished is = refl
behind_group-unfinished b lengths.Overlong is = absurd cc
behind_group-unfinished b (lengths.Known value size) is = absurd cc

length_at-cut : (most : ℕ) (bytes more : List ℕ) (value size : ℕ) → length_at most bytes ≡ lengths.Unfinished
    → length_at most (bytes ++ more) ≡ lengths.Known value size → length bytes < size
length_at-cut zero bytes more value size waits is = absurd cc
length_at-cut (suc most) [] more value size waits is = length_at-positive (suc most) more value size is
length_at-cut (suc most) (b ∷ bytes) more value size waits is =
    elim (cases_lt b 128) [
      | inl small ↦ absurd (let e : lengths.Known b 1
          ≡ lengths.Unfinished = rw (lt-ltb b 128 small) at waits in cc)
      | inr large ↦ (let next = behind_group-told b (length_at most (bytes ++ more)) value size
          (rw (le-ltb b 128 large) at is) in
          let others = behind_group-unfinished b (length_at most bytes) (rw (le-ltb b 128 large) at waits) in
          omega (arith, next.count, length_at-cut most bytes more next.value next.others others next.told))
    ]

with_kind-finished : (r : Result Kind PacketFault) (size value : ℕ)
    → with_kind r size value ≡ headers.Unfinished → ⊥
with_kind-finished (Ok kind) size value is = cc
with_kind-finished (Err fault) size value is = cc

with_length-unfinished : (first : ℕ) (l : Length) → with_length first l ≡ headers.Unfinished
    → l ≡ lengths.Unfinished
with_length-unfinished first lengths.Unfinished is = refl
with_length-unfinished first lengths.Overlong is = absurd cc
with_length-unfinished first (lengths.Known value size) is =
    absurd (with_kind-finished (kind_of first) (1 + size) value is)

pub header_at-cut : (bytes more : List ℕ) (kind : Kind) (start rest : ℕ)
    → header_at bytes ≡ headers.Unfinished
    → header_at (bytes ++ more) ≡ headers.Known kind start rest → length bytes < start
header_at-cut [] more kind start rest waits is = header_at-positive more kind start rest is
header_at-cut (first ∷ bytes) more kind start rest waits is =
    let h = with_length-told first (length_at 4 (bytes ++ more)) (bytes ++ more) kind start rest refl is in
    let others = with_length-unfinished first (length_at 4 bytes) waits in
    omega (arith, h.begins, length_at-cut 4 bytes more rest h.size others h.told)

-- five bytes have a whole one, or a fault

length_at-done : (most : ℕ) (bytes : List ℕ) → most ≤ length bytes
    → length_at most bytes ≡ lengths.Unfinished → ⊥
length_at-done zero bytes enough is = cc
length_at-done (suc most) [] enough is = omega arith
length_at-done (suc most) (b ∷ bytes) enough is =
    elim (cases_lt b 128) [
      | inl small ↦ (let e : lengths.Known b 1 ≡ lengths.Unfinished = rw (lt-ltb b 128 small) at is in cc)
      | inr large ↦ length_at-done most bytes (omega arith)
          (behind_group-unfinished b (length_at most bytes) (rw (le-ltb b 128 large) at is))
    ]

header_at-done : (bytes : List ℕ) → 5 ≤ length bytes → header_at bytes ≡ headers.Unfinished → ⊥
header_at-done [] enough is = omega arith
header_at-done (first ∷ bytes) enough is =
    length_at-done 4 bytes (omega arith) (with_length-unfinished first (length_at 4 bytes) is)

pub header_at-fixed : (bytes more : List ℕ) → 5 ≤ length bytes → header_at bytes ≡ header_at (bytes ++ more)
header_at-fixed bytes more enough =
    elim (header_at-more bytes more)
    [ inl waits ↦ absurd (header_at-done bytes enough waits) | inr same ↦ sym same ]

pub header_at-few : (held piece : List ℕ) → header_at (held ++ take 5 piece) ≡ header_at (held ++ piece)
header_at-few held piece =
    elim (cases_lt 5 (length piece)) [
      | inl long ↦ (let count : length (take 5 piece) ≡ 5 = length-take-le 5 piece (omega arith) in
          let enough : 5 ≤ length (held ++ take 5 piece) = omega (arith, length-append held (take 5 piece)) in
          header_at-fixed (held ++ take 5 piece) (drop 5 piece) enough
          ∙ ap header_at (append_assoc held (take 5 piece) (drop 5 piece)
          ∙ ap (λ (b : List ℕ). held ++ b) (take-append-drop 5 piece)))
      | inr short ↦ ap (λ (b : List ℕ). header_at (held ++ b)) (take_all 5 piece short)
    ]

-- bytes that wait are fewer than the packet that they begin

waits_short : (bytes : List ℕ) (kind : Kind) (start rest : ℕ) → decode bytes ≡ fronts.Waiting
    → header_at bytes ≡ headers.Known kind start rest
    → start + rest ≤ MAX_PACKET → length bytes < start + rest
waits_short bytes kind start rest waits told short =
    let is : behind_header (headers.Known kind start rest) bytes ≡ fronts.Waiting = rw told at waits in
    elim (cases_lt (length bytes) (start + rest)) [
      | inl part ↦ part
      | inr whole ↦ absurd (not_sized (start + rest) (body_of kind (take rest (drop start bytes)))
          (rw (le-ltb MAX_PACKET (start + rest) short, le-ltb (length bytes) (start + rest) whole) at is))
    ]

pub is_part : (held piece : List ℕ) (kind : Kind) (start rest : ℕ) → decode held ≡ fronts.Waiting
    → header_at (held ++ piece) ≡ headers.Known kind start rest → start + rest ≤ MAX_PACKET
    → length held < start + rest
is_part held piece kind start rest waits told short =
    elim (header_at-more held piece) [
      | inl cut ↦ omega (arith, header_at-cut held piece kind start rest cut told)
      | inr same ↦ waits_short held kind start rest waits (sym same ∙ told) short
    ]

-- what is read then

sized-read : (bytes : List ℕ) (size : ℕ) (r : Result Packet PacketFault) → decode bytes ≡ sized size r
    → read_all bytes ≡ behind_body r (drop size bytes)
sized-read bytes size (Ok packet) is = read_all-whole bytes packet size is
sized-read bytes size (Err fault) is = read_all-faulty bytes fault is

pub whole-read : (held part behind : List ℕ) (kind : Kind) (start rest : ℕ)
    → header_at (held ++ (part ++ behind)) ≡ headers.Known kind start rest
    → start + rest ≤ MAX_PACKET → length (held ++ part) ≡ start + rest
    → read_all (held ++ (part ++ behind)) ≡ behind_body (body_of kind (drop start (held ++ part))) behind
whole-read held part behind kind start rest told short size =
    let all = held ++ (part ++ behind) in
    let enough : start + rest ≤ length (held ++ (part ++ behind)) =
    omega (arith, length-append held (part ++ behind), length-append part behind, length-append held part) in
    let body : take rest (drop start (held ++ (part ++ behind))) ≡ drop start (held ++ part) =
    ap (λ (b : List ℕ). take rest (drop start b)) (sym (append_assoc held part behind))
    ∙ body-more start rest (held ++ part) behind (omega arith)
    ∙ take_all rest (drop start (held ++ part)) (omega (arith, length-drop start (held ++ part))) in
    let front : decode (held ++ (part ++ behind))
    ≡ sized (start + rest) (body_of kind (drop start (held ++ part))) =
    rw (
      told,
      le-ltb MAX_PACKET (start + rest) short,
      le-ltb (length (held ++ (part ++ behind))) (start + rest) enough,
    ) (ap (λ b. sized (start + rest) (body_of kind b)) body) in
    let left : drop (start + rest) (held ++ (part ++ behind)) ≡ behind =
    ap (drop (start + rest)) (sym (append_assoc held part behind))
    ∙ drop-append-le (start + rest) (held ++ part) behind (omega arith)
    ∙ ap (λ (b : List ℕ). b ++ behind) (drop_all (start + rest) (held ++ part) (omega arith)) in
    sized-read all (start + rest) (body_of kind (drop start (held ++ part))) front
    ∙ ap (behind_body (body_of kind (drop start (held ++ part)))) left

-- a packet has two bytes or more, and so few packets come of a piece

record IsKnown (h : Header) (size : ℕ) : Type 0 where
  kind : Kind
  start : ℕ
  rest : ℕ
  is : h ≡ headers.Known kind start rest
  total : start + rest ≡ size
  short : start + rest ≤ MAX_PACKET

behind_header-known : (h : Header) (bytes : List ℕ) (p : Packet) (size : ℕ)
    → behind_header h bytes ≡ fronts.Whole p size → IsKnown h size
behind_header-known headers.Unfinished bytes p size is = absurd cc
behind_header-known (headers.Faulty fault) bytes p size is = absurd cc
behind_header-known (headers.Known kind start rest) bytes p size is =
    let b = behind_header-told kind start rest bytes p size is in
    record { kind = kind; start = start; rest = rest; is = refl; total = b.total; short = b.short }

header_at-two : (bytes : List ℕ) (kind : Kind) (start rest : ℕ)
    → header_at bytes ≡ headers.Known kind start rest → 2 ≤ start
header_at-two [] kind start rest is = absurd cc
header_at-two (first ∷ bytes) kind start rest is =
    let h = with_length-told first (length_at 4 bytes) bytes kind start rest refl is in
    omega (arith, h.begins, length_at-positive 4 bytes rest h.size h.told)

decode-two : (bytes : List ℕ) (p : Packet) (size : ℕ) → decode bytes ≡ fronts.Whole p size → 2 ≤ size
decode-two bytes p size is =
    let h = behind_header-known (header_at bytes) bytes p size is in
    omega (arith, h.total, header_at-two bytes h.kind h.start h.rest h.is)

few-behind : (f : Front) (bytes : List ℕ) → decode bytes ≡ f
    → ((others : List ℕ) → length others < length bytes
    → 2 * length (read_all others).packets ≤ length others)
    → 2 * length (read_all bytes).packets ≤ length bytes
few-behind fronts.Waiting bytes is few =
    omega (arith, ap (λ (r : Read). length r.packets) (read_all-waiting bytes is))
few-behind (fronts.Faulty fault) bytes is few =
    omega (arith, ap (λ (r : Read). length r.packets) (read_all-faulty bytes fault is))
few-behind (fronts.Whole packet size) bytes is few =
    let within = decode-within bytes packet size is in
    let others = few (drop size bytes) (omega (arith, length-drop size bytes)) in
    omega (
      arith,
      ap (λ (r : Read). length r.packets) (read_all-whole bytes packet size is),
      decode-two bytes packet size is,
      length-drop size bytes,
    )

few-within : (most : ℕ) (bytes : List ℕ) → length bytes ≤ most
    → 2 * length (read_all bytes).packets ≤ length bytes
few-within zero [] fits = omega arith
few-within zero (b ∷ bytes) fits = absurd (omega arith)
few-within (suc most) bytes fits =
    few-behind (decode bytes) bytes refl (λ others less. few-within most others (omega arith))

few-held : (f : Front) (held piece : List ℕ) → decode held ≡ fronts.Waiting → decode (held ++ piece) ≡ f
    → 2 * length (read_all (held ++ piece)).packets ≤ 2 + length piece
few-held fronts.Waiting held piece waits is =
    omega (arith, ap (λ (r : Read). length r.packets) (read_all-waiting (held ++ piece) is))
few-held (fronts.Faulty fault) held piece waits is =
    omega (arith, ap (λ (r : Read). length r.packets) (read_all-faulty (held ++ piece) fault is))
few-held (fronts.Whole packet size) held piece waits is =
    let all = held ++ piece in
    let h = behind_header-known (header_at all) all packet size is in
    let part = is_part held piece h.kind h.start h.rest waits h.is h.short in
    let others = few-within (length (drop size all)) (drop size all) (omega arith) in
    omega (
      arith,
      ap (λ (r : Read). length r.packets) (read_all-whole all packet size is),
      h.total,
      length-drop size all,
      length-append held piece,
    )

pub few_packets : (held piece : List ℕ) → decode held ≡ fronts.Waiting
    → 2 * length (read_all (held ++ piece)).packets ≤ 2 + length piece
few_packets held piece waits = few-held (decode (held ++ piece)) held piece waits refl

-- what the stream knows of a piece that was taken

read_of-packets : (packets : List Packet) (fault : Option PacketFault) (held : List ℕ)
    → (read_of packets fault held).packets ≡ packets
read_of-packets packets None held = refl
read_of-packets packets (Some fault) held = refl

pub few_taken : (held piece : List ℕ) (packets : List Packet) (fault : Option PacketFault) (after : List ℕ)
    → decode held ≡ fronts.Waiting
    → read_all (held ++ piece) ≡ read_of packets fault after → 2 * length packets ≤ 2 + length piece
few_taken held piece packets fault after waits is =
    let same : (read_all (held ++ piece)).packets ≡ packets =
    ap (λ (r : Read). r.packets) is ∙ read_of-packets packets fault after in
    omega (arith, few_packets held piece waits, ap length same)

pub waits_then : (bytes : List ℕ) (packets : List Packet) (fault : Option PacketFault) (after : List ℕ)
    → read_all bytes ≡ read_of packets fault after
    → fault ≡ None → decode after ≡ fronts.Waiting
waits_then bytes packets fault after is none =
    subst WaitsAt
    (ap (λ (r : Read). r.ending) (is ∙ ap (λ (f : Option PacketFault). read_of packets f after) none))
    (read_all-waits bytes)

pub ready_from : (s : StreamStatus) (held : List ℕ) → s ≡ statuses.Reading → decode held ≡ fronts.Waiting
    → IsReady s held
ready_from statuses.Reading held reads waits = waits
ready_from (statuses.Kept fault) held reads waits = absurd cc
ready_from statuses.Failed held reads waits = absurd cc

pub waits_ready : (s : StreamStatus) (held : List ℕ) → s ≡ statuses.Reading → IsReady s held
    → decode held ≡ fronts.Waiting
waits_ready statuses.Reading held reads ready = ready
waits_ready (statuses.Kept fault) held reads ready = absurd cc
waits_ready statuses.Failed held reads ready = absurd cc

-- bytes that lack more than there are

pub lacks_none : (held : List ℕ) → Lacks held 0
lacks_none held more fewer = absurd (omega (arith, fewer))

pub lacks_part : (bytes : List ℕ) (kind : Kind) (start rest missing : ℕ)
    → header_at bytes ≡ headers.Known kind start rest → start + rest ≤ MAX_PACKET
    → length bytes + missing ≡ start + rest → Lacks bytes missing
lacks_part bytes kind start rest missing told short sum more fewer =
    elim (header_at-more bytes more) [
      | inl cut ↦ absurd (let e : headers.Known kind start rest ≡ headers.Unfinished = sym told ∙ cut in cc)
      | inr same ↦ (let all : header_at (bytes ++ more) ≡ headers.Known kind start rest = same ∙ told in
          let part : length (bytes ++ more) < start + rest = omega (arith, length-append bytes more) in
          rw (
            all,
            le-ltb MAX_PACKET (start + rest) short,
            lt-ltb (length (bytes ++ more)) (start + rest) part,
          ) refl)
    ]
