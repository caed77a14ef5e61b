-- What stands at the front of bytes stays there when more bytes come, and so the packets of a stream do not
-- depend on its pieces.
use Rattle.std.proofs.Common.{◌≡◌, ℕ, zero, suc, ◌+◌, ◌<◌, ◌≤◌, true, false, List, [], ◌∷◌, ◌++◌, length}
use Rattle.std.proofs.Common.{take, drop, length-append, length-drop, nat_lt, if◌then◌else◌, ◌⊎◌, inl, inr}
use Rattle.std.proofs.Common.{Result, Ok, Err, refl, ap, sym, subst, ◌∙◌, append_assoc, arith}
use Rattle.std.proofs.lemmas.Bool.{cases_lt, lt-ltb, le-ltb}
use Rattle.std.proofs.lemmas.List.{take-append-le, drop-append-le}
use Rattle.mqtt_frames.specs.declared.limits.TheConstants.{MAX_PACKET}
use Rattle.mqtt_frames.specs.declared.fault.PacketFault.{PacketFault}
use Rattle.mqtt_frames.specs.declared.packet.Packet.{Packet}
use Rattle.mqtt_frames.specs.declared.kind.Kind.{Kind}
use Rattle.mqtt_frames.specs.declared.header.Length.{Length}
use Rattle.mqtt_frames.specs.declared.header.Length.TheVariants as lengths
use Rattle.mqtt_frames.specs.declared.header.Header.{Header}
use Rattle.mqtt_frames.specs.declared.header.Header.TheVariants as headers
use Rattle.mqtt_frames.specs.declared.wire.decode.Front.{Front}
use Rattle.mqtt_frames.specs.declared.wire.decode.Front.TheVariants as fronts
use Rattle.mqtt_frames.specs.Kinds.{kind_of}
use Rattle.mqtt_frames.specs.Reading.{body_of}
use Rattle.mqtt_frames.specs.Headers.{behind_group, length_at, with_kind, with_length, header_at}
use Rattle.mqtt_frames.specs.Fronts.{sized, behind_header, decode, IsWithin}
use Rattle.mqtt_frames.specs.Streams.{End, Rest, Fault, Read, with_packets, behind_front, read_within}
use Rattle.mqtt_frames.specs.Streams.{read_all}

-- a Remaining Length that is known, or too long, is so whatever follows
length_at-more : (most : ℕ) (bytes more : List ℕ)
    → (length_at most bytes ≡ lengths.Unfinished) ⊎ (length_at most (bytes ++ more) ≡ length_at most bytes)
length_at-more zero bytes more = inr refl
length_at-more (suc most) [] more = inl refl
length_at-more (suc most) (b ∷ bytes) more =
    elim (nat_lt b 128) as (λ t.
    ((if t then lengths.Known b 1 else behind_group b (length_at most bytes)) ≡ lengths.Unfinished)
    ⊎ ((if t then lengths.Known b 1 else behind_group b (length_at most (bytes ++ more)))
    ≡ (if t then lengths.Known b 1 else behind_group b (length_at most bytes)))) [
      | true ↦ inr refl
      | false ↦ elim (length_at-more most bytes more)
          [ inl waits ↦ inl (ap (behind_group b) waits) | inr same ↦ inr (ap (behind_group b) same) ]
    ]

pub header_at-more : (bytes more : List ℕ)
    → (header_at bytes ≡ headers.Unfinished) ⊎ (header_at (bytes ++ more) ≡ header_at bytes)
header_at-more [] more = inl refl
header_at-more (first ∷ rest) more =
    elim (length_at-more 4 rest more)
    [ inl waits ↦ inl (ap (with_length first) waits) | inr same ↦ inr (ap (with_length first) same) ]

pub body-more : (start rest : ℕ) (bytes more : List ℕ) → start + rest ≤ length bytes
    → take rest (drop start (bytes ++ more)) ≡ take rest (drop start bytes)
body-more start rest bytes more fits =
    let first : start ≤ length bytes = omega arith in
    let second : rest ≤ length (drop start bytes) = omega (arith, length-drop start bytes) in
    rw (drop-append-le start bytes more first) (take-append-le rest (drop start bytes) more second)

behind_header-more : (h : Header) (bytes more : List ℕ)
    → (behind_header h bytes ≡ fronts.Waiting) ⊎ (behind_header h (bytes ++ more) ≡ behind_header h bytes)
behind_header-more headers.Unfinished bytes more = inl refl
behind_header-more (headers.Faulty fault) bytes more = inr refl
behind_header-more (headers.Known kind start rest) bytes more =
    elim (cases_lt MAX_PACKET (start + rest)) [
      | inl long ↦ inr (rw (lt-ltb MAX_PACKET (start + rest) long) refl)
      | inr short ↦ elim (cases_lt (length bytes) (start + rest)) [
        | inl part ↦ inl (rw (
          le-ltb MAX_PACKET (start + rest) short,
          lt-ltb (length bytes) (start + rest) part,
        ) refl)
        | inr whole ↦ (let above : start + rest ≤ length (bytes ++ more) =
            omega (arith, length-append bytes more) in
            inr (rw (
              le-ltb MAX_PACKET (start + rest) short,
              le-ltb (length bytes) (start + rest) whole,
              le-ltb (length (bytes ++ more)) (start + rest) above,
            ) (ap (λ b. sized (start + rest) (body_of kind b)) (body-more start rest bytes more whole))))
      ]
    ]

pub decode-more : (bytes more : List ℕ)
    → (decode bytes ≡ fronts.Waiting) ⊎ (decode (bytes ++ more) ≡ decode bytes)
decode-more bytes more =
    elim (header_at-more bytes more) [
      | inl waits ↦ inl (rw waits refl)
      | inr same ↦ elim (behind_header-more (header_at bytes) bytes more)
          [ inl waits ↦ inl waits | inr equal ↦ inr (rw same equal) ]
    ]

-- a packet takes a byte or more, and no more than there are

with_kind-positive : (r : Result Kind PacketFault) (size value : ℕ) (kind : Kind) (start rest : ℕ)
    → with_kind r (1 + size) value ≡ headers.Known kind start rest → 0 < start
with_kind-positive (Ok found) size value kind start rest is = let e : 1 + size ≡ start = cc in omega arith
with_kind-positive (Err fault) size value kind start rest is = absurd cc

with_length-positive : (first : ℕ) (l : Length) (kind : Kind) (start rest : ℕ)
    → with_length first l ≡ headers.Known kind start rest → 0 < start
with_length-positive first lengths.Unfinished kind start rest is = absurd cc
with_length-positive first lengths.Overlong kind start rest is = absurd cc
with_length-positive first (lengths.Known value size) kind start rest is =
    with_kind-positive (kind_of first) size value kind start rest is

pub header_at-positive : (bytes : List ℕ) (kind : Kind) (start rest : ℕ)
    → header_at bytes ≡ headers.Known kind start rest → 0 < start
header_at-positive [] kind start rest is = absurd cc
header_at-positive (first ∷ bytes) kind start rest is =
    with_length-positive first (length_at 4 bytes) kind start rest is

sized-within : (most size : ℕ) (r : Result Packet PacketFault) → 0 < size → size ≤ most
    → IsWithin most (sized size r)
sized-within most size (Ok packet) above below = (above, below)
sized-within most size (Err fault) above below = tt

behind_header-within : (h : Header) (bytes : List ℕ)
    → ((kind : Kind) (start rest : ℕ) → h ≡ headers.Known kind start rest → 0 < start)
    → IsWithin (length bytes) (behind_header h bytes)
behind_header-within headers.Unfinished bytes positive = tt
behind_header-within (headers.Faulty fault) bytes positive = tt
behind_header-within (headers.Known kind start rest) bytes positive =
    elim (cases_lt MAX_PACKET (start + rest)) [
      | inl long ↦ rw (lt-ltb MAX_PACKET (start + rest) long) tt
      | inr short ↦ elim (cases_lt (length bytes) (start + rest)) [
        | inl part ↦ rw (le-ltb MAX_PACKET (start + rest) short, lt-ltb (length bytes) (start + rest) part) tt
        | inr whole ↦ (let above : 0 < start + rest = omega (arith, positive kind start rest refl) in
            rw (le-ltb MAX_PACKET (start + rest) short, le-ltb (length bytes) (start + rest) whole)
            (sized-within (length bytes) (start + rest)
            (body_of kind (take rest (drop start bytes))) above whole))
      ]
    ]

pub decode-within : (bytes : List ℕ) (packet : Packet) (size : ℕ) → decode bytes ≡ fronts.Whole packet size
    → (0 < size) × (size ≤ length bytes)
decode-within bytes packet size is =
    subst (IsWithin (length bytes)) is
    (behind_header-within (header_at bytes) bytes (header_at-positive bytes))

-- one packet after another

behind_front-same : (f : Front) (bytes : List ℕ) (one other : List ℕ → Read) → decode bytes ≡ f
    → ((rest : List ℕ) → length rest < length bytes → one rest ≡ other rest)
    → behind_front f bytes one ≡ behind_front f bytes other
behind_front-same fronts.Waiting bytes one other is same = refl
behind_front-same (fronts.Faulty fault) bytes one other is same = refl
behind_front-same (fronts.Whole packet size) bytes one other is same =
    let within = decode-within bytes packet size is in
    ap (with_packets (packet ∷ [])) (same (drop size bytes) (omega (arith, length-drop size bytes)))

-- room for more packets than there are changes nothing
read_within-room : (most least : ℕ) (bytes : List ℕ) → length bytes ≤ least → least ≤ most
    → read_within most bytes ≡ read_within least bytes
read_within-room zero zero bytes fits below = refl
read_within-room zero (suc least) bytes fits below = absurd (omega arith)
read_within-room (suc most) zero [] fits below = refl
read_within-room (suc most) zero (b ∷ bytes) fits below = absurd (omega arith)
read_within-room (suc most) (suc least) bytes fits below =
    behind_front-same (decode bytes) bytes (read_within most) (read_within least) refl
    (λ rest less. read_within-room most least rest (omega arith) (omega arith))

abbrev pub alone : End → Read
alone ending = record { packets = []; ending = ending }

pub read_all-waiting : (bytes : List ℕ) → decode bytes ≡ fronts.Waiting → read_all bytes ≡ alone (Rest bytes)
read_all-waiting [] is = refl
read_all-waiting (b ∷ bytes) is = rw is refl

pub read_all-faulty : (bytes : List ℕ) (fault : PacketFault) → decode bytes ≡ fronts.Faulty fault
    → read_all bytes ≡ alone (Fault fault)
read_all-faulty [] fault is = absurd cc
read_all-faulty (b ∷ bytes) fault is = rw is refl

pub read_all-whole : (bytes : List ℕ) (packet : Packet) (size : ℕ) → decode bytes ≡ fronts.Whole packet size
    → read_all bytes ≡ with_packets (packet ∷ []) (read_all (drop size bytes))
read_all-whole [] packet size is = absurd cc
read_all-whole (b ∷ bytes) packet size is =
    let within = decode-within (b ∷ bytes) packet size is in
    rw is (ap (with_packets (packet ∷ []))
    (read_within-room (length bytes) (length (drop size (b ∷ bytes))) (drop size (b ∷ bytes))
    (omega arith) (omega (arith, length-drop size (b ∷ bytes)))))

pub with_packets-both : (first second : List Packet) (read : Read)
    → with_packets first (with_packets second read) ≡ with_packets (first ++ second) read
with_packets-both first second read =
    ap (λ (packets : List Packet). record { packets = packets; ending = read.ending })
    (sym (append_assoc first second read.packets))

-- what is left waits for more

abbrev pub WaitsAt : End → Type 0
WaitsAt (Rest bytes) = decode bytes ≡ fronts.Waiting
WaitsAt (Fault fault) = Unit {0}

waits-behind : (f : Front) (bytes : List ℕ) → decode bytes ≡ f
    → ((rest : List ℕ) → length rest < length bytes → WaitsAt (read_all rest).ending)
    → WaitsAt (read_all bytes).ending
waits-behind fronts.Waiting bytes is others =
    subst (λ (r : Read). WaitsAt r.ending) (sym (read_all-waiting bytes is)) is
waits-behind (fronts.Faulty fault) bytes is others =
    subst (λ (r : Read). WaitsAt r.ending) (sym (read_all-faulty bytes fault is)) tt
waits-behind (fronts.Whole packet size) bytes is others =
    let within = decode-within bytes packet size is in
    subst (λ (r : Read). WaitsAt r.ending) (sym (read_all-whole bytes packet size is))
    (others (drop size bytes) (omega (arith, length-drop size bytes)))

read_all-waits-within : (most : ℕ) (bytes : List ℕ) → length bytes ≤ most → WaitsAt (read_all bytes).ending
read_all-waits-within zero [] fits = refl
read_all-waits-within zero (b ∷ bytes) fits = absurd (omega arith)
read_all-waits-within (suc most) bytes fits =
    waits-behind (decode bytes) bytes refl (λ rest less. read_all-waits-within most rest (omega arith))

pub read_all-waits : (bytes : List ℕ) → WaitsAt (read_all bytes).ending
read_all-waits bytes = read_all-waits-within (length bytes) bytes (omega arith)

-- more bytes are read behind what is left

abbrev pub continued_from : List Packet → End → List ℕ → Read
continued_from packets (Rest bytes) more = with_packets packets (read_all (bytes ++ more))
continued_from packets (Fault fault) more = record { packets = packets; ending = Fault fault }

abbrev pub continued : Read → List ℕ → Read
continued read more = continued_from read.packets read.ending more

continued-both : (packets others : List Packet) (e : End) (more : List ℕ)
    → continued_from (packets ++ others) e more ≡ with_packets packets (continued_from others e more)
continued-both packets others (Rest bytes) more =
    sym (with_packets-both packets others (read_all (bytes ++ more)))
continued-both packets others (Fault fault) more = refl

append-behind : (f : Front) (bytes more : List ℕ) → decode bytes ≡ f
    → ((rest : List ℕ) → length rest < length bytes
    → read_all (rest ++ more) ≡ continued (read_all rest) more)
    → read_all (bytes ++ more) ≡ continued (read_all bytes) more
append-behind fronts.Waiting bytes more is others =
    sym (ap (λ (r : Read). continued r more) (read_all-waiting bytes is))
append-behind (fronts.Faulty fault) bytes more is others =
    elim (decode-more bytes more) [
      | inl waits ↦ absurd (let e : fronts.Faulty fault ≡ fronts.Waiting = sym is ∙ waits in cc)
      | inr same ↦ read_all-faulty (bytes ++ more) fault (same ∙ is)
          ∙ sym (ap (λ (r : Read). continued r more) (read_all-faulty bytes fault is))
    ]
append-behind (fronts.Whole packet size) bytes more is others =
    elim (decode-more bytes more) [
      | inl waits ↦ absurd (let e : fronts.Whole packet size ≡ fronts.Waiting = sym is ∙ waits in cc)
      | inr same ↦ (let within = decode-within bytes packet size is in
          let rest = drop size bytes in
          read_all-whole (bytes ++ more) packet size (same ∙ is)
          ∙ ap (λ (b : List ℕ). with_packets (packet ∷ []) (read_all b))
          (drop-append-le size bytes more within.1)
          ∙ ap (with_packets (packet ∷ [])) (others rest (omega (arith, length-drop size bytes)))
          ∙ sym (continued-both (packet ∷ []) (read_all rest).packets (read_all rest).ending more)
          ∙ sym (ap (λ (r : Read). continued r more) (read_all-whole bytes packet size is)))
    ]

read_all-append-within : (most : ℕ) (bytes more : List ℕ) → length bytes ≤ most
    → read_all (bytes ++ more) ≡ continued (read_all bytes) more
read_all-append-within zero [] more fits = refl
read_all-append-within zero (b ∷ bytes) more fits = absurd (omega arith)
read_all-append-within (suc most) bytes more fits =
    append-behind (decode bytes) bytes more refl
    (λ rest less. read_all-append-within most rest more (omega arith))

pub read_all-append : (bytes more : List ℕ) → read_all (bytes ++ more) ≡ continued (read_all bytes) more
read_all-append bytes more = read_all-append-within (length bytes) bytes more (omega arith)

-- a packet or a fault is no waiting
pub not_sized : (size : ℕ) (r : Result Packet PacketFault) → sized size r ≡ fronts.Waiting → ⊥
not_sized size (Ok packet) is = cc
not_sized size (Err fault) is = cc
