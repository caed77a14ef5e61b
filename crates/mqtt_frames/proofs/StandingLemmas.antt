-- Between what stands at the front of bytes and what is answered to them.
use Rattle.std.proofs.Common.{◌≡◌, ℕ, zero, suc, ◌+◌, ◌<◌, ◌≤◌, Bool, true, false, List, [], ◌∷◌, ◌++◌}
use Rattle.std.proofs.Common.{length, take, drop}
use Rattle.std.proofs.Common.{Option, Some, None, inl, inr, ◌⊎◌, Result, Ok, Err, refl}
use Rattle.std.proofs.Common.{ap, sym, ◌∙◌, arith}
use Rattle.std.proofs.lemmas.Bool.{cases_lt, lt-ltb, le-ltb}
use Rattle.std.proofs.lemmas.List.{take-append-drop, length-take, length-take-le}
use Rattle.mqtt_frames.specs.declared.limits.TheConstants.{MAX_PACKET}
use Rattle.mqtt_frames.specs.declared.fault.PacketFault.{PacketFault}
use Rattle.mqtt_frames.specs.declared.fault.PacketFault.TheVariants.{Malformed, NotSupported, TooLong}
use Rattle.mqtt_frames.specs.declared.packet.Packet.{Packet}
use Rattle.mqtt_frames.specs.declared.packet.Packet.TheVariants as variants
use Rattle.mqtt_frames.specs.declared.kind.Kind.{Kind}
use Rattle.mqtt_frames.specs.declared.kind.Kind.TheVariants as kinds
use Rattle.mqtt_frames.specs.declared.header.Length.{Length}
use Rattle.mqtt_frames.specs.declared.header.Length.TheVariants as lengths
use Rattle.mqtt_frames.specs.declared.header.Header.{Header}
use Rattle.mqtt_frames.specs.declared.header.Header.TheVariants as headers
use Rattle.mqtt_frames.specs.declared.wire.decode.Front.{Front}
use Rattle.mqtt_frames.specs.declared.wire.decode.Front.TheVariants as fronts
use Rattle.mqtt_frames.specs.Packets.{flag, qos_bits, first_byte}
use Rattle.mqtt_frames.specs.Kinds.{kind_of}
use Rattle.mqtt_frames.specs.Reading.{body_of}
use Rattle.mqtt_frames.specs.Headers.{length_at, with_kind, with_length, header_at}
use Rattle.mqtt_frames.specs.Fronts.{sized, behind_header, decode}
use Rattle.mqtt_frames.specs.Laws.{AreBytes}
use Rattle.mqtt_frames.specs.Standing.{BeginsWith, AreMarked, IsHeaderCut, IsFirst, IsOfQos2, IsOtherConnect}
use Rattle.mqtt_frames.specs.Standing.{Begins, IsUnfinished, IsTooLong, IsUnsupported}
use Rattle.mqtt_frames.specs.FrontLaws.{Stands, IsNothing}
use Rattle.mqtt_frames.proofs.SpelledIsRead.{groups-read, kind_for, kind_of-first, front-read}
use Rattle.mqtt_frames.proofs.ReadIsSpelled.{length_at-spelled, byte_of, kind_of-reads, front-spelled}
use Rattle.mqtt_frames.proofs.StreamLemmas.{not_sized, decode-within}
use Rattle.mqtt_frames.proofs.PieceLemmas.{behind_group-unfinished}
use Rattle.mqtt_frames.proofs.FaultLemmas.{body_fault, kind_fault, kind_of-qos_2, connect_other}

-- a packet of each kind

abbrev id_for : Bool → Option ℕ
id_for true = Some 1
id_for false = None

bits_for : (identified : Bool) → qos_bits (id_for identified) ≡ flag identified 2
bits_for true = refl
bits_for false = refl

abbrev packet_for : Kind → Packet
packet_for kinds.Connect = variants.Connect (record { clean_session = false; keep_alive = 0; client_id = [] })
packet_for kinds.ConnectAck = variants.ConnectAck (record { session_present = false; code = 0 })
packet_for (kinds.Publish f) =
    variants.Publish
    (record { dup = f.dup; retain = f.retain; packet_id = id_for f.identified; name = []; payload = [] })
packet_for kinds.PublishAck = variants.PublishAck 1
packet_for kinds.Subscribe = variants.Subscribe (record { packet_id = 1; requests = [] })
packet_for kinds.SubscribeAck = variants.SubscribeAck (record { packet_id = 1; codes = [] })
packet_for kinds.Unsubscribe = variants.Unsubscribe (record { packet_id = 1; filters = [] })
packet_for kinds.UnsubscribeAck = variants.UnsubscribeAck 1
packet_for kinds.PingRequest = variants.PingRequest
packet_for kinds.PingResponse = variants.PingResponse
packet_for kinds.Disconnect = variants.Disconnect

byte_for : (kind : Kind) → first_byte (packet_for kind) ≡ byte_of kind
byte_for kinds.Connect = refl
byte_for kinds.ConnectAck = refl
byte_for (kinds.Publish f) = ap (λ (q : ℕ). 48 + flag f.dup 8 + q + flag f.retain 1) (bits_for f.identified)
byte_for kinds.PublishAck = refl
byte_for kinds.Subscribe = refl
byte_for kinds.SubscribeAck = refl
byte_for kinds.Unsubscribe = refl
byte_for kinds.UnsubscribeAck = refl
byte_for kinds.PingRequest = refl
byte_for kinds.PingResponse = refl
byte_for kinds.Disconnect = refl

is_first : (first : ℕ) (kind : Kind) → kind_of first ≡ Ok kind → IsFirst first
is_first first kind is = record { packet = packet_for kind; is = byte_for kind ∙ kind_of-reads first kind is }

first_kind : (first : ℕ) (f : IsFirst first) → kind_of first ≡ Ok (kind_for f.packet)
first_kind first f = ap kind_of (sym f.is) ∙ kind_of-first f.packet

-- the fixed header

header_at-begins : (first start value : ℕ) (b : List ℕ) → BeginsWith first start value b
    → header_at b ≡ with_kind (kind_of first) start value
header_at-begins first start value b w =
    let known : length_at 4 (w.remaining ++ w.behind) ≡ lengths.Known value (length w.remaining) =
    groups-read 4 value w.remaining w.behind w.spelled.groups w.spelled.most in
    ap header_at w.bytes ∙ ap (with_length first) known
    ∙ ap (λ (n : ℕ). with_kind (kind_of first) n value) (sym w.count)

begins : (first : ℕ) (bytes : List ℕ) (value size : ℕ) → AreBytes bytes
    → length_at 4 bytes ≡ lengths.Known value size → BeginsWith first (1 + size) value (first ∷ bytes)
begins first bytes value size are is =
    let l = length_at-spelled 4 bytes value size are is in
    record {
      remaining = take size bytes;
      behind = drop size bytes;
      spelled = record { groups = l.0.groups; most = omega (arith, length-take size bytes, l.1) };
      count = ap (λ (n : ℕ). 1 + n) (sym (length-take-le size bytes l.0.within));
      bytes = ap (λ (x : List ℕ). first ∷ x) (sym (take-append-drop size bytes));
    }

marked : (most : ℕ) (bytes : List ℕ) → length_at most bytes ≡ lengths.Unfinished
    → AreMarked bytes × (length bytes < most)
marked zero bytes is = absurd cc
marked (suc most) [] is = (tt, omega arith)
marked (suc most) (b ∷ bytes) is =
    elim (cases_lt b 128) [
      | inl small ↦ absurd (let e : lengths.Known b 1 ≡ lengths.Unfinished = rw (lt-ltb b 128 small) at is in
          cc)
      | inr large ↦ (let others = marked most bytes
          (behind_group-unfinished b (length_at most bytes) (rw (le-ltb b 128 large) at is)) in
          ((large, others.0), omega (arith, others.1)))
    ]

marked_cut : (most : ℕ) (bytes : List ℕ) → AreMarked bytes → length bytes < most
    → length_at most bytes ≡ lengths.Unfinished
marked_cut zero bytes are less = absurd (omega arith)
marked_cut (suc most) [] are less = refl
marked_cut (suc most) (b ∷ bytes) are less =
    rw (le-ltb b 128 are.0, marked_cut most bytes are.1 (omega arith)) refl

header_at-cut_off : (b : List ℕ) → IsHeaderCut b → header_at b ≡ headers.Unfinished
header_at-cut_off [] cut = refl
header_at-cut_off (first ∷ rest) cut = ap (with_length first) (marked_cut 4 rest cut.0 cut.1)

-- what a fixed header says of the bytes
record Knows (kind : Kind) (start value : ℕ) (b : List ℕ) : Type 0 where
  first : ℕ
  header : BeginsWith first start value b
  is : kind_of first ≡ Ok kind

abbrev HeaderFact : List ℕ → Header → Type 0
HeaderFact b headers.Unfinished = IsHeaderCut b
HeaderFact b (headers.Faulty fault) =
    (fault ≡ Malformed) ⊎ Begins (λ first start value. kind_of first ≡ Err fault) b
HeaderFact b (headers.Known kind start value) = Knows kind start value b

fact-kind : (first : ℕ) (rest : List ℕ) (value size : ℕ) (r : Result Kind PacketFault)
    → BeginsWith first (1 + size) value (first ∷ rest) → kind_of first ≡ r
    → HeaderFact (first ∷ rest) (with_kind r (1 + size) value)
fact-kind first rest value size (Ok kind) header is = record { first = first; header = header; is = is }
fact-kind first rest value size (Err fault) header is =
    inr (record { first = first; start = 1 + size; value = value; header = header; has = is })

fact-length : (first : ℕ) (rest : List ℕ) (l : Length) → AreBytes rest → length_at 4 rest ≡ l
    → HeaderFact (first ∷ rest) (with_length first l)
fact-length first rest lengths.Unfinished are is = marked 4 rest is
fact-length first rest lengths.Overlong are is = inl refl
fact-length first rest (lengths.Known value size) are is =
    fact-kind first rest value size (kind_of first) (begins first rest value size are is) refl

header_fact : (b : List ℕ) → AreBytes b → HeaderFact b (header_at b)
header_fact [] are = tt
header_fact (first ∷ rest) are = fact-length first rest (length_at 4 rest) are.1 refl

-- of the bytes of a packet whose header is known, its front
record IsCase (kind : Kind) (start value : ℕ) (b : List ℕ) (f : Front) : Type 0 where
  short : start + value ≤ MAX_PACKET
  whole : start + value ≤ length b
  is : sized (start + value) (body_of kind (take value (drop start b))) ≡ f

abbrev Cases : Kind → ℕ → ℕ → List ℕ → Front → Type 0
Cases kind start value b f =
    ((MAX_PACKET < start + value) × (f ≡ fronts.Faulty TooLong))
    ⊎ (((start + value ≤ MAX_PACKET) × (length b < start + value) × (f ≡ fronts.Waiting))
    ⊎ IsCase kind start value b f)

cases_of : (kind : Kind) (start value : ℕ) (b : List ℕ) (f : Front)
    → behind_header (headers.Known kind start value) b ≡ f → Cases kind start value b f
cases_of kind start value b f is =
    elim (cases_lt MAX_PACKET (start + value)) [
      | inl long ↦ inl (long, sym (rw (lt-ltb MAX_PACKET (start + value) long) at is))
      | inr short ↦ elim (cases_lt (length b) (start + value)) [
        | inl part ↦ inr (inl (
          short,
          part,
          sym (rw (le-ltb MAX_PACKET (start + value) short, lt-ltb (length b) (start + value) part) at is),
        ))
        | inr whole ↦ inr (inr (record {
          short = short;
          whole = whole;
          is = rw (le-ltb MAX_PACKET (start + value) short, le-ltb (length b) (start + value) whole) at is;
        }))
      ]
    ]

sized_fault : (size : ℕ) (r : Result Packet PacketFault) (e : PacketFault) → sized size r ≡ fronts.Faulty e
    → r ≡ Err e
sized_fault size (Ok p) e is = absurd cc
sized_fault size (Err d) e is = ap Err cc

-- waiting

waiting_is : (h : Header) (b : List ℕ) → HeaderFact b h → behind_header h b ≡ fronts.Waiting → IsUnfinished b
waiting_is headers.Unfinished b fact is = inl fact
waiting_is (headers.Faulty fault) b fact is = absurd cc
waiting_is (headers.Known kind start value) b fact is =
    elim (cases_of kind start value b fronts.Waiting is) [
      | inl long ↦ absurd (let e = long.1 in cc)
      | inr (inl part) ↦ inr (record {
        first = fact.first;
        start = start;
        value = value;
        header = fact.header;
        has = record { kind = is_first fact.first kind fact.is; short = part.0; part = part.1 };
      })
      | inr (inr whole) ↦ absurd (not_sized (start + value)
          (body_of kind (take value (drop start b))) whole.is)
    ]

pub unfinished_of : (b : List ℕ) → AreBytes b → decode b ≡ fronts.Waiting → IsUnfinished b
unfinished_of b are is = waiting_is (header_at b) b (header_fact b are) is

pub waits_of : (b : List ℕ) → IsUnfinished b → decode b ≡ fronts.Waiting
waits_of b (inl cut) = ap (λ (h : Header). behind_header h b) (header_at-cut_off b cut)
waits_of b (inr u) =
    let known =
    header_at-begins u.first u.start u.value b u.header
    ∙ ap (λ (r : Result Kind PacketFault). with_kind r u.start u.value) (first_kind u.first u.has.kind) in
    ap (λ (h : Header). behind_header h b) known
    ∙ rw (le-ltb MAX_PACKET (u.start + u.value) u.has.short, lt-ltb (length b) (u.start + u.value) u.has.part)
    refl

-- too long

long_is : (h : Header) (b : List ℕ) → HeaderFact b h → behind_header h b ≡ fronts.Faulty TooLong → IsTooLong b
long_is headers.Unfinished b fact is = absurd cc
long_is (headers.Faulty fault) b (inl malformed) is = absurd (let e : fault ≡ TooLong = cc in cc)
long_is (headers.Faulty fault) b (inr begun) is =
    let e : fault ≡ TooLong = cc in
    elim (kind_fault begun.first fault begun.has)
    [ inl unsupported ↦ absurd (let f = unsupported.0 in cc) | inr malformed ↦ absurd cc ]
long_is (headers.Known kind start value) b fact is =
    elim (cases_of kind start value b (fronts.Faulty TooLong) is) [
      | inl long ↦ record {
        first = fact.first;
        start = start;
        value = value;
        header = fact.header;
        has = record { kind = is_first fact.first kind fact.is; long = long.0 };
      }
      | inr (inl part) ↦ absurd (let e = part.2 in cc)
      | inr (inr whole) ↦ elim (body_fault kind (take value (drop start b)) TooLong
          (sized_fault (start + value) _ TooLong whole.is)) [
            | inl malformed ↦ absurd cc
            | inr other ↦ absurd (let f = other.0 in cc)
          ]
    ]

pub too_long_of : (b : List ℕ) → AreBytes b → decode b ≡ fronts.Faulty TooLong → IsTooLong b
too_long_of b are is = long_is (header_at b) b (header_fact b are) is

pub longer_of : (b : List ℕ) → IsTooLong b → decode b ≡ fronts.Faulty TooLong
longer_of b t =
    let known =
    header_at-begins t.first t.start t.value b t.header
    ∙ ap (λ (r : Result Kind PacketFault). with_kind r t.start t.value) (first_kind t.first t.has.kind) in
    ap (λ (h : Header). behind_header h b) known ∙ rw (lt-ltb MAX_PACKET (t.start + t.value) t.has.long) refl

-- not supported

other_first : (first : ℕ) (kind : Kind) → kind_of first ≡ Ok kind → kind ≡ kinds.Connect → first ≡ 16
other_first first kind is connect = sym (kind_of-reads first kind is) ∙ ap byte_of connect

unsupported_is : (h : Header) (b : List ℕ) → HeaderFact b h → behind_header h b ≡ fronts.Faulty NotSupported
    → IsUnsupported b
unsupported_is headers.Unfinished b fact is = absurd cc
unsupported_is (headers.Faulty fault) b (inl malformed) is = absurd (let e : fault ≡ NotSupported = cc in cc)
unsupported_is (headers.Faulty fault) b (inr begun) is =
    let e : fault ≡ NotSupported = cc in
    elim (kind_fault begun.first fault begun.has) [
      | inl qos_2 ↦ record {
        first = begun.first;
        start = begun.start;
        value = begun.value;
        header = begun.header;
        has = inl qos_2.1;
      }
      | inr malformed ↦ absurd cc
    ]
unsupported_is (headers.Known kind start value) b fact is =
    elim (cases_of kind start value b (fronts.Faulty NotSupported) is) [
      | inl long ↦ absurd (let e = long.1 in cc)
      | inr (inl part) ↦ absurd (let e = part.2 in cc)
      | inr (inr whole) ↦ elim (body_fault kind (take value (drop start b)) NotSupported
          (sized_fault (start + value) _ NotSupported whole.is)) [
            | inl malformed ↦ absurd cc
            | inr other ↦ record {
              first = fact.first;
              start = start;
              value = value;
              header = fact.header;
              has =
                  inr (record {
                    connect = other_first fact.first kind fact.is other.1;
                    short = whole.short;
                    whole = whole.whole;
                    flags = other.2;
                  });
            }
          ]
    ]

pub unsupported_of : (b : List ℕ) → AreBytes b → decode b ≡ fronts.Faulty NotSupported → IsUnsupported b
unsupported_of b are is = unsupported_is (header_at b) b (header_fact b are) is

refused : (b : List ℕ) (first start value : ℕ) → BeginsWith first start value b
    → IsOfQos2 first ⊎ IsOtherConnect first start value b → decode b ≡ fronts.Faulty NotSupported
refused b first start value header (inl qos_2) =
    let faulty =
    header_at-begins first start value b header
    ∙ ap (λ (r : Result Kind PacketFault). with_kind r start value) (kind_of-qos_2 first qos_2) in
    ap (λ (h : Header). behind_header h b) faulty
refused b first start value header (inr other) =
    let known =
    header_at-begins first start value b header
    ∙ ap (λ (n : ℕ). with_kind (kind_of n) start value) other.connect in
    ap (λ (h : Header). behind_header h b) known
    ∙ rw (le-ltb MAX_PACKET (start + value) other.short, le-ltb (length b) (start + value) other.whole)
    (ap (sized (start + value)) (connect_other (take value (drop start b)) other.flags))

pub refused_of : (b : List ℕ) → IsUnsupported b → decode b ≡ fronts.Faulty NotSupported
refused_of b u = refused b u.first u.start u.value u.header u.has

-- a packet

pub stands_of : (b : List ℕ) (p : Packet) (size : ℕ) → AreBytes b → decode b ≡ fronts.Whole p size
    → Stands p size b
stands_of b p size are is =
    let spelled = front-spelled p b size are is in
    record { spelled = spelled.0; short = spelled.1; within = (decode-within b p size is).1 }

pub whole_of : (b : List ℕ) (p : Packet) (size : ℕ) → Stands p size b → decode b ≡ fronts.Whole p size
whole_of b p size s =
    let count : length (take size b) ≡ size = length-take-le size b s.within in
    ap decode (sym (take-append-drop size b))
    ∙ front-read p (take size b) (drop size b) s.spelled (omega arith) ∙ ap (fronts.Whole p) count

-- the rest

pub nothing_of : (b : List ℕ) → decode b ≡ fronts.Faulty Malformed → IsNothing b
nothing_of b is = record {
  finished = λ u. (let e = sym is ∙ waits_of b u in cc);
  short = λ t. (let e = sym is ∙ longer_of b t in cc);
  supported = λ u. (let e = sym is ∙ refused_of b u in cc);
  none = λ p size s. (let e = sym is ∙ whole_of b p size s in cc);
}

rest_is : (f : Front) (b : List ℕ) → AreBytes b → decode b ≡ f → IsNothing b → f ≡ fronts.Faulty Malformed
rest_is fronts.Waiting b are is n = absurd (n.finished (unfinished_of b are is))
rest_is (fronts.Faulty Malformed) b are is n = refl
rest_is (fronts.Faulty NotSupported) b are is n = absurd (n.supported (unsupported_of b are is))
rest_is (fronts.Faulty TooLong) b are is n = absurd (n.short (too_long_of b are is))
rest_is (fronts.Whole p size) b are is n = absurd (n.none p size (stands_of b p size are is))

pub malformed_of : (b : List ℕ) → AreBytes b → IsNothing b → decode b ≡ fronts.Faulty Malformed
malformed_of b are n = rest_is (decode b) b are refl n
