-- Between the bytes of a datagram and what it is read as, one way and the other.
use Rattle.std.proofs.Common.{◌≡◌, ℕ, suc, ◌+◌, ◌<◌, ◌==◌, Bool, true, false, ◌&&◌, ◌||◌, List, [], ◌∷◌}
use Rattle.std.proofs.Common.{length, Option, Some, None, Result, Ok, Err, ◌⊎◌, inl, inr, if◌then◌else◌, refl}
use Rattle.std.proofs.Common.{ap, sym, subst, ◌∙◌, arith, nat_lt, eq-eqb}
use Rattle.std.specs.Option.{option_and_then}
use Rattle.std.proofs.lemmas.Bool.{eqb-true}
use Rattle.std.proofs.lemmas.Bool.Decides.{nat_tests}
use Rattle.std.proofs.lemmas.List.Elements.{All-tail}
use Rattle.sng_frames.specs.declared.fault.FrameFault.{FrameFault}
use Rattle.sng_frames.specs.declared.fault.FrameFault.TheVariants.{Malformed, NotSupported, TooLong, Memory}
use Rattle.sng_frames.specs.declared.frame.SnFrame.{SnFrame}
use Rattle.sng_frames.specs.declared.message_type.MessageType.{MessageType}
use Rattle.sng_frames.specs.Grammar.{SpellsMessage, Spells, type_of, IsDiscovery, IsUnsupported}
use Rattle.sng_frames.specs.Laws.{AreOctets}
use Rattle.sng_frames.specs.MessageTypes.{octet_of, type_of_octet}
use Rattle.sng_frames.specs.Parts.{number, part_read}
use Rattle.sng_frames.specs.Reading.{is_discovery, or_malformed, message_of, behind_length, behind_one}
use Rattle.sng_frames.specs.Reading.{octets_read}
use Rattle.sng_frames.proofs.FrameReading.{part_read-spelled, part_read-reads}
use Rattle.sng_frames.proofs.TypeOctets.{type_of_octet-octet_of, octet_of-type_of_octet, octet_of-other}

-- what an answer says of the bytes
abbrev pub Says : List ℕ → Result SnFrame FrameFault → Type 0
Says b (Ok frame) = Spells frame b
Says b (Err NotSupported) = IsUnsupported b
Says b (Err Malformed) = Unit {0}
Says b (Err TooLong) = ⊥
Says b (Err Memory) = ⊥

chosen : (P : Result SnFrame FrameFault → Type 0) (b : Bool) (one other : Result SnFrame FrameFault)
    → (b ≡ true → P one) → (b ≡ false → P other) → P (if b then one else other)
chosen P true one other first second = first refl
chosen P false one other first second = second refl

-- the tests of gateway discovery
both : (a b : Bool) → (a && b) ≡ true → (a ≡ true) × (b ≡ true)
both true true is = (refl, refl)
both true false is = cc
both false b is = cc

either : (a b : Bool) → (a || b) ≡ true → (a ≡ true) ⊎ (b ≡ true)
either true b is = inl refl
either false b is = inr is

IsDiscovery-is : (kind : ℕ) (part : List ℕ) → is_discovery kind part ≡ true → IsDiscovery kind part
IsDiscovery-is kind part is =
    elim (either ((kind == 0) && (length part == 3)) _ is) [
      | inl advertise ↦
          (let t = both _ _ advertise in inl (eqb-true kind 0 t.0, eqb-true (length part) 3 t.1))
      | inr others ↦ elim (either ((kind == 1) && (length part == 1)) _ others) [
        | inl search_gateway ↦
            (let t = both _ _ search_gateway in inr (inl (eqb-true kind 1 t.0, eqb-true (length part) 1 t.1)))
        | inr gateway ↦
            (let t = both (kind == 2) (nat_lt 0 (length part)) gateway in
            inr (inr (eqb-true kind 2 t.0, grind (arith, nat_tests, t.1))))
      ]
    ]

is_discovery-spelled : (kind : ℕ) (part : List ℕ) → IsDiscovery kind part → (is_discovery kind part ≡ true)
    × ((kind == 0xfe) ≡ false)
is_discovery-spelled kind part (inl d) = (rw (d.0, d.1) refl, rw d.0 refl)
is_discovery-spelled kind part (inr (inl d)) = (rw (d.0, d.1) refl, rw d.0 refl)
is_discovery-spelled kind part (inr (inr d)) =
    let some : nat_lt 0 (length part) ≡ true = grind (arith, nat_tests, d.1) in
    (rw (d.0, some) refl, rw d.0 refl)

-- a type that is read is none of these
is_discovery-type : (t : MessageType) (part : List ℕ) → (is_discovery (octet_of t) part ≡ false)
    × ((octet_of t == 0xfe) ≡ false)
is_discovery-type t part =
    let advertise = octet_of-other t 0 (octet_of t == 0) refl refl in
    let search_gateway = octet_of-other t 1 (octet_of t == 1) refl refl in
    let gateway = octet_of-other t 2 (octet_of t == 2) refl refl in
    (rw (advertise, search_gateway, gateway) refl, octet_of-other t 0xfe (octet_of t == 0xfe) refl refl)

-- a message, by what its type and its variable part are read as
typed-says : (b : List ℕ) (kind : ℕ) (part : List ℕ) (t : MessageType) (r : Option SnFrame) → AreOctets part
    → SpellsMessage kind part b
    → type_of_octet kind ≡ Some t → part_read t part ≡ r → Says b (or_malformed r)
typed-says b kind part t None are message type read = tt
typed-says b kind part t (Some frame) are message type read =
    let f = part_read-reads t frame part are read in
    let same : kind ≡ octet_of (type_of frame) =
    octet_of-type_of_octet kind t type ∙ ap octet_of (sym f.is_type) in
    record { part = part; variable = f.spelled; message = subst (λ k. SpellsMessage k part b) same message }

kind-says : (b : List ℕ) (kind : ℕ) (part : List ℕ) (o : Option MessageType) → AreOctets part
    → SpellsMessage kind part b
    → type_of_octet kind ≡ o → Says b (or_malformed (option_and_then (λ t. part_read t part) o))
kind-says b kind part None are message type = tt
kind-says b kind part (Some t) are message type =
    typed-says b kind part t (part_read t part) are message type refl

message_of-says : (b : List ℕ) (kind : ℕ) (part : List ℕ) → AreOctets part → SpellsMessage kind part b
    → Says b (message_of kind part)
message_of-says b kind part are message =
    chosen (Says b) (is_discovery kind part) (Err NotSupported)
    (or_malformed (option_and_then (λ t. part_read t part) (type_of_octet kind)))
    (λ is. inl (record { kind = kind; part = part; is = IsDiscovery-is kind part is; message = message }))
    (λ is. kind-says b kind part (type_of_octet kind) are message refl)

behind_length-says : (b : List ℕ) (stated size kind : ℕ) (part : List ℕ) → AreOctets part
    → (stated ≡ size → SpellsMessage kind part b) → (kind ≡ 0xfe → IsUnsupported b)
    → Says b (behind_length stated size (kind ∷ part))
behind_length-says b stated size kind part are message encapsulated =
    chosen (Says b) (kind == 0xfe) (Err NotSupported)
    (if stated == size then message_of kind part else Err Malformed)
    (λ is. encapsulated (eqb-true kind 0xfe is))
    (λ is. chosen (Says b) (stated == size) (message_of kind part) (Err Malformed)
    (λ right. message_of-says b kind part are (message (eqb-true stated size right)))
    (λ wrong. tt))

tail : (octet : ℕ) (octets : List ℕ) → AreOctets (octet ∷ octets) → AreOctets octets
tail octet octets are = All-tail (λ n. n < 256) octet octets are

short-says : (first : ℕ) (octets : List ℕ) → AreOctets (first ∷ octets) → (first == 1) ≡ false
    → Says (first ∷ octets) (behind_length first (length (first ∷ octets)) octets)
short-says first [] are other = tt
short-says first (kind ∷ part) are other =
    let low : first < 256 = are 0 0 (omega arith) in
    behind_length-says (first ∷ kind ∷ part) first (length (first ∷ kind ∷ part)) kind part
    (tail kind part (tail first (kind ∷ part) are))
    (λ stated. inl (record {
      octets =
          (let counted : first ≡ length part + 2 = omega (arith, stated) in
          ap (λ n. n ∷ kind ∷ part) counted);
      fits = omega (arith, stated, low);
    }))
    (λ is. inr (inl (record {
      first = first;
      rest = part;
      short = grind (arith, nat_tests, other);
      octets = ap (λ k. first ∷ k ∷ part) is;
    })))

long-says : (octets : List ℕ) → AreOctets (1 ∷ octets)
    → Says (1 ∷ octets) (behind_one (length (1 ∷ octets)) octets)
long-says [] are = tt
long-says (high ∷ []) are = tt
long-says (high ∷ low ∷ []) are = tt
long-says (high ∷ low ∷ kind ∷ part) are =
    behind_length-says (1 ∷ high ∷ low ∷ kind ∷ part) (number high low)
    (length (1 ∷ high ∷ low ∷ kind ∷ part)) kind part
    (tail kind part
    (tail low (kind ∷ part) (tail high (low ∷ kind ∷ part) (tail 1 (high ∷ low ∷ kind ∷ part) are))))
    (λ stated. inr (record {
      high = high;
      low = low;
      total = record {
        high_fits = are 1 0 (omega arith);
        low_fits = are 2 0 (omega arith);
        value = omega (arith, stated);
      };
      octets = refl;
    }))
    (λ is. inr
    (inr
    (record { high = high; low = low; rest = part; octets = ap (λ k. 1 ∷ high ∷ low ∷ k ∷ part) is })))

-- what the octets of a datagram are read as says what they spell
pub octets_read-says : (b : List ℕ) → AreOctets b → Says b (octets_read (length b) b)
octets_read-says [] are = tt
octets_read-says (first ∷ octets) are =
    chosen (Says (first ∷ octets)) (first == 1) (behind_one (length (first ∷ octets)) octets)
    (behind_length first (length (first ∷ octets)) octets)
    (λ one. (let is : first ≡ 1 = eqb-true first 1 one in
    subst (λ n. Says (n ∷ octets) (behind_one (length (first ∷ octets)) octets)) (sym is)
    (long-says octets (subst (λ n. AreOctets (n ∷ octets)) is are))))
    (λ other. short-says first octets are other)

-- a message is read by its type and its variable part
octets_read-message : (kind : ℕ) (part b : List ℕ) → SpellsMessage kind part b → (kind == 0xfe) ≡ false
    → octets_read (length b) b ≡ message_of kind part
octets_read-message kind part b (inl s) plain =
    let other : (length part + 2 == 1) ≡ false = grind (arith, nat_tests) in
    let right : (length part + 2 == suc (suc (length part))) ≡ true = grind (arith, nat_tests) in
    rw (s.octets, other, plain, right) refl
octets_read-message kind part b (inr s) plain =
    let right : (number s.high s.low == suc (suc (suc (suc (length part))))) ≡ true =
    eq-eqb _ _ (omega (arith, s.total.value)) in
    rw (s.octets, plain, right) refl

-- the octets that spell a frame are read as that frame
pub octets_read-spelled : (b : List ℕ) (frame : SnFrame) → Spells frame b
    → octets_read (length b) b ≡ Ok frame
octets_read-spelled b frame s =
    let t = is_discovery-type (type_of frame) s.part in
    octets_read-message (octet_of (type_of frame)) s.part b s.message t.1
    ∙ rw (t.0, type_of_octet-octet_of (type_of frame), part_read-spelled frame s.part s.variable) refl

-- those of a type that is not read are not supported
pub octets_read-unsupported : (b : List ℕ) → IsUnsupported b → octets_read (length b) b ≡ Err NotSupported
octets_read-unsupported b (inl s) =
    let d = is_discovery-spelled s.kind s.part s.is in
    octets_read-message s.kind s.part b s.message d.1 ∙ rw d.0 refl
octets_read-unsupported b (inr (inl s)) =
    let other : (s.first == 1) ≡ false = grind (arith, nat_tests, s.short) in
    rw (s.octets, other) refl
octets_read-unsupported b (inr (inr s)) = rw s.octets refl
