-- The Flags octet and its fields, from one to the other and back.
use Rattle.std.proofs.Common.{◌≡◌, ℕ, zero, suc, ◌+◌, ◌*◌, ◌/◌, ◌%◌, ◌<◌, ◌==◌, Bool, true, false, refl, ap}
use Rattle.std.proofs.Common.{◌∙◌, arith}
use Rattle.sng_frames.specs.declared.flags.Flags.{Flags}
use Rattle.sng_frames.specs.declared.qos.FrameQos.{FrameQos}
use Rattle.sng_frames.specs.declared.qos.FrameQos.TheVariants.{AtMostOnce, AtLeastOnce, ExactlyOnce}
use Rattle.sng_frames.specs.declared.qos.FrameQos.TheVariants.{WithoutSession}
use Rattle.sng_frames.specs.declared.flags.TopicIdType.{TopicIdType}
use Rattle.sng_frames.specs.declared.flags.TopicIdType.TheVariants.{Normal, Predefined, Short, Reserved}
use Rattle.sng_frames.specs.FlagsOctet.{bit, qos_bits, id_type_bits, flags_octet, qos_of, id_type_of}
use Rattle.sng_frames.specs.FlagsOctet.{flags_of}

-- an octet from its parts
abbrev sum_of : ℕ → ℕ → ℕ → ℕ → ℕ → ℕ → ℕ
sum_of dup qos retain will clean id = dup * 128 + qos * 32 + retain * 16 + will * 8 + clean * 4 + id

-- the number that a flag is
abbrev value_of : Bool → ℕ
value_of true = 1
value_of false = 0

abbrev level_of : FrameQos → ℕ
level_of AtMostOnce = 0
level_of AtLeastOnce = 1
level_of ExactlyOnce = 2
level_of WithoutSession = 3

value-fits : (b : Bool) → value_of b < 2
value-fits true = omega arith
value-fits false = omega arith

level-fits : (q : FrameQos) → level_of q < 4
level-fits AtMostOnce = omega arith
level-fits AtLeastOnce = omega arith
level-fits ExactlyOnce = omega arith
level-fits WithoutSession = omega arith

id_type-fits : (t : TopicIdType) → id_type_bits t < 4
id_type-fits Normal = omega arith
id_type-fits Predefined = omega arith
id_type-fits Short = omega arith
id_type-fits Reserved = omega arith

bit-value : (b : Bool) (weight : ℕ) → bit b weight ≡ value_of b * weight
bit-value true weight = omega arith
bit-value false weight = omega arith

qos_bits-level : (q : FrameQos) → qos_bits q ≡ level_of q * 32
qos_bits-level AtMostOnce = refl
qos_bits-level AtLeastOnce = refl
qos_bits-level ExactlyOnce = refl
qos_bits-level WithoutSession = refl

sum-parts : (dup qos retain will clean id : ℕ) → dup < 2 → qos < 4 → retain < 2 → will < 2 → clean < 2
    → id < 4
    → let octet = sum_of dup qos retain will clean id in
    (octet / 128 % 2 ≡ dup) × (octet / 32 % 4 ≡ qos) × (octet / 16 % 2 ≡ retain) × (octet / 8 % 2 ≡ will)
    × (octet / 4 % 2 ≡ clean) × (octet % 4 ≡ id)
sum-parts dup qos retain will clean id a b c d e f =
    (omega arith, omega arith, omega arith, omega arith, omega arith, omega arith)

parts-sum : (octet : ℕ) → octet < 256
    → sum_of (octet / 128 % 2) (octet / 32 % 4) (octet / 16 % 2) (octet / 8 % 2) (octet / 4 % 2)
    (octet % 4) ≡ octet
parts-sum octet fits = omega arith

octet-sum : (f : Flags)
    → flags_octet f ≡ sum_of (value_of f.dup) (level_of f.qos) (value_of f.retain) (value_of f.will)
    (value_of f.clean) (id_type_bits f.id_type)
octet-sum f =
    omega (
      arith,
      bit-value f.dup 128,
      qos_bits-level f.qos,
      bit-value f.retain 16,
      bit-value f.will 8,
      bit-value f.clean 4,
    )

-- the fields of parts
abbrev fields : ℕ → ℕ → ℕ → ℕ → ℕ → ℕ → Flags
fields dup qos retain will clean id = record {
  dup = dup == 1;
  qos = qos_of qos;
  retain = retain == 1;
  will = will == 1;
  clean = clean == 1;
  id_type = id_type_of id;
}

fields-sum : (dup qos retain will clean id : ℕ) → dup < 2 → qos < 4 → retain < 2 → will < 2 → clean < 2
    → id < 4
    → flags_of (sum_of dup qos retain will clean id) ≡ fields dup qos retain will clean id
fields-sum dup qos retain will clean id a b c d e f =
    let parts = sum-parts dup qos retain will clean id a b c d e f in
    rw (parts.0, parts.1, parts.2, parts.3, parts.4, parts.5) refl

test-value : (b : Bool) → (value_of b == 1) ≡ b
test-value true = refl
test-value false = refl

qos_of-level : (q : FrameQos) → qos_of (level_of q) ≡ q
qos_of-level AtMostOnce = refl
qos_of-level AtLeastOnce = refl
qos_of-level ExactlyOnce = refl
qos_of-level WithoutSession = refl

id_type_of-bits : (t : TopicIdType) → id_type_of (id_type_bits t) ≡ t
id_type_of-bits Normal = refl
id_type_of-bits Predefined = refl
id_type_of-bits Short = refl
id_type_of-bits Reserved = refl

fields-values : (f : Flags)
    → fields (value_of f.dup) (level_of f.qos) (value_of f.retain) (value_of f.will) (value_of f.clean)
    (id_type_bits f.id_type) ≡ f
fields-values f =
    rw (
      test-value f.dup,
      qos_of-level f.qos,
      test-value f.retain,
      test-value f.will,
      test-value f.clean,
      id_type_of-bits f.id_type,
    ) refl

-- the octet of some fields has those fields
pub flags_of-flags_octet : (f : Flags) → flags_of (flags_octet f) ≡ f
flags_of-flags_octet f =
    ap flags_of (octet-sum f)
    ∙ fields-sum _ _ _ _ _ _ (value-fits f.dup) (level-fits f.qos) (value-fits f.retain) (value-fits f.will)
    (value-fits f.clean) (id_type-fits f.id_type)
    ∙ fields-values f

bit-test : (x weight : ℕ) → x < 2 → bit (x == 1) weight ≡ x * weight
bit-test zero weight fits = omega arith
bit-test (suc zero) weight fits = omega arith
bit-test (suc (suc x)) weight fits = absurd (omega arith)

qos_bits-of : (x : ℕ) → x < 4 → qos_bits (qos_of x) ≡ x * 32
qos_bits-of zero fits = refl
qos_bits-of (suc zero) fits = refl
qos_bits-of (suc (suc zero)) fits = refl
qos_bits-of (suc (suc (suc zero))) fits = refl
qos_bits-of (suc (suc (suc (suc x)))) fits = absurd (omega arith)

id_type_bits-of : (x : ℕ) → x < 4 → id_type_bits (id_type_of x) ≡ x
id_type_bits-of zero fits = refl
id_type_bits-of (suc zero) fits = refl
id_type_bits-of (suc (suc zero)) fits = refl
id_type_bits-of (suc (suc (suc zero))) fits = refl
id_type_bits-of (suc (suc (suc (suc x)))) fits = absurd (omega arith)

-- the fields of an octet are those of no other
pub flags_octet-flags_of : (octet : ℕ) → octet < 256 → flags_octet (flags_of octet) ≡ octet
flags_octet-flags_of octet fits =
    let dup = bit-test (octet / 128 % 2) 128 (omega arith) in
    let qos = qos_bits-of (octet / 32 % 4) (omega arith) in
    let retain = bit-test (octet / 16 % 2) 16 (omega arith) in
    let will = bit-test (octet / 8 % 2) 8 (omega arith) in
    let clean = bit-test (octet / 4 % 2) 4 (omega arith) in
    let id = id_type_bits-of (octet % 4) (omega arith) in
    rw (dup, qos, retain, will, clean, id) (parts-sum octet fits)
