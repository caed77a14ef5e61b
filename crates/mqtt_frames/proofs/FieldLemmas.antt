-- Between the fields of a packet and their bytes, one way and the other.
use Rattle.std.proofs.Common.{◌≡◌, ℕ, ◌+◌, ◌<◌, ◌≤◌, ◌==◌, Bool, true, false, List, [], ◌∷◌, ◌++◌, length}
use Rattle.std.proofs.Common.{take, drop, length-append, length-drop, nat_lt, if◌then◌else◌, Result, Ok, Err}
use Rattle.std.proofs.Common.{refl, ap, sym, subst, ◌∙◌, ◌⊎◌, inl, inr, arith}
use Rattle.std.proofs.lemmas.Bool.{ltb-false, eqb-true}
use Rattle.std.proofs.lemmas.Bool.Decides.{nat_tests}
use Rattle.std.proofs.lemmas.List.{take-append-drop}
use Rattle.mqtt_frames.specs.declared.fault.PacketFault.{PacketFault}
use Rattle.mqtt_frames.specs.declared.fault.PacketFault.TheVariants.{Malformed}
use Rattle.mqtt_frames.specs.declared.packet.RequestedQos.{RequestedQos}
use Rattle.mqtt_frames.specs.declared.packet.RequestedQos.TheVariants.{AtMostOnce, AtLeastOnce, ExactlyOnce}
use Rattle.mqtt_frames.specs.declared.packet.Request.{Request}
use Rattle.mqtt_frames.specs.Packets.{qos_byte}
use Rattle.mqtt_frames.specs.Reading.{◌>>=◌, number, number_at, id_at, text_at, qos_of, qos_behind}
use Rattle.mqtt_frames.specs.Reading.{request_at}
use Rattle.mqtt_frames.proofs.Items.{Consumes}

-- the value of a step that did not fail
pub bind_ok : {A B : Type 0} (r : Result A PacketFault) (f : A → Result B PacketFault) (y : B)
    → (r >>= f) ≡ Ok y → (x : A) × (r ≡ Ok x) × (f x ≡ Ok y)
bind_ok (Ok x) f y e = (x, refl, e)
bind_ok (Err d) f y e = absurd cc

-- a test that let a value through
pub guard_ok : {A : Type 0} (b : Bool) (d : PacketFault) (r : Result A PacketFault) (y : A)
    → (if b then Err d else r) ≡ Ok y → (b ≡ false) × (r ≡ Ok y)
guard_ok true d r y e = absurd cc
guard_ok false d r y e = (refl, e)

-- the same of a test that has to hold
pub pass_ok : {A : Type 0} (b : Bool) (d : PacketFault) (r : Result A PacketFault) (y : A)
    → (if b then r else Err d) ≡ Ok y → (b ≡ true) × (r ≡ Ok y)
pass_ok true d r y e = (refl, e)
pass_ok false d r y e = absurd cc

abbrev pub done : {A : Type 0} → A → Result A PacketFault
done x = Ok x

pub ok_is : {A : Type 0} (x y : A) → done x ≡ done y → x ≡ y
ok_is x y e = cc

pub either : {A : Type 0} (b : Bool) (one other : Result A PacketFault) (y : A)
    → (if b then one else other) ≡ Ok y → ((b ≡ true) × (one ≡ Ok y)) ⊎ ((b ≡ false) × (other ≡ Ok y))
either true one other y e = inl (refl, e)
either false one other y e = inr (refl, e)

-- one of several bytes, each with its meaning
pub link : {A : Type 0} (byte n : ℕ) (x : A) (others : Result A PacketFault) (y : A) (byte_of : A → ℕ)
    → byte_of x ≡ n → (others ≡ Ok y → byte_of y ≡ byte) → (if byte == n then Ok x else others) ≡ Ok y
    → byte_of y ≡ byte
link byte n x others y byte_of is further e =
    elim (either (byte == n) (Ok x) others y e) [
      | inl one ↦ ap byte_of (sym (ok_is x y one.1)) ∙ is ∙ sym (eqb-true byte n one.0)
      | inr other ↦ further other.1
    ]

-- a number at the front is its two bytes
pub record IsSplit (bytes : List ℕ) (n : ℕ) (rest : List ℕ) : Type 0 where
  pub high : ℕ
  pub low : ℕ
  pub value : n ≡ number high low
  pub parts : bytes ≡ high ∷ low ∷ rest

pub number_at-reads : (bytes : List ℕ) (x : ℕ × List ℕ) → number_at bytes ≡ Ok x → IsSplit bytes x.0 x.1
number_at-reads [] x is = absurd cc
number_at-reads (a ∷ []) x is = absurd cc
number_at-reads (high ∷ low ∷ rest) x is =
    let pair : (number high low, rest) ≡ x = ok_is (number high low, rest) x is in
    subst (λ (y : ℕ × List ℕ). IsSplit (high ∷ low ∷ rest) y.0 y.1) pair
    (record { high = high; low = low; value = refl; parts = refl })

pub id_at-reads : (bytes : List ℕ) (x : ℕ × List ℕ) → id_at bytes ≡ Ok x → (0 < x.0) × IsSplit bytes x.0 x.1
id_at-reads bytes x is =
    let front = bind_ok (number_at bytes) (λ id. if id.0 == 0 then Err Malformed else Ok id) x is in
    let test = guard_ok (front.0.0 == 0) Malformed (Ok front.0) x front.2 in
    let same : front.0 ≡ x = ok_is front.0 x test.1 in
    let other : (front.0.0 == 0) ≡ false = test.0 in
    let above : 0 < front.0.0 = grind (arith, nat_tests) in
    subst (λ (y : ℕ × List ℕ). (0 < y.0) × IsSplit bytes y.0 y.1) same
    (above, number_at-reads bytes front.0 front.1)

-- a text at the front is its length and its bytes
pub record IsText (bytes text rest : List ℕ) : Type 0 where
  pub high : ℕ
  pub low : ℕ
  pub value : length text ≡ number high low
  pub parts : bytes ≡ high ∷ low ∷ (text ++ rest)

pub text_at-reads : (bytes : List ℕ) (x : List ℕ × List ℕ) → text_at bytes ≡ Ok x → IsText bytes x.0 x.1
text_at-reads bytes x is =
    let count =
    bind_ok (number_at bytes)
    (λ count. if nat_lt (length count.1) count.0 then Err Malformed
    else Ok (take count.0 count.1, drop count.0 count.1)) x is in
    let n = count.0.0 in
    let behind = count.0.1 in
    let test = guard_ok (nat_lt (length behind) n) Malformed (Ok (take n behind, drop n behind)) x count.2 in
    let fits : n ≤ length behind = ltb-false (length behind) n test.0 in
    let same : (take n behind, drop n behind) ≡ x = ok_is (take n behind, drop n behind) x test.1 in
    let split = number_at-reads bytes count.0 count.1 in
    let whole : take n behind ++ drop n behind ≡ behind = take-append-drop n behind in
    subst (λ (y : List ℕ × List ℕ). IsText bytes y.0 y.1) same (record {
      high = split.high;
      low = split.low;
      value =
          omega (
            arith,
            ap length whole,
            length-append (take n behind) (drop n behind),
            length-drop n behind,
            split.value,
          );
      parts = split.parts ∙ ap (λ (t : List ℕ). split.high ∷ split.low ∷ t) (sym whole);
    })

length-text : (bytes text rest : List ℕ) → IsText bytes text rest
    → length bytes ≡ 2 + length text + length rest
length-text bytes text rest t = ap length t.parts ∙ simp length-append (omega arith)

pub Consumes-text_at : Consumes text_at
Consumes-text_at bytes x rest is = omega (arith, length-text bytes x rest (text_at-reads bytes (x, rest) is))

-- a level, by its byte
pub qos_of-reads : (byte : ℕ) (qos : RequestedQos) → qos_of byte ≡ Ok qos → qos_byte qos ≡ byte
qos_of-reads byte qos is =
    link byte 0 AtMostOnce _ qos qos_byte refl
    (λ one. link byte 1 AtLeastOnce _ qos qos_byte refl
    (λ two. link byte 2 ExactlyOnce (Err Malformed) qos qos_byte refl (λ three. absurd cc) two) one) is

-- a topic filter and its level at the front
pub record IsRequest (bytes : List ℕ) (r : Request) (rest : List ℕ) : Type 0 where
  pub behind : List ℕ
  pub filter : IsText bytes r.filter behind
  pub parts : behind ≡ qos_byte r.qos ∷ rest

qos_behind-reads : (filter bytes : List ℕ) (x : Request × List ℕ) → qos_behind filter bytes ≡ Ok x
    → (x.0.filter ≡ filter) × (bytes ≡ qos_byte x.0.qos ∷ x.1)
qos_behind-reads filter [] x is = absurd cc
qos_behind-reads filter (byte ∷ rest) x is =
    let qos = bind_ok (qos_of byte) (λ qos. Ok (record { filter = filter; qos = qos }, rest)) x is in
    let same : (
      record {
        filter =
            filter;
        qos = qos.0;
      },
      rest,
    ) ≡ x = ok_is (record { filter = filter; qos = qos.0 }, rest) x qos.2 in
    subst (λ (y : Request × List ℕ). (y.0.filter ≡ filter) × (byte ∷ rest ≡ qos_byte y.0.qos ∷ y.1)) same
    (refl, ap (λ b. b ∷ rest) (sym (qos_of-reads byte qos.0 qos.1)))

pub request_at-reads : (bytes : List ℕ) (x : Request × List ℕ) → request_at bytes ≡ Ok x
    → IsRequest bytes x.0 x.1
request_at-reads bytes x is =
    let text = bind_ok (text_at bytes) (λ filter. qos_behind filter.0 filter.1) x is in
    let behind = qos_behind-reads text.0.0 text.0.1 x text.2 in
    record {
      behind = text.0.1;
      filter = subst (λ t. IsText bytes t text.0.1) (sym behind.0) (text_at-reads bytes text.0 text.1);
      parts = behind.1;
    }

pub Consumes-request_at : Consumes request_at
Consumes-request_at bytes x rest is =
    let r = request_at-reads bytes (x, rest) is in
    omega (arith, length-text bytes x.filter r.behind r.filter, ap length r.parts)
