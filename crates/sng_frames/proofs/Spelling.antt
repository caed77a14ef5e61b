-- What is written is spelled, and is the shortest spelling.
use Rattle.std.proofs.Common.{◌≡◌, ℕ, ◌+◌, ◌/◌, ◌%◌, ◌^◌, ◌<◌, ◌≤◌, ◌⊎◌, List, ◌∷◌, length, refl, ap, sym}
use Rattle.std.proofs.Common.{subst, ◌∙◌, inl, inr, arith}
use Rattle.std.proofs.lemmas.Bool.{cases_lt, lt-ltb, le-ltb}
use Rattle.sng_frames.specs.declared.frame.SnFrame.{SnFrame}
use Rattle.sng_frames.specs.Grammar.{SpellsMessage, SpellsPart, Spells, IsInRange, TopicFits, type_of}
use Rattle.sng_frames.specs.declared.limits.TheConstants.{MAX_DATAGRAM, MAX_SHORT_LENGTH}
use Rattle.sng_frames.specs.MessageTypes.{octet_of}
use Rattle.sng_frames.specs.Writing.{number_then, written, framed, part_of, HasNoSpelling}
use Rattle.sng_frames.proofs.PartWriting.{IsNumber-halves, number_then-halves, part_of-only}
use Rattle.sng_frames.proofs.PartWriting.{SpellsPart-part_of}

framed-short : (kind : ℕ) (part : List ℕ) → length part + 2 ≤ MAX_SHORT_LENGTH
    → framed kind part ≡ (length part + 2) ∷ kind ∷ part
framed-short kind part short = rw (le-ltb MAX_SHORT_LENGTH (length part + 2) short) refl

framed-long : (kind : ℕ) (part : List ℕ) → MAX_SHORT_LENGTH < length part + 2
    → framed kind part ≡ 1 ∷ number_then (length part + 4) (kind ∷ part)
framed-long kind part long = rw (lt-ltb MAX_SHORT_LENGTH (length part + 2) long) refl

SpellsMessage-framed : (kind : ℕ) (part : List ℕ) → length part + 4 < 2 ^ 16
    → SpellsMessage kind part (framed kind part)
SpellsMessage-framed kind part fits =
    elim (cases_lt MAX_SHORT_LENGTH (length part + 2)) [
      | inr short ↦ inl (record { octets = framed-short kind part short; fits = omega arith })
      | inl long ↦ inr (record {
        high = (length part + 4) / 256;
        low = (length part + 4) % 256;
        total = IsNumber-halves (length part + 4) fits;
        octets = framed-long kind part long;
      })
    ]

part-length : (kind : ℕ) (part : List ℕ) → length (framed kind part) ≤ MAX_DATAGRAM → length part + 4 < 2 ^ 16
part-length kind part fits =
    elim (cases_lt MAX_SHORT_LENGTH (length part + 2)) [
      | inr short ↦ omega arith
      | inl long ↦
          (let shown : length (1 ∷ number_then (length part + 4) (kind ∷ part)) ≤ MAX_DATAGRAM =
          rw (framed-long kind part long) at fits in omega arith)
    ]

-- a frame whose parts fit is written as bytes that spell it
pub Spells-written : (frame : SnFrame) → IsInRange frame → TopicFits frame
    → length (written frame) ≤ MAX_DATAGRAM → Spells frame (written frame)
Spells-written frame fits topic short = record {
  part = part_of frame;
  variable = SpellsPart-part_of frame fits topic;
  message =
      SpellsMessage-framed (octet_of (type_of frame)) (part_of frame)
      (part-length (octet_of (type_of frame)) (part_of frame) short);
}

-- a Length counts less than 65,536 octets
message-length : (kind : ℕ) (part b : List ℕ) → SpellsMessage kind part b → length part + 4 < 2 ^ 16
message-length kind part b (inl s) = omega (arith, s.fits)
message-length kind part b (inr s) = omega (arith, s.total.high_fits, s.total.low_fits, s.total.value)

-- a frame that has a spelling is written as one
pub Spells-spelled : (frame : SnFrame) (b : List ℕ) → Spells frame b → Spells frame (written frame)
Spells-spelled frame b s =
    let only = part_of-only frame s.part s.variable in
    record {
      part = part_of frame;
      variable = subst (SpellsPart frame) only s.variable;
      message = SpellsMessage-framed (octet_of (type_of frame)) (part_of frame)
          (subst (λ part. length part + 4 < 2 ^ 16) only
          (message-length (octet_of (type_of frame)) s.part b s.message));
    }

-- every other spelling is longer
framed-shortest : (kind : ℕ) (part b : List ℕ) → SpellsMessage kind part b → (b ≡ framed kind part)
    ⊎ (length (framed kind part) < length b)
framed-shortest kind part b (inl s) = inl (s.octets ∙ sym (framed-short kind part (omega (arith, s.fits))))
framed-shortest kind part b (inr s) =
    elim (cases_lt MAX_SHORT_LENGTH (length part + 2)) [
      | inr short ↦
          (let one : length (framed kind part) ≡ length part + 2 =
          ap length (framed-short kind part short) ∙ omega arith in
          let three : length b ≡ length part + 4 = ap length s.octets ∙ omega arith in
          inr (omega (arith, one, three)))
      | inl long ↦
          inl
          (s.octets
          ∙ ap (λ rest. 1 ∷ rest) (number_then-halves (length part + 4) s.high s.low (kind ∷ part) s.total)
          ∙ sym (framed-long kind part long))
    ]

pub written-shortest : (frame : SnFrame) (b : List ℕ) → Spells frame b → (b ≡ written frame)
    ⊎ (length (written frame) < length b)
written-shortest frame b s =
    subst
    (λ part. (b ≡ framed (octet_of (type_of frame)) part)
    ⊎ (length (framed (octet_of (type_of frame)) part) < length b))
    (part_of-only frame s.part s.variable) (framed-shortest (octet_of (type_of frame)) s.part b s.message)

-- one whose parts fit has one, unless it is too long
pub some-spelled : (frame : SnFrame) → IsInRange frame → TopicFits frame → HasNoSpelling frame → ⊥
some-spelled frame fits topic lacks = lacks.none (written frame) (Spells-written frame fits topic lacks.short)
